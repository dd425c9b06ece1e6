use Rattle.std.specs.Prelude.{map}
use Rattle.sgf_tree.specs.Reading.{property_text}
use Rattle.sgf_go.proofs.SealLemmas.{marked_closed, seals_marked, twice_marked}
use Rattle.sgf_go.proofs.replay.Replay.mark_territory.Goals as goal

pub returns-in-Some-marked_twice-clause-answer : goal.returns-in-Some-marked_twice-clause-answer
returns-in-Some-marked_twice-clause-answer c =
    twice_marked c.args.node (map property_text c.args.properties.now) c.args.self.now c.in-Some.marks c.in-Some-marked_twice.point
    (c.in-Some.ensures {u = tt}).some (c.in-Some.ensures {u = tt}).good (c.in-Some-marked_twice.ensures {u = tt}).some

pub returns-in_ok-seal-in-None-clause-answer : goal.returns-in_ok-seal-in-None-clause-answer
returns-in_ok-seal-in-None-clause-answer c =
    seals_marked c.args.node (map property_text c.args.properties.now) c.args.self.now c.seal.new.self c.in-Some.marks
    (c.in-Some.ensures {u = tt}).some (c.in-Some.ensures {u = tt}).good (c.in-None.ensures {u = tt}).none (c.in_ok-seal-in-None.ensures {u = tt}).sealed

pub returns-in_ok-seal-in-None-clause-closed : goal.returns-in_ok-seal-in-None-clause-closed
returns-in_ok-seal-in-None-clause-closed c =
    marked_closed (map property_text c.args.properties.now) c.args.self.now c.seal.new.self c.in-Some.marks
    (c.in-Some.ensures {u = tt}).some (c.in_ok-seal-in-None.ensures {u = tt}).sealed
