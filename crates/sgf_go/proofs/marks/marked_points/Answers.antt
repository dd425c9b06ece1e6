use Rattle.std.specs.Prelude.{map}
use Rattle.sgf_tree.specs.Reading.{property_text}
use Rattle.sgf_go.proofs.MarkLemmas.{marked_both}
use Rattle.sgf_go.proofs.marks.marked_points.Goals as goal

pub returns-clause-some : goal.returns-clause-some
returns-clause-some c = marked_both (map property_text c.args.properties.now) c.args.board.now c.in_ok-black.black c.in_ok-white.white
    (record { black = c.without_stones.result; white = c.without_stones-2.result }) (c.in_ok-black.ensures {u = tt}).some (c.in_ok-white.ensures {u = tt}).some
    c.without_stones.ensures c.without_stones-2.ensures
