use Rattle.std.proofs.Common.{◌≡◌, ◌<◌, true, length, map, rules, subst}
use Rattle.std.specs.Prelude.{IfSome}
use Rattle.sgf_tree.specs.Reading.{property_text, node_text}
use Rattle.sgf_go.specs.Setup.{TerritoryPart}
use Rattle.sgf_go.specs.Territory.{MarksTerritory}
use Rattle.sgf_go.proofs.SealLemmas.{answers_like, last_marks}
use Rattle.sgf_go.proofs.replay.Replay.read_territory.Goals as goal

pub returns-in-Some-clause-answer : goal.returns-in-Some-clause-answer
returns-in-Some-clause-answer c =
    let line = c.args.line.now in
    let s = c.args.self.now in
    let node = c.in-Some.node in
    let on : node < length line = subst (λ o. IfSome o (λ n. n < length line)) c.in-Some.is c.requires.last in
    let asks : c.args.asked ≡ true = search rules in
    answers_like (MarksTerritory node (map property_text c.deref.result.now)) (TerritoryPart c.args.asked (map node_text line)) s c.mark_territory.new.self c.mark_territory.result
    (last_marks c.args.asked line s node c.index-line-node.result c.deref.result.now asks c.in-Some.is on c.deref.ensures.value)
    c.mark_territory.ensures.answer
