use Rattle.sgf_tree.specs.Reading.{property_text}
use Rattle.sgf_go.specs.Territory.{HasValue, Names, NamesNothing}
use Rattle.sgf_go.proofs.MarkLemmas.{Gathers}
use Rattle.sgf_go.proofs.marks.mark_properties.Given as goal

abbrev pub invariant-loop-at : goal.invariant-loop-at
invariant-loop-at l = Gathers (λ p x. HasValue l.name (Names l.board p) (property_text x)) (λ x. HasValue l.name (NamesNothing l.board) (property_text x)) l.properties l.fn.points l.at l.points
