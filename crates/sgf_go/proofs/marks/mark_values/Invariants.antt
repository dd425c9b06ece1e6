use Rattle.sgf_go.specs.Values.{trimmed}
use Rattle.sgf_go.specs.Territory.{Names, NamesNothing}
use Rattle.sgf_go.proofs.MarkLemmas.{Gathers}
use Rattle.sgf_go.proofs.marks.mark_values.Given as goal

abbrev pub invariant-loop-at : goal.invariant-loop-at
invariant-loop-at l = Gathers (λ p v. Names l.board p (trimmed v.items)) (λ v. NamesNothing l.board (trimmed v.items)) l.values l.fn.points l.at l.points
