use Rattle.endgame_solver.proofs.SharingLaws.{AreTurnedBelow}
use Rattle.endgame_solver.proofs.view_book.negatives.Given as goal

abbrev pub invariant-ids : goal.invariant-ids
invariant-ids l = AreTurnedBelow l.initial.store l.ids l.store l.known.items l.turned l.id-index
