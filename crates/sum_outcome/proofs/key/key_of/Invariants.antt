use Rattle.sum_outcome.proofs.KeyLaws.{SplitSoFar}
use Rattle.sum_outcome.proofs.key.key_of.Given as goal

abbrev pub invariant-splitting : goal.invariant-splitting
invariant-splitting l = SplitSoFar l.store l.sum l.fn.number l.games.items l.total l.id-index
