use Rattle.sum_outcome.proofs.ExampleLaws.{ShiftedSoFar}
use Rattle.game_tests.proofs.sum_tests.shifted.Given as goal

abbrev pub invariant-adding : goal.invariant-adding
invariant-adding l = ShiftedSoFar l.store l.game l.games.items l.n
