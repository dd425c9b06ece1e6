use Rattle.std.proofs.Common.{◌+◌, ◌*◌}
use Rattle.game_tests.proofs.plain_sum_tests.+plain.Given as goal

abbrev pub decreases-loses_plainly : goal.decreases-loses_plainly
decreases-loses_plainly l = 2 * l.fuel + 1

abbrev pub decreases-wins_in_first : goal.decreases-wins_in_first
decreases-wins_in_first l = 2 * l.fuel

abbrev pub invariant-wins_in_first-options : goal.invariant-wins_in_first-options
invariant-wins_in_first-options l = Unit {0}
