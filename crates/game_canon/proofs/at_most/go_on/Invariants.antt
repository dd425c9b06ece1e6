use Rattle.std.proofs.Common.{ℕ, ◌<◌, ◌+◌, ◌-◌, length}
use Rattle.game_canon.specs.inner.Games.{trees}
use Rattle.game_canon.specs.inner.Comparisons.{counter, IsCountered}
use Rattle.game_canon.proofs.at_most.go_on.Given as goal

abbrev pub invariant-counters : goal.invariant-counters
invariant-counters l = (j : ℕ) → j < l.place → j < length l.left + length l.right → IsCountered (trees l.games) (counter l.question.game l.question.other l.left l.right j) → ⊥

abbrev pub decreases-counters : goal.decreases-counters
decreases-counters l = (length l.left + length l.right) - l.place
