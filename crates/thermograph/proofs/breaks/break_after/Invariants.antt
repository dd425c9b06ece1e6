use Rattle.std.proofs.Common.{◌⊎◌, ◌<◌, ◌≤◌, ℕ, get_or}
use Rattle.thermograph.proofs.WallLaws.{no_break}
use Rattle.thermograph.proofs.breaks.break_after.Given as goal

abbrev pub invariant-loop-point : goal.invariant-loop-point
invariant-loop-point l = (l.start < l.next) × (l.next ≤ l.end) × ((j : ℕ) → j < l.point-index → ((get_or l.breaks j no_break).at ≤ l.start) ⊎ (l.next ≤ (get_or l.breaks j no_break).at))
