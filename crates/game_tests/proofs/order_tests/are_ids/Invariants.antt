use Rattle.std.proofs.Common.{ℕ, ◌<◌, get_or, length}
use Rattle.game_tests.proofs.order_tests.are_ids.Given as goal

abbrev pub invariant-loop-id : goal.invariant-loop-id
invariant-loop-id l = (j : ℕ) → j < l.id-index → get_or l.ids j 0 < length l.store
