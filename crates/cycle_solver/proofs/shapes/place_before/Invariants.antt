use Rattle.std.proofs.Common.{ℕ, ◌<◌, ◌≢◌, get_or}
use Rattle.cycle_solver.proofs.shapes.place_before.Given as goal

abbrev pub invariant-places : goal.invariant-places
invariant-places l = (k : ℕ) → k < l.candidate → get_or l.turn.places k 0 ≢ l.fn.place
