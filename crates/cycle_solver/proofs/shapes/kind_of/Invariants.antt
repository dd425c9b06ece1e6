use Rattle.std.proofs.Common.{ℕ, ◌<◌, ◌≡◌, ◌≢◌, get_or}
use Rattle.cycle_solver.specs.declared.shapes.Kind.{Kind}
use Rattle.cycle_solver.proofs.shapes.kind_of.Given as goal

abbrev pub invariant-kinds : goal.invariant-kinds
invariant-kinds l = (j : ℕ) (kind : Kind) → j < l.place → get_or l.kinds j kind ≡ kind → kind.shape.spots.items ≢ l.shape.spots.items
