-- The points that faults name.
use Rattle.std.specs.Prelude.{◌<◌, ℕ, All}
use Rattle.endgame_solver.specs.declared.faults.SolveError.{SolveError}
use Rattle.endgame_solver.specs.declared.faults.SolveError.TheVariants.{Points, Positions, Cycle, Form, Memory}

-- the points that the fault names are below the number
abbrev pub NamesPoints : ℕ → SolveError → Type 0
NamesPoints area (Points p n) = p < area
NamesPoints area (Positions p) = p < area
NamesPoints area (Cycle p names back) = (p < area) × All (λ m. m.1 < area) names
NamesPoints area (Form p) = p < area
NamesPoints area (Memory e) = Unit {0}
