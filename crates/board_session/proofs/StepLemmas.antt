-- How many steps a line takes.
use Rattle.std.proofs.Common.{◌≡◌, ◌⊎◌, ◌+◌, ◌≤◌, ℕ, List, inr, subst, sym}
use Rattle.go_grid.specs.Region.{Region}
use Rattle.region_cut.specs.Cut.{AreRegionsOfPlay}
use Rattle.endgame_solver.specs.Faults.{most_steps}
use Rattle.gtp_words.specs.Loads.{Loads}
use Rattle.board_session.specs.declared.limits.BoardLimits.{BoardLimits}
use Rattle.board_orders.specs.Orders.{BoardOrder}
use Rattle.board_orders.specs.States.{BoardState, present}
use Rattle.board_session.specs.Steps.{OrderSolves, SolvesWithin}
use Rattle.board_session.specs.Written.{BoardEngine}

-- the steps of an order that asks the solver, by those of a session that stands in the engine
pub solver_steps : (limits : BoardLimits) (loads : Loads) (state : BoardState) (a : BoardEngine) → record { limits = limits; state = state; loads = loads } ≡ a
    → (ordered order : BoardOrder) → ordered ≡ order → OrderSolves order → (before now : ℕ)
    → ((regions : List Region) → AreRegionsOfPlay (present state).board regions → now ≤ before + most_steps limits.game regions)
    → (now ≡ before) ⊎ (OrderSolves ordered × SolvesWithin a.limits a.state before now)
solver_steps limits loads state a is ordered order same_order solves before now few =
    inr (subst OrderSolves (sym same_order) solves, subst (λ e. SolvesWithin e.limits e.state before now) is few)
