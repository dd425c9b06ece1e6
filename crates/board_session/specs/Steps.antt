-- How many steps a line takes: those to solve the board, one for each position of a region that is expanded.
use Rattle.std.specs.Prelude.{◌≡◌, ◌⊎◌, ◌+◌, ◌≤◌, ℕ, List}
use Rattle.go_grid.specs.Region.{Region}
use Rattle.region_cut.specs.Cut.{AreRegionsOfPlay}
use Rattle.endgame_solver.specs.Faults.{most_steps}
use Rattle.gtp_words.specs.Steps.{LineSteps}
use Rattle.gtp_words.specs.Words.{LineAsks}
use Rattle.board_session.specs.declared.limits.BoardLimits.{BoardLimits}
use Rattle.board_orders.specs.Orders.{Asked, Asks, BoardOrder}
use Rattle.board_orders.specs.Orders.Asked.{something}
use Rattle.board_orders.specs.Orders.BoardOrder.{analyse, genmove, reg_genmove}
use Rattle.board_orders.specs.States.{BoardState, present}

-- the order asks the solver
abbrev pub OrderSolves : BoardOrder → Type 0
OrderSolves (genmove c) = Unit {0}
OrderSolves (reg_genmove c) = Unit {0}
OrderSolves (analyse x) = Unit {0}
OrderSolves order = ⊥

-- what the words ask for is asked of the solver
abbrev pub AskToSolve : Asked → Type 0
AskToSolve (something order) = OrderSolves order
AskToSolve asked = ⊥

-- these are at most the steps to solve the board that stands: for its regions of play
abbrev pub SolvesWithin : BoardLimits → BoardState → ℕ → ℕ → Type 0
SolvesWithin limits s before now = (regions : List Region) → AreRegionsOfPlay (present s).board regions → now ≤ before + most_steps limits.game regions

-- the steps of a line: none, or where it asks the solver those to solve the board
abbrev pub AreLineSteps : BoardLimits → LineSteps BoardState
AreLineSteps limits s line before now = (now ≡ before) ⊎ (LineAsks Asks ⊥ AskToSolve line × SolvesWithin limits s before now)
