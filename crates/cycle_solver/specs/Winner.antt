-- Who wins a state in which kos can arise, and with how many captures that return.
use Rattle.std.specs.Prelude.{ℕ, List, Option, None, Some}
use Rattle.go_grid.specs.declared.grid.Colour.{Colour}
use Rattle.go_grid.specs.Region.{Region}
use Rattle.whole_rules.specs.FirstWinningMove.{IsWinner}
use Rattle.whole_rules.specs.declared.states.Move.{Move}
use Rattle.whole_rules.specs.WholeGame.{Whole, IsMove}
use Rattle.whole_budgets.specs.EnginePlay.{AreLeastCaptures}

-- the winner of the state, or that it has none
abbrev pub TellsWinner : Whole → Option Colour → Type 0
TellsWinner s (Some c) = IsWinner s c
TellsWinner s None = (c : Colour) → ¬ IsWinner s c

-- with how many captures the winner of the state wins, or that it has none
abbrev pub TellsCaptures : List Region → Whole → Option ℕ → Type 0
TellsCaptures regions s (Some n) = (c : Colour) × AreLeastCaptures regions s c n
TellsCaptures regions s None = (c : Colour) → ¬ IsWinner s c

-- the winner of each state that the move leads to, or that they have none
abbrev pub TellsWinnerAfter : Whole → Move → Option Colour → Type 0
TellsWinnerAfter s m winner = (t : Whole) → IsMove s m t → TellsWinner t winner
