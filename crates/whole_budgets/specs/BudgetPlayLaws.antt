-- What winning with budgets says of the whole game.
use Rattle.std.specs.Prelude.{ℕ, ◌≡◌, ◌<◌, ◌↔◌, List, length, slice_index}
use Rattle.go_grid.specs.declared.grid.Cell.{Cell}
use Rattle.go_grid.specs.declared.grid.Colour.{Colour}
use Rattle.go_grid.specs.Board.{Board}
use Rattle.go_grid.specs.Chain.{IsSettled}
use Rattle.go_grid.specs.Region.{Region}
use Rattle.local_play.specs.LocalPlay.{IsLocalMove}
use Rattle.local_graph.specs.Returns.{IsCapture, Returns}
use Rattle.region_cut.specs.Cut.{IsRegionOfPlay}
use Rattle.region_cut.specs.LocalBoard.{HoldsPosition}
use Rattle.whole_rules.specs.declared.states.Move.TheVariants.{Stone}
use Rattle.whole_rules.specs.WholeGame.{Whole, IsMove}
use Rattle.whole_rules.specs.FirstWinningMove.{IsWinner}
use Rattle.whole_budgets.specs.BudgetPlay.{AreAtMost, IsReturningCapture, WinsWithBudgets, WinsWithCaptures}

-- what a player wins with budgets that player wins by plain recursion
abbrev pub BudgetsWinTheGame : Type 0
BudgetsWinTheGame = (regions : List Region) (owner : Colour) (s : Whole) (b : Region → ℕ) → WinsWithBudgets regions owner s b → IsWinner s owner

-- what a player wins with budgets that player wins with all that are no less
abbrev pub GreaterBudgetsWin : Type 0
GreaterBudgetsWin = (regions : List Region) (owner : Colour) (s : Whole) (b c : Region → ℕ) → AreAtMost regions b c
    → WinsWithBudgets regions owner s b → WinsWithBudgets regions owner s c

-- who wins by plain recursion is exactly who wins with some number of captures that return in each region
abbrev pub SomeCapturesWin : Type 0
SomeCapturesWin = (regions : List Region) (owner : Colour) (s : Whole) → IsWinner s owner ↔ ((j : ℕ) × WinsWithCaptures regions owner s j)

-- no two players win one state with budgets, whatever these are
abbrev pub OneWinsWithBudgets : Type 0
OneWinsWithBudgets = (regions : List Region) (c d : Colour) (s : Whole) (b e : Region → ℕ)
    → WinsWithBudgets regions c s b → WinsWithBudgets regions d s e → c ≡ d

-- in a region of play of a settled board a stone is a capture that returns exactly where its local move is one
abbrev pub StonesReturnLocally : Type 0
StonesReturnLocally = (g : Board) (r : Region) (s t : Whole) (i : ℕ) (before after : List Cell) → IsSettled g → IsRegionOfPlay g r
    → HoldsPosition g r before s.board → i < length r.points → IsMove s (Stone (slice_index r.points i)) t → IsLocalMove r.touch before s.side i after
    → IsReturningCapture r s (Stone (slice_index r.points i)) t ↔ (IsCapture before after × Returns r.touch before after)
