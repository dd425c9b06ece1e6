-- Play on the whole board in which one player, the owner, has a budget of captures that return for each region, and the other
-- is free.
use Rattle.std.specs.Prelude.{ℕ, ◌+◌, ◌≤◌, ◌≡◌, ◌≢◌, ◌⊎◌, List, map, Contains}
use Rattle.go_grid.specs.declared.grid.Cell.{Cell}
use Rattle.go_grid.specs.declared.grid.Colour.{Colour}
use Rattle.go_grid.specs.Board.{Board, cell_at, other}
use Rattle.go_grid.specs.Region.{Region}
use Rattle.local_graph.specs.Returns.{IsCapture, Returns}
use Rattle.whole_rules.specs.declared.states.Move.{Move}
use Rattle.whole_rules.specs.declared.states.Move.TheVariants.{Stone, Spend, Half}
use Rattle.whole_rules.specs.PlainRecursion.{MoverWins, MoverLoses}
use Rattle.whole_rules.specs.WholeGame.{Whole, IsMove}

-- a state, and how many captures that return the owner may still make in each region
pub record Budgeted : Type 0 where
  pub state : Whole
  pub budgets : Region → ℕ

-- the position of the region on the board: what each of its points holds
abbrev pub position_on : Region → Board → List Cell
position_on r h = map (λ p. cell_at h p) r.points

-- the move from the one state to the other is a stone in the region whose local move is a capture that returns
abbrev pub IsReturningCapture : Region → Whole → Move → Whole → Type 0
IsReturningCapture r s (Stone p) t = Contains r.points p × IsCapture (position_on r s.board) (position_on r t.board)
    × Returns r.touch (position_on r s.board) (position_on r t.board)
IsReturningCapture r s Spend t = ⊥
IsReturningCapture r s Half t = ⊥

-- the owner's budget for a region after a move: one less where the move is a capture in it that returns, for which there must be
-- one, and else as before
abbrev pub IsBudgetAfter : Region → Whole → Move → Whole → ℕ → ℕ → Type 0
IsBudgetAfter r s m t b c = (IsReturningCapture r s m t × (b ≡ c + 1)) ⊎ (¬ IsReturningCapture r s m t × (b ≡ c))

-- the budgets for the regions after a move by the owner
abbrev pub AreBudgetsAfter : List Region → Whole → Move → Whole → (Region → ℕ) → (Region → ℕ) → Type 0
AreBudgetsAfter regions s m t b c = (r : Region) → Contains regions r → IsBudgetAfter r s m t (b r) (c r)

-- the budgets for the regions are the same
abbrev pub AreSame : List Region → (Region → ℕ) → (Region → ℕ) → Type 0
AreSame regions b c = (r : Region) → Contains regions r → b r ≡ c r

-- no region has a greater budget the first time than the second
abbrev pub AreAtMost : List Region → (Region → ℕ) → (Region → ℕ) → Type 0
AreAtMost regions b c = (r : Region) → Contains regions r → b r ≤ c r

-- some move leads from the one state to the other; where it is the owner's, the budgets pay for it, and else they stay
abbrev pub LeadsWithin : List Region → Colour → Budgeted → Budgeted → Type 0
LeadsWithin regions owner p q = (m : Move) × IsMove p.state m q.state
    × (((p.state.side ≡ owner) × AreBudgetsAfter regions p.state m q.state p.budgets q.budgets)
    ⊎ ((p.state.side ≢ owner) × AreSame regions p.budgets q.budgets))

-- the owner wins with the budgets: as the player to move, or as the other one
abbrev pub WinsWithBudgets : List Region → Colour → Whole → (Region → ℕ) → Type 0
WinsWithBudgets regions owner s b =
    ((owner ≡ s.side) × MoverWins Budgeted (LeadsWithin regions owner) (record { state = s; budgets = b }))
    ⊎ ((owner ≡ other s.side) × MoverLoses Budgeted (LeadsWithin regions owner) (record { state = s; budgets = b }))

-- the owner wins with so many captures that return in each region
abbrev pub WinsWithCaptures : List Region → Colour → Whole → ℕ → Type 0
WinsWithCaptures regions owner s j = WinsWithBudgets regions owner s (λ r. j)
