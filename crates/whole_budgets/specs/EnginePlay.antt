-- How the engine plays where kos can arise: by budgets of captures that return, which it keeps from the first turn on which it wins.
use Rattle.std.specs.Prelude.{ℕ, zero, suc, ◌≡◌, ◌⊎◌, ◌<◌, ◌≤◌, List, [], ◌∷◌, length, replicate, set, slice_index_or, Option, None, Some, cond, nat_eq}
use Rattle.go_grid.specs.declared.grid.Colour.{Colour}
use Rattle.go_grid.specs.Board.{other}
use Rattle.go_grid.specs.Region.{Region}
use Rattle.region_cut.specs.Cut.{lowest}
use Rattle.whole_rules.specs.declared.states.Move.{Move}
use Rattle.whole_rules.specs.FirstWinningMove.{IsWinner}
use Rattle.whole_rules.specs.WholeGame.{Whole, IsFirstMove, IsMove, rank}
use Rattle.endgame_solver.specs.Regions.{region_at}
use Rattle.whole_budgets.specs.BudgetPlay.{IsBudgetAfter, WinsWithBudgets, WinsWithCaptures}

-- the budget that a list gives a region of play: that at the region's place, which its lowest point tells
abbrev pub budget_in : List Region → List ℕ → Region → ℕ
budget_in (q ∷ qs) (b ∷ bs) r = cond (nat_eq (lowest q) (lowest r)) b (budget_in qs bs r)
budget_in _ _ r = 0

-- the colour wins with a budget for each region, in their order
abbrev pub WinsWithList : List Region → Colour → Whole → List ℕ → Type 0
WinsWithList regions c s bs = WinsWithBudgets regions c s (budget_in regions bs)

-- what a colour keeps serves: there is a budget for each region, and the colour wins with them
abbrev pub Serves : List Region → Colour → Whole → Option (List ℕ) → Type 0
Serves regions c s None = Unit {0}
Serves regions c s (Some bs) = (length bs ≡ length regions) × WinsWithList regions c s bs

-- the player wins with so many captures that return in each region, and with no fewer
pub record AreLeastCaptures (regions : List Region) (s : Whole) (c : Colour) (n : ℕ) : Type 0 where
  pub wins : WinsWithCaptures regions c s n
  pub least : (j : ℕ) → j < n → ¬ WinsWithCaptures regions c s j

-- what the side to move has at its turn: the budgets that it keeps; or where it keeps none and wins, the least captures for each region
abbrev pub HasAtTurn : List Region → Whole → Option (List ℕ) → Option (List ℕ) → Type 0
HasAtTurn regions s (Some bs) now = now ≡ Some bs
HasAtTurn regions s None (Some bs) = (n : ℕ) × AreLeastCaptures regions s s.side n × (bs ≡ replicate (length regions) n)
HasAtTurn regions s None None = ¬ IsWinner s s.side

-- the number is the least that serves for the region at the place, where the other budgets are as they are
pub record IsLeastAt (regions : List Region) (s : Whole) (bs : List ℕ) (k n : ℕ) : Type 0 where
  pub wins : WinsWithList regions s.side s (set bs k n)
  pub least : (j : ℕ) → j < n → ¬ WinsWithList regions s.side s (set bs k j)

-- so many of the first regions, one after the other, have got the least budget that serves
abbrev pub AreReducedBelow : List Region → Whole → ℕ → List ℕ → List ℕ → Type 0
AreReducedBelow regions s zero bs cs = cs ≡ bs
AreReducedBelow regions s (suc k) bs cs = (ds : List ℕ) × (n : ℕ) × AreReducedBelow regions s k bs ds × IsLeastAt regions s ds k n × (cs ≡ set ds k n)

-- the listed budgets after a move of the side to move
pub record AreListedAfter (regions : List Region) (s : Whole) (m : Move) (t : Whole) (bs cs : List ℕ) : Type 0 where
  pub many : length cs ≡ length regions
  pub each : (k : ℕ) → k < length regions → IsBudgetAfter (region_at regions k) s m t (slice_index_or bs k 0) (slice_index_or cs k 0)

-- behind the move the side that made it wins with the budgets as the move leaves them
pub record KeepsWinning (regions : List Region) (s : Whole) (bs : List ℕ) (m : Move) (t : Whole) (cs : List ℕ) : Type 0 where
  pub moved : IsMove s m t
  pub paid : AreListedAfter regions s m t bs cs
  pub wins : WinsWithList regions s.side t cs

-- and no earlier move does so
pub record IsFirstKeeping (regions : List Region) (s : Whole) (bs : List ℕ) (m : Move) (t : Whole) (cs : List ℕ) : Type 0 where
  pub keeps : KeepsWinning regions s bs m t cs
  pub first : (k : Move) (u : Whole) (es : List ℕ) → KeepsWinning regions s bs k u es → rank m ≤ rank k

-- behind the move the other side isn't the winner
abbrev pub HoldsOff : Whole → Move → Type 0
HoldsOff s m = (t : Whole) × IsMove s m t × ¬ IsWinner t (other s.side)

-- the first move behind which the other side isn't the winner, or the first move where there is none
abbrev pub ChoosesUnwon : Whole → Move → Type 0
ChoosesUnwon s m = (HoldsOff s m × ((k : Move) → HoldsOff s k → rank m ≤ rank k)) ⊎ (((k : Move) → ¬ HoldsOff s k) × IsFirstMove s (Some m))

-- the engine's move by what it has at its turn, and what it keeps
abbrev pub MovesWith : List Region → Whole → Option (List ℕ) → Move → Whole → Option (List ℕ) → Type 0
MovesWith regions s None m t left = ChoosesUnwon s m × IsMove s m t × (left ≡ None)
MovesWith regions s (Some bs) m t left = (cs : List ℕ) × (ds : List ℕ) × AreReducedBelow regions s (length regions) bs cs
    × IsFirstKeeping regions s cs m t ds × (left ≡ Some ds)

-- the engine's move by what its colour, the side to move, has kept, and what it keeps
abbrev pub EngineMoves : List Region → Whole → Option (List ℕ) → Move → Whole → Option (List ℕ) → Type 0
EngineMoves regions s kept m t left = (now : Option (List ℕ)) × HasAtTurn regions s kept now × MovesWith regions s now m t left
