-- What the engine asks of a game in which kos can arise: moves that keep winning with budgets, and moves that hold off.
use Rattle.std.specs.Prelude.{ℕ, ◌+◌, ◌^◌, ◌<◌, ◌≤◌, List, Option, None, Some}
use Rattle.go_grid.specs.declared.grid.TheConstants.{MOST_POINTS}
use Rattle.go_grid.specs.Region.{Region}
use Rattle.whole_rules.specs.declared.states.Move.{Move}
use Rattle.whole_rules.specs.declared.states.Move.TheVariants.{Stone}
use Rattle.whole_rules.specs.WholeGame.{Whole, rank}
use Rattle.whole_budgets.specs.EnginePlay.{KeepsWinning}

-- both purses can take what one more move pays in
pub record HasRoom (s : Whole) : Type 0 where
  pub black : s.purses.black + 33 ≤ 2 ^ 41
  pub white : s.purses.white + 33 ≤ 2 ^ 41

-- behind the move the side that made it wins with the budgets that it leaves
abbrev pub Keeps : List Region → Whole → List ℕ → Move → Type 0
Keeps regions s bs m = (t : Whole) × (cs : List ℕ) × KeepsWinning regions s bs m t cs

-- the first move of the kind, or that there is none
abbrev pub IsFirstOf : (Move → Type 0) → Option Move → Type 0
IsFirstOf Is (Some m) = Is m × ((k : Move) → Is k → rank m ≤ rank k)
IsFirstOf Is None = (k : Move) → ¬ Is k

-- of the stones of the kind the one at the lowest point, or that there is none
abbrev pub IsFirstStoneOf : (Move → Type 0) → Option ℕ → Type 0
IsFirstStoneOf Is (Some p) = (p < MOST_POINTS) × Is (Stone p) × ((q : ℕ) → q < p → ¬ Is (Stone q))
IsFirstStoneOf Is None = (q : ℕ) → ¬ Is (Stone q)
