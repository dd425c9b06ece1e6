-- The simplest number between the options of a game.
use Rattle.short_games.specs.Tree.{Tree, left, right, Has}
use Rattle.short_games.specs.Order.{◌≤ᵍ◌}
use Rattle.short_games.specs.Number.{IsNumberTree}

-- X fits between the options of G: no Left option of G is at least X, and no Right option at most X
pub record FitsForm (G X : Tree) : Type 0 where
  pub over_left : (L : Tree) → Has (left G) L → X ≤ᵍ L → ⊥
  pub under_right : (R : Tree) → Has (right G) R → R ≤ᵍ X → ⊥

-- X is the simplest number that fits: a number that fits, of which no option does
pub record IsSimplestFor (G X : Tree) : Type 0 where
  pub number : IsNumberTree X
  pub fits : FitsForm G X
  pub no_left : (Y : Tree) → Has (left X) Y → FitsForm G Y → ⊥
  pub no_right : (Y : Tree) → Has (right X) Y → FitsForm G Y → ⊥
