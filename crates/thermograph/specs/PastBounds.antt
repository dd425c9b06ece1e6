-- Break points past the bounds of a Dyadic.
use Rattle.std.specs.Prelude.{ℕ, ◌≡◌, ◌^◌, ◌⊎◌, ℤ, pos, ◌*ℤ◌}
use Rattle.dyadic_num.specs.declared.TheConstants.{EXPONENT}
use Rattle.dyadic_num.specs.Units.{IsInBounds}
use Rattle.short_games.specs.Tree.{Tree}
use Rattle.short_games.specs.Parts.{IsPart}
use Rattle.short_games.specs.WallGrids.{Bends, HasWalls, IsMeeting}

-- n / 2 ^ k is within the bounds of a Dyadic: it is the number of some u parts of 2 ^ -60
abbrev pub IsFractionInBounds : ℕ → ℤ → Type 0
IsFractionInBounds k n = (u : ℤ) × IsInBounds u × (n *ℤ pos (2 ^ EXPONENT) ≡ u *ℤ pos (2 ^ k))

-- a wall has a break point at t, where l and r are the walls: at 0, where its slope changes, or where the two meet
abbrev pub IsBreak : (l r wall : ℕ → ℤ) → ℕ → Type 0
IsBreak l r wall t = (t ≡ 0) ⊎ (Bends wall t ⊎ ((x : ℤ) × IsMeeting l r t x))

-- a break point (t, x) of a wall of P is past the bounds: t or x is
pub record HasBreakPast (P : Tree) : Type 0 where
  pub grid : ℕ
  pub left : ℕ → ℤ
  pub right : ℕ → ℤ
  pub walls : HasWalls grid P left right
  pub wall : ℕ → ℤ
  pub one : (wall ≡ left) ⊎ (wall ≡ right)
  pub place : ℕ
  pub breaks : IsBreak left right wall place
  pub past : ¬ IsFractionInBounds grid (pos place) ⊎ ¬ IsFractionInBounds grid (wall place)

-- some break point of the game or of one of its parts is past the bounds
abbrev pub IsDrawnPastBounds : Tree → Type 0
IsDrawnPastBounds G = (P : Tree) × ((P ≡ G) ⊎ IsPart G P) × HasBreakPast P
