-- Where a game stands among the numbers: floors and ceilings, over half parts of a power of two.
use Rattle.std.specs.Prelude.{ℕ, ◌↔◌, ℤ, ◌+ℤ◌, ◌≤ℤ◌}
use Rattle.short_games.specs.Tree.{Tree}
use Rattle.short_games.specs.Order.{◌≤ᵍ◌}
use Rattle.short_games.specs.Number.{num}

-- how X stands to the numbers num e z: at or below just those with h <= 2 z, and at or above just those with 2 z <= h
pub record IsCell (e : ℕ) (X : Tree) (h : ℤ) : Type 0 where
  pub under : (z : ℤ) → (X ≤ᵍ num e z) ↔ (h ≤ℤ (z +ℤ z))
  pub over : (z : ℤ) → (num e z ≤ᵍ X) ↔ ((z +ℤ z) ≤ℤ h)

-- the numbers at most G are those up to the floor
abbrev pub IsFloor : ℕ → Tree → ℤ → Type 0
IsFloor e G k = (f : ℕ) (m h : ℤ) → IsCell e (num f m) h → (num f m ≤ᵍ G) ↔ (h ≤ℤ k)

-- the numbers at least G are those from the ceiling on
abbrev pub IsCeiling : ℕ → Tree → ℤ → Type 0
IsCeiling e G k = (f : ℕ) (m h : ℤ) → IsCell e (num f m) h → (G ≤ᵍ num f m) ↔ (k ≤ℤ h)
