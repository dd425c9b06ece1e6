-- Stops of canonical trees: the numbers that a game comes to when the two sides move in turn and stop at the first number.
-- Whether a tree is a number is told by the tree, so of another form that is equal to a number these aren't its stops: the
-- stops of games in any form are in `GameStops`. Here x stands for x / 2 ^ e.
use Rattle.std.specs.Prelude.{ℕ, ◌≡◌, ◌⊎◌, ℤ, pos, ◌+ℤ◌, ◌≤ℤ◌}
use Rattle.short_games.specs.Tree.{Tree, Trees, node, none, more}
use Rattle.short_games.specs.Number.{num, IsNumberTree}

module _ (e : ℕ) where
  unfoldable mutual
    -- x is the left stop of the canonical tree: of a number the number, else the greatest right stop of a Left option
    pub IsLeftStop : Tree → ℤ → Type 0
    IsLeftStop (node ls rs) x = (node ls rs ≡ num e x) ⊎ ((IsNumberTree (node ls rs) → ⊥) × IsGreatestRight ls x)

    -- x is the right stop of the canonical tree: of a number the number, else the least left stop of a Right option
    pub IsRightStop : Tree → ℤ → Type 0
    IsRightStop (node ls rs) x = (node ls rs ≡ num e x) ⊎ ((IsNumberTree (node ls rs) → ⊥) × IsLeastLeft rs x)

    -- x is the greatest right stop of the listed canonical trees
    pub IsGreatestRight : Trees → ℤ → Type 0
    IsGreatestRight none x = ⊥
    IsGreatestRight (more G none) x = IsRightStop G x
    IsGreatestRight (more G (more H Hs)) x = (y : ℤ) × ((z : ℤ) × IsRightStop G y × IsGreatestRight (more H Hs) z × (y ≤ℤ x) × (z ≤ℤ x) × ((y ≡ x) ⊎ (z ≡ x)))

    -- x is the least left stop of the listed canonical trees
    pub IsLeastLeft : Trees → ℤ → Type 0
    IsLeastLeft none x = ⊥
    IsLeastLeft (more G none) x = IsLeftStop G x
    IsLeastLeft (more G (more H Hs)) x = (y : ℤ) × ((z : ℤ) × IsLeftStop G y × IsLeastLeft (more H Hs) z × (x ≤ℤ y) × (x ≤ℤ z) × ((y ≡ x) ⊎ (z ≡ x)))

-- x is half of k, rounded down
abbrev pub IsHalf : ℤ → ℤ → Type 0
IsHalf x k = ((x +ℤ x) ≤ℤ k) × (k ≤ℤ (x +ℤ x +ℤ pos 1))

-- k is twice the left stop of the tree, or one more, as its ceiling in half parts is
abbrev pub GoesWithLeftStop : ℕ → Tree → ℤ → Type 0
GoesWithLeftStop e G k = (x : ℤ) × IsLeftStop e G x × IsHalf x k

-- k is twice the right stop of the tree, or one less, as its floor in half parts is
abbrev pub GoesWithRightStop : ℕ → Tree → ℤ → Type 0
GoesWithRightStop e G k = (x : ℤ) × IsRightStop e G x × IsHalf x (k +ℤ pos 1)
