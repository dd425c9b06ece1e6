-- Stops of games in any form: a game that is equal to a number stops at once. Here x stands for x / 2 ^ e.
use Rattle.std.specs.Prelude.{ℕ, ◌≡◌, ◌⊎◌, ℤ, ◌≤ℤ◌}
use Rattle.short_games.specs.Tree.{Tree, Trees, node, none, more}
use Rattle.short_games.specs.Order.{◌≡ᵍ◌}
use Rattle.short_games.specs.Number.{num, IsNumber}

module _ (e : ℕ) where
  unfoldable mutual
    -- x is the left stop of the game: of a game equal to a number the number, else the greatest right stop of a Left option
    pub HasLeftStop : Tree → ℤ → Type 0
    HasLeftStop (node ls rs) x = (node ls rs ≡ᵍ num e x) ⊎ ((IsNumber (node ls rs) → ⊥) × HasGreatestRight ls x)

    -- x is the right stop of the game: of a game equal to a number the number, else the least left stop of a Right option
    pub HasRightStop : Tree → ℤ → Type 0
    HasRightStop (node ls rs) x = (node ls rs ≡ᵍ num e x) ⊎ ((IsNumber (node ls rs) → ⊥) × HasLeastLeft rs x)

    -- x is the greatest right stop of the listed games
    pub HasGreatestRight : Trees → ℤ → Type 0
    HasGreatestRight none x = ⊥
    HasGreatestRight (more G none) x = HasRightStop G x
    HasGreatestRight (more G (more H Hs)) x = (y : ℤ) × ((z : ℤ) × HasRightStop G y × HasGreatestRight (more H Hs) z × (y ≤ℤ x) × (z ≤ℤ x) × ((y ≡ x) ⊎ (z ≡ x)))

    -- x is the least left stop of the listed games
    pub HasLeastLeft : Trees → ℤ → Type 0
    HasLeastLeft none x = ⊥
    HasLeastLeft (more G none) x = HasLeftStop G x
    HasLeastLeft (more G (more H Hs)) x = (y : ℤ) × ((z : ℤ) × HasLeftStop G y × HasLeastLeft (more H Hs) z × (x ≤ℤ y) × (x ≤ℤ z) × ((y ≡ x) ⊎ (z ≡ x)))
