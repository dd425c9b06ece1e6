-- Walls of canonical trees: what stops become when each move costs t. Whether a tree is a number is told by the tree, so of
-- another form that is equal to a number these aren't its walls: the walls of games in any form are in `GameWalls`. Here t
-- stands for t / 2 ^ k and x for x / 2 ^ k, so that t and x are any fractions whose denominators are powers of two.
use Rattle.std.specs.Prelude.{ℕ, ◌+◌, ◌*◌, ◌^◌, ◌≡◌, ◌≤◌, ◌⊎◌, ℤ, pos, ◌+ℤ◌, ◌-ℤ◌, ◌*ℤ◌, ◌<ℤ◌, ◌≤ℤ◌}
use Rattle.short_games.specs.Tree.{Tree, Trees, node, none, more}
use Rattle.short_games.specs.Number.{num, IsNumberTree}

unfoldable mutual
  -- x is the left wall of the canonical tree at t. Of a number it is the number. Of another tree it is the left scaffold, the greatest
  -- right wall of a Left option, less t, where this is greater than the right scaffold, the least left wall of a Right option,
  -- and t; else it is the number at which the two scaffolds meet, at some u / 2 ^ (d + k) up to t
  pub IsLeftWall : Tree → (k t : ℕ) → ℤ → Type 0
  IsLeftWall (node ls rs) k t x = (node ls rs ≡ num k x) ⊎ ((IsNumberTree (node ls rs) → ⊥) × (
      (IsGreatestRightWall ls k t (x +ℤ pos t) × ((y : ℤ) × IsLeastLeftWall rs k t (y -ℤ pos t) × (y <ℤ x)))
      ⊎ ((d u : ℕ) × (u ≤ t * 2 ^ d) × IsGreatestRightWall ls (d + k) u ((x *ℤ pos (2 ^ d)) +ℤ pos u) × IsLeastLeftWall rs (d + k) u ((x *ℤ pos (2 ^ d)) -ℤ pos u))))

  -- x is the right wall of the canonical tree at t. Of a number it is the number. Of another tree it is the right scaffold, the least
  -- left wall of a Right option, and t, where this is less than the left scaffold, the greatest right wall of a Left option,
  -- less t; else it is the number at which the two scaffolds meet, at some u / 2 ^ (d + k) up to t
  pub IsRightWall : Tree → (k t : ℕ) → ℤ → Type 0
  IsRightWall (node ls rs) k t x = (node ls rs ≡ num k x) ⊎ ((IsNumberTree (node ls rs) → ⊥) × (
      (IsLeastLeftWall rs k t (x -ℤ pos t) × ((y : ℤ) × IsGreatestRightWall ls k t (y +ℤ pos t) × (x <ℤ y)))
      ⊎ ((d u : ℕ) × (u ≤ t * 2 ^ d) × IsGreatestRightWall ls (d + k) u ((x *ℤ pos (2 ^ d)) +ℤ pos u) × IsLeastLeftWall rs (d + k) u ((x *ℤ pos (2 ^ d)) -ℤ pos u))))

  -- x is the greatest right wall at t of the listed canonical trees
  pub IsGreatestRightWall : Trees → (k t : ℕ) → ℤ → Type 0
  IsGreatestRightWall none k t x = ⊥
  IsGreatestRightWall (more G none) k t x = IsRightWall G k t x
  IsGreatestRightWall (more G (more H Hs)) k t x = (y : ℤ) × ((z : ℤ) × IsRightWall G k t y × IsGreatestRightWall (more H Hs) k t z × (y ≤ℤ x) × (z ≤ℤ x) × ((y ≡ x) ⊎ (z ≡ x)))

  -- x is the least left wall at t of the listed canonical trees
  pub IsLeastLeftWall : Trees → (k t : ℕ) → ℤ → Type 0
  IsLeastLeftWall none k t x = ⊥
  IsLeastLeftWall (more G none) k t x = IsLeftWall G k t x
  IsLeastLeftWall (more G (more H Hs)) k t x = (y : ℤ) × ((z : ℤ) × IsLeftWall G k t y × IsLeastLeftWall (more H Hs) k t z × (x ≤ℤ y) × (x ≤ℤ z) × ((y ≡ x) ⊎ (z ≡ x)))
