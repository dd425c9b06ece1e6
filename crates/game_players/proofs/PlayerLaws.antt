-- Sums and their options, by the player who moves, and gains in purses.
use Rattle.std.proofs.Common.{ℕ, zero, suc, ◌≡◌, ◌⊎◌, ◌+◌, ◌-◌, ◌≤◌, arith, inl, inr, refl, ◌+ℤ◌}
use Rattle.std.proofs.lemmas.Int.{ints}
use Rattle.go_grid.specs.declared.grid.Colour.{Colour}
use Rattle.go_grid.specs.declared.grid.Colour.TheVariants.{Black, White}
use Rattle.go_grid.specs.Board.{other}
use Rattle.short_games.specs.Tree.{Tree, Has, neg}
use Rattle.short_games.proofs.OrderLaws.{not-le, le-out, le-trans, le-or_not}
use Rattle.short_games.specs.Order.{◌≡ᵍ◌, by_left, by_right}
use Rattle.short_games.specs.Sum.{◌+ᵍ◌}
use Rattle.short_games.specs.Number.{num, whole, count_tree}
use Rattle.short_games.proofs.SumLaws.{InSum, nought, left_of_sum, right_of_sum, left_in_first, left_in_second, right_in_first, right_in_second}
use Rattle.short_games.proofs.NumberLaws.{num-plus_le, num-le_plus}
use Rattle.game_players.specs.Players.{options, credit, gain, LosesGame}

pub option_of_sum : (c : Colour) (G H X : Tree) → Has (options c (G +ᵍ H)) X → InSum G H (options c G) (options c H) X
option_of_sum Black G H X h = left_of_sum G H X h
option_of_sum White G H X h = right_of_sum G H X h

pub option_in_first : (c : Colour) (G H K : Tree) → Has (options c G) K → Has (options c (G +ᵍ H)) (K +ᵍ H)
option_in_first Black G H K h = left_in_first G H K h
option_in_first White G H K h = right_in_first G H K h

pub option_in_second : (c : Colour) (G H K : Tree) → Has (options c H) K → Has (options c (G +ᵍ H)) (G +ᵍ K)
option_in_second Black G H K h = left_in_second G H K h
option_in_second White G H K h = right_in_second G H K h

-- gains add up
pub credit-plus : (c : Colour) (m n : ℕ) → credit c (m + n) ≡ credit c m +ℤ credit c n
credit-plus Black m n = omega (arith, ints)
credit-plus White m n = omega (arith, ints)

pub gain-plus : (c : Colour) (m n : ℕ) → gain c (m + n) ≡ᵍ (gain c m +ᵍ gain c n)
gain-plus c m n = rw (credit-plus c m n) (num-le_plus 0 (credit c m) (credit c n), num-plus_le 0 (credit c m) (credit c n))

-- the one option of a gain is its owner's, to a unit less
pub gain-option : (c : Colour) (n : ℕ) (X : Tree) → Has (options c (gain c n)) X → (1 ≤ n) × (X ≡ gain c (n - 1))
unfolding num whole count_tree neg
gain-option Black zero X h = elim h [ ]
gain-option Black (suc n) X (inl e) = (omega arith, rw (sub n) e)
  where
    sub : (m : ℕ) → suc m - 1 ≡ m
    sub m = omega arith
gain-option Black (suc n) X (inr h) = elim h [ ]
gain-option White zero X h = elim h [ ]
gain-option White (suc zero) X (inl e) = (omega arith, e)
gain-option White (suc zero) X (inr h) = elim h [ ]
gain-option White (suc (suc n)) X (inl e) = (omega arith, rw (sub n) e)
  where
    sub : (m : ℕ) → suc (suc m) - 1 ≡ suc m
    sub m = omega arith
gain-option White (suc (suc n)) X (inr h) = elim h [ ]

pub gain-has : (c : Colour) (n : ℕ) → Has (options c (gain c (suc n))) (gain c n)
unfolding num whole count_tree neg
gain-has Black n = inl refl
gain-has White zero = inl refl
gain-has White (suc n) = inl refl

pub gain-no_other : (c : Colour) (n : ℕ) (X : Tree) → Has (options c (gain (other c) n)) X → ⊥
unfolding num whole count_tree neg
gain-no_other Black zero X h = elim h [ ]
gain-no_other Black (suc n) X h = elim h [ ]
gain-no_other White zero X h = elim h [ ]
gain-no_other White (suc n) X h = elim h [ ]

-- who loses
pub loses-same : (c : Colour) (G H : Tree) → G ≡ᵍ H → LosesGame c G → LosesGame c H
loses-same Black G H e l = le-trans H G nought e.1 l
loses-same White G H e l = le-trans nought G H l e.0

pub loses-out : (c : Colour) (G X : Tree) → LosesGame c G → Has (options c G) X → LosesGame (other c) X → ⊥
loses-out Black G X l h m = (le-out G nought l).from_left X h m
loses-out White G X l h m = (le-out nought G l).from_right X h m

-- a player who doesn't lose has an option that the other player loses
pub wins-option : (c : Colour) (G : Tree) → (LosesGame c G → ⊥) → (X : Tree) × Has (options c G) X × LosesGame (other c) X
wins-option Black G l = elim (not-le G nought l) [
  | by_left L h e ↦ (L, h, e)
  | by_right R h e ↦ absurd h
]
wins-option White G l = elim (not-le nought G l) [
  | by_left L h e ↦ absurd h
  | by_right R h e ↦ (R, h, e)
]

pub loses-or_not : (c : Colour) (G : Tree) → LosesGame c G ⊎ (LosesGame c G → ⊥)
loses-or_not Black G = le-or_not G nought
loses-or_not White G = le-or_not nought G
