-- Sums of listed games and a number, and bounds of their numbers.
use Rattle.std.specs.Prelude.{ℕ, ◌+◌, ◌^◌, ◌<◌, ◌≤◌, List, [], ◌∷◌, sum, ℤ, unsigned_abs}
use Rattle.short_games.specs.Tree.{Tree, Trees, none, more}
use Rattle.short_games.specs.Sum.{◌+ᵍ◌, total}
use Rattle.short_games.specs.Parts.{IsNumberOf}
use Rattle.game_store.specs.Meaning.{pick}
use Rattle.short_games.specs.Number.{number_tree}

-- the sum of the games of the ids and the number
abbrev pub sum_tree : List Tree → List ℕ → ℤ → Tree
sum_tree Ts ids x = total (pick Ts ids) +ᵍ number_tree x

-- each number of the tree has a size of at most b parts of 2 ^ -60
abbrev pub IsBound : Tree → ℕ → Type 0
IsBound G b = (x : ℤ) → IsNumberOf G x → unsigned_abs x ≤ b

-- for each tree a bound of the size of its numbers
abbrev pub AreBounds : Trees → List ℕ → Type 0
AreBounds none [] = Unit {0}
AreBounds none (b ∷ bs) = ⊥
AreBounds (more G Gs) [] = ⊥
AreBounds (more G Gs) (b ∷ bs) = IsBound G b × AreBounds Gs bs

-- bounds for the trees, which with the size of the number add up to less than 2 ^ 59
abbrev pub IsBounded : Trees → ℤ → Type 0
IsBounded Gs x = (bs : List ℕ) × AreBounds Gs bs × (unsigned_abs x + sum bs < 2 ^ 119)
