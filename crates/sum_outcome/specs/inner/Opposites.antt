-- Games that cancel each other.
use Rattle.std.specs.Prelude.{ℕ, ◌≡◌, ◌<◌, List, length, Some}
use Rattle.std.specs.List.{slice_index_or}
use Rattle.short_games.specs.Tree.{Tree, node, none, tree_at}
use Rattle.short_games.specs.Order.{◌≡ᵍ◌}
use Rattle.short_games.specs.Sum.{◌+ᵍ◌}
use Rattle.sum_outcome.specs.declared.opposites.Opposites.{Opposites}
use Rattle.sum_outcome.specs.Opposites.{IsZero}

-- two games cancel where they add up to 0
abbrev pub Cancel : Tree → Tree → Type 0
Cancel G H = (G +ᵍ H) ≡ᵍ node none none

-- the games at two places cancel, and have greater ids than 0 has
pub record AreOpposite (Ts : List Tree) (ids : List ℕ) (zero i j : ℕ) : Type 0 where
  pub before : i < j
  pub inside : j < length ids
  pub first : zero < slice_index_or ids i 0
  pub second : zero < slice_index_or ids j 0
  pub cancel : Cancel (tree_at Ts (slice_index_or ids i 0)) (tree_at Ts (slice_index_or ids j 0))

-- 0 may stand for the games at two places, which cancel
pub record MayCancel (Ts : List Tree) (ids : List ℕ) (o : Opposites) : Type 0 where
  pub zero : IsZero Ts (Some o.zero)
  pub places : AreOpposite Ts ids o.zero o.first o.second
