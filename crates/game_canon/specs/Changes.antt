-- What changes make of trees: the negative, or the sum with a number.
use Rattle.std.specs.Prelude.{◌≡◌, ℤ}
use Rattle.dyadic_num.specs.Units.{IsInBounds}
use Rattle.short_games.specs.Tree.{Tree}
use Rattle.short_games.specs.Number.{IsNumberTree, number_tree}
use Rattle.short_games.specs.TextOrder.{IsCanonicalFor}
use Rattle.short_games.specs.Parts.{IsReached}
use Rattle.game_canon.specs.declared.errors.FormError.{FormError}
use Rattle.game_canon.specs.declared.errors.FormError.TheVariants.{Parts, Bounds, Memory}

-- a number of G is past the bounds of a Dyadic
abbrev pub HasNumberPastBounds : Tree → Type 0
HasNumberPastBounds G = (N : Tree) × IsNumberTree N × IsReached G N × ((u : ℤ) → IsInBounds u → N ≡ number_tree u → ⊥)

-- why there is no sum: a number of its canonical tree is past the bounds
abbrev pub IsSumRefusal : Tree → FormError → Type 0
IsSumRefusal G Parts = ⊥
IsSumRefusal G Bounds = (C : Tree) → IsCanonicalFor G C → HasNumberPastBounds C
IsSumRefusal G (Memory cause) = Unit {0}
