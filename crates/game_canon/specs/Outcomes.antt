-- What canonical forms are, and why there is none.
use Rattle.std.specs.Prelude.{ℕ, ◌<◌, ◌≤◌, List, length, ℤ, unsigned_abs}
use Rattle.dyadic_num.specs.Units.{IsInBounds}
use Rattle.short_games.specs.Tree.{Tree, tree_at}
use Rattle.short_games.specs.Order.{◌≤ᵍ◌}
use Rattle.short_games.specs.Number.{IsNumber, number_tree}
use Rattle.short_games.specs.TextOrder.{IsCanonicalFor}
use Rattle.short_games.specs.Parts.{IsOption, HasMoreParts, IsNumberOf}
use Rattle.game_canon.specs.declared.errors.FormError.{FormError}
use Rattle.game_canon.specs.declared.errors.FormError.TheVariants.{Parts, Bounds, Memory}

-- the id of the canonical tree of G
abbrev pub IsCanonicalId : List Tree → Tree → ℕ → Type 0
IsCanonicalId Ts G id = (id < length Ts) × IsCanonicalFor G (tree_at Ts id)

-- G is a number, but none within the bounds of a Dyadic
abbrev pub IsPastBounds : Tree → Type 0
IsPastBounds G = IsNumber G × ((x : ℤ) → IsInBounds x → G ≤ᵍ number_tree x → number_tree x ≤ᵍ G → ⊥)

-- the numbers of G have a size of at most b, in parts of 2 ^ -60
abbrev pub AreWithin : ℕ → Tree → Type 0
AreWithin b G = (x : ℤ) → IsNumberOf G x → unsigned_abs x ≤ b

-- the numbers of each option of G have a size of at most b, in parts of 2 ^ -60
abbrev pub AreOptionsWithin : ℕ → Tree → Type 0
AreOptionsWithin b G = (L : Tree) → IsOption G L → AreWithin b L

-- why G has no form: it is no number and its canonical tree has more parts than the limit, or it is a number past the bounds
abbrev pub IsCause : Tree → ℕ → FormError → Type 0
IsCause G limit Parts = (IsNumber G → ⊥) × ((C : Tree) → IsCanonicalFor G C → HasMoreParts C limit)
IsCause G limit Bounds = IsPastBounds G
IsCause G limit (Memory cause) = Unit {0}
