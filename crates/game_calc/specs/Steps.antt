-- A step of a sum: two canonical trees are added. It is in limits where the sums of all pairs of their places are.
use Rattle.std.specs.Prelude.{ℕ, ◌≡◌, ◌⊎◌}
use Rattle.short_games.specs.Tree.{Tree}
use Rattle.short_games.specs.Sum.{◌+ᵍ◌}
use Rattle.short_games.specs.Number.{IsNumberTree}
use Rattle.short_games.specs.TextOrder.{IsCanonicalFor}
use Rattle.short_games.specs.Parts.{IsOption, IsPart, HasMoreParts}
use Rattle.game_canon.specs.Changes.{HasNumberPastBounds}
use Rattle.game_canon.specs.declared.errors.FormError.{FormError}
use Rattle.game_canon.specs.declared.errors.FormError.TheVariants.{Parts, Bounds, Memory}

-- X is a place of G: G itself, a part of it, or a number that is an option of one of its parts
abbrev pub IsPlace : Tree → Tree → Type 0
IsPlace G X = (X ≡ G) ⊎ (IsPart G X ⊎ ((P : Tree) × IsPart G P × IsOption P X × IsNumberTree X))

-- the canonical tree of S has more parts than the limit, or a number past the bounds of a Dyadic
abbrev pub IsTooLarge : ℕ → Tree → Type 0
IsTooLarge limit S = (C : Tree) → IsCanonicalFor S C → HasMoreParts C limit ⊎ HasNumberPastBounds C

-- the step of G and H is out of limits: the sum of some place of G and some place of H is too large
abbrev pub IsOutOfLimits : ℕ → Tree → Tree → Type 0
IsOutOfLimits limit G H = (X Y : Tree) × IsPlace G X × IsPlace H Y × IsTooLarge limit (X +ᵍ Y)

-- why a step isn't made
abbrev pub IsStepRefusal : ℕ → Tree → Tree → FormError → Type 0
IsStepRefusal limit G H Parts = IsOutOfLimits limit G H
IsStepRefusal limit G H Bounds = IsOutOfLimits limit G H
IsStepRefusal limit G H (Memory cause) = Unit {0}
