-- What a refusal of two games says.
use Rattle.std.specs.Prelude.{ℕ}
use Rattle.short_games.specs.Tree.{Tree}
use Rattle.short_games.specs.TextOrder.{IsCanonicalFor}
use Rattle.short_games.specs.Parts.{HasMoreParts}
use Rattle.game_canon.specs.Changes.{HasNumberPastBounds}
use Rattle.game_canon.specs.declared.errors.FormError.{FormError}
use Rattle.game_canon.specs.declared.errors.FormError.TheVariants.{Parts, Bounds, Memory}

-- why a sum S of two places isn't made
abbrev pub IsPairRefusal : Tree → ℕ → FormError → Type 0
IsPairRefusal S limit Parts = (C : Tree) → IsCanonicalFor S C → HasMoreParts C limit
IsPairRefusal S limit Bounds = (C : Tree) → IsCanonicalFor S C → HasNumberPastBounds C
IsPairRefusal S limit (Memory cause) = Unit {0}
