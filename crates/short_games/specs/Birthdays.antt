-- Birthdays.
use Rattle.std.specs.Prelude.{ℕ, zero, suc}
use Rattle.short_games.specs.Tree.{Tree}
use Rattle.short_games.specs.Parts.{IsOption}

-- the game is born by day n: by day 0 it has no options, and by a later day its options are born by the day before
unfoldable pub IsBornBy : ℕ → Tree → Type 0
IsBornBy zero G = (X : Tree) → IsOption G X → ⊥
IsBornBy (suc n) G = (X : Tree) → IsOption G X → IsBornBy n X
