-- What the ids of a store tell.
use Rattle.std.specs.Prelude.{ℕ, ◌≡◌, ◌<◌, ◌↔◌, List, length}
use Rattle.short_games.specs.Tree.{Tree, AreDistinct, tree_at}
use Rattle.short_games.specs.Order.{◌≡ᵍ◌}
use Rattle.game_store.specs.Meaning.{AreCanonical}

-- of canonical trees that are all different, two at different places are never equal games
abbrev pub IdsTellValues : Type 0
IdsTellValues = (Ts : List Tree) (i j : ℕ) → AreDistinct Ts → AreCanonical Ts → i < length Ts → j < length Ts
    → (i ≡ j) ↔ (tree_at Ts i ≡ᵍ tree_at Ts j)
