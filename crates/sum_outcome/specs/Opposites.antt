-- Games that cancel.
use Rattle.std.specs.Prelude.{ℕ, ◌≡◌, ◌<◌, ◌↔◌, List, length, Option, Some, None, pos}
use Rattle.go_grid.specs.declared.grid.Colour.{Colour}
use Rattle.short_games.specs.Tree.{Tree, neg, tree_at}
use Rattle.short_games.specs.Sum.{◌+ᵍ◌}
use Rattle.short_games.specs.Number.{number_tree}
use Rattle.game_players.specs.Players.{LosesGame}

-- a game and its negative may be taken out of a sum: who loses stays the same
abbrev pub MayBeTakenOut : Type 0
MayBeTakenOut = (c : Colour) (G K : Tree) → LosesGame c ((G +ᵍ neg G) +ᵍ K) ↔ LosesGame c K

-- the id, if there is one, is that of 0
abbrev pub IsZero : List Tree → Option ℕ → Type 0
IsZero Ts None = Unit {0}
IsZero Ts (Some z) = (z < length Ts) × (tree_at Ts z ≡ number_tree (pos 0))
