-- Multiples of a game.
use Rattle.std.specs.Prelude.{ℕ, zero, suc}
use Rattle.short_games.specs.Tree.{Tree, node, none}
use Rattle.short_games.specs.Sum.{◌+ᵍ◌}

-- n.G, the sum of n games G
unfoldable pub times : ℕ → Tree → Tree
times zero G = node none none
times (suc n) G = G +ᵍ times n G
