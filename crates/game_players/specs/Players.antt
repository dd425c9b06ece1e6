-- Players as the sides of a game: Black is Left.
use Rattle.std.specs.Prelude.{ℕ, ℤ, pos, neg_ℤ}
use Rattle.go_grid.specs.declared.grid.Colour.{Colour}
use Rattle.go_grid.specs.declared.grid.Colour.TheVariants.{Black, White}
use Rattle.short_games.specs.Tree.{Tree, Trees, left, right, node, none}
use Rattle.short_games.specs.Order.{◌≤ᵍ◌}
use Rattle.short_games.specs.Number.{num}

-- the options of a player: Left's for Black, Right's for White
abbrev pub options : Colour → Tree → Trees
options Black G = left G
options White G = right G

-- n units to the good of a player
abbrev pub credit : Colour → ℕ → ℤ
credit Black n = pos n
credit White n = neg_ℤ (pos n)

-- the game of n units to the good of a player
abbrev pub gain : Colour → ℕ → Tree
gain c n = num 0 (credit c n)

-- the player, who is to move, loses the game
abbrev pub LosesGame : Colour → Tree → Type 0
LosesGame Black G = G ≤ᵍ node none none
LosesGame White G = node none none ≤ᵍ G
