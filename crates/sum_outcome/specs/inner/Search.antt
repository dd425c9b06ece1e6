-- What the search of a sum asks.
use Rattle.std.specs.Prelude.{ℕ, zero, suc, ◌≡◌, ◌<◌, List, length, ℤ}
use Rattle.std.specs.List.{slice_index_or}
use Rattle.go_grid.specs.declared.grid.Colour.{Colour}
use Rattle.go_grid.specs.Board.{other}
use Rattle.std.specs.declared.cmp.Ordering.{Ordering}
use Rattle.std.specs.declared.cmp.Ordering.TheVariants.{Less, Equal, Greater}
use Rattle.short_games.specs.Tree.{Tree, Trees, node, none, more, Has, tree_at}
use Rattle.short_games.specs.Order.{◌≤ᵍ◌, ◌≡ᵍ◌}
use Rattle.short_games.specs.Sum.{◌+ᵍ◌, total}
use Rattle.short_games.specs.Number.{IsNumberTree, number_tree}
use Rattle.short_games.specs.TextOrder.{IsCanonicalTree}
use Rattle.game_store.specs.Meaning.{pick}
use Rattle.game_players.specs.Players.{options, LosesGame}

-- a canonical tree that is no number's
abbrev pub IsNonNumber : Tree → Type 0
IsNonNumber G = IsCanonicalTree G × (IsNumberTree G → ⊥)

-- some game of the ids is no number
abbrev pub HasNonNumber : List Tree → List ℕ → Type 0
HasNonNumber Ts ids = (k : ℕ) × (k < length ids) × IsNonNumber (tree_at Ts (slice_index_or ids k 0))

-- how a game stands to 0
abbrev pub IsSign : Ordering → Tree → Type 0
IsSign Less G = (G ≤ᵍ node none none) × (node none none ≤ᵍ G → ⊥)
IsSign Equal G = G ≡ᵍ node none none
IsSign Greater G = (node none none ≤ᵍ G) × (G ≤ᵍ node none none → ⊥)

-- X is a player's option of a game that is no number
abbrev pub IsMove : Tree → Colour → Tree → Type 0
IsMove G c X = (IsNumberTree G → ⊥) × Has (options c G) X

-- the list with another game at a place
abbrev pub put : Trees → ℕ → Tree → Trees
put none k X = none
put (more G Gs) zero X = more X Gs
put (more G Gs) (suc k) X = more G (put Gs k X)

-- the player wins by a move in the game at a place, which is no number
abbrev pub WinsAt : List Tree → List ℕ → ℤ → Colour → ℕ → Type 0
WinsAt Ts ids x c k = (X : Tree) × IsMove (tree_at Ts (slice_index_or ids k 0)) c X × LosesGame (other c) (total (put (pick Ts ids) k X) +ᵍ number_tree x)

-- the id at a place stands at an earlier one too
abbrev pub StoodBefore : List ℕ → ℕ → Type 0
StoodBefore ids k = (j : ℕ) × (j < k) × (slice_index_or ids j 0 ≡ slice_index_or ids k 0)
