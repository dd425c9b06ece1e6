-- What regions of one shape share while their games are solved, one after the other.
use Rattle.std.specs.Prelude.{ℕ, ◌≡◌, ◌<◌, IsTrue, List, [], Option, Some, None, Contains, length, slice_index, slice_index_or}
use Rattle.go_grid.specs.declared.grid.Colour.{Colour}
use Rattle.go_grid.specs.Region.{Region}
use Rattle.region_book.specs.Image.{IsShape}
use Rattle.region_book.specs.Law.{differ}
use Rattle.region_book.specs.declared.shapes.Turn.{Turn}
use Rattle.region_book.specs.declared.spots.Spot.{Spot}
use Rattle.short_games.specs.Tree.{Tree}
use Rattle.game_store.specs.Meaning.{AreIds}
use Rattle.endgame_solver.specs.Limits.{Limits}
use Rattle.endgame_solver.specs.inner.Sharing.{AreNegatives, PairsWith}
use Rattle.cycle_solver.specs.declared.book.Book.{Book}
use Rattle.cycle_solver.specs.declared.region_game.RegionGame.{RegionGame}
use Rattle.cycle_solver.specs.declared.shapes.Kind.{Kind}
use Rattle.cycle_solver.specs.declared.views.View.{View}
use Rattle.cycle_solver.specs.GameLists.{game_at, layers_for}
use Rattle.cycle_solver.specs.Games.{AreSolvedBelow, IsSolvedBy}
use Rattle.cycle_solver.specs.Turned.{shown}

-- each id of the layers is one of the store
abbrev pub AreLayersOfIds : List Tree → List (List ℕ) → Type 0
AreLayersOfIds Ts layers = (j : ℕ) → j < length layers → AreIds Ts (slice_index_or layers j [])

-- a negative is noted for the id
abbrev pub IsNoted : List (Option ℕ) → ℕ → Type 0
IsNoted known id = (turned : ℕ) × (slice_index_or known id None ≡ Some turned)

-- one is noted for each of the ids
abbrev pub AreNotedIn : List (Option ℕ) → List ℕ → Type 0
AreNotedIn known ids = (i : ℕ) → i < length ids → IsNoted known (slice_index ids i)

-- one is noted for each id of the layers
abbrev pub AreNoted : List (Option ℕ) → List (List ℕ) → Type 0
AreNoted known layers = (j : ℕ) → j < length layers → AreNotedIn known (slice_index_or layers j [])

-- there is room for a note on each of the ids
abbrev pub HasRoom : List (Option ℕ) → List ℕ → Type 0
HasRoom known ids = (i : ℕ) → i < length ids → slice_index ids i < length known

-- there is room for one on each id of the layers
abbrev pub HaveRoom : List (Option ℕ) → List (List ℕ) → Type 0
HaveRoom known layers = (j : ℕ) → j < length layers → HasRoom known (slice_index_or layers j [])

-- what was noted before is noted after
abbrev pub KeepsNotes : List (Option ℕ) → List (Option ℕ) → Type 0
KeepsNotes before after = (id turned : ℕ) → slice_index_or before id None ≡ Some turned → slice_index_or after id None ≡ Some turned

-- each view names a game, negatives are noted of the values of those whose colours are exchanged for some region, and what is noted
-- is right
pub record AreNotedBy (book : Book) (Ts : List Tree) : Type 0 where
  pub inside : (v : View) → Contains book.views.items v → v.game < length book.games.items
  pub noted : (v : View) → Contains book.views.items v → IsTrue v.colours → (c : Colour)
      → AreNoted book.negatives.items (layers_for (game_at book.games.items v.game) c)
  pub right : AreNegatives Ts book.negatives.items

-- the view shows the game at the place to a region, of so many points, that has this turn, where the game's first region has the other
pub record IsViewFor (count : ℕ) (turn first : Turn) (place : ℕ) (v : View) : Type 0 where
  pub game : v.game ≡ place
  pub colours : v.colours ≡ differ first.colours turn.colours
  pub pairs : PairsWith count turn first v.places
  pub long : length v.places ≡ 32

-- the game solves the first region of the kind
pub record IsKind (limits : Limits) (most : ℕ) (game : RegionGame) (Ts : List Tree) (kind : Kind) : Type 0 where
  pub region : Region
  pub shape : IsShape region region.cells kind.shape.spots.items kind.turn
  pub solved : IsSolvedBy limits most region Ts game

-- a game for each kind
pub record AreKinds (limits : Limits) (most : ℕ) (games : List RegionGame) (kinds : List Kind) (Ts : List Tree) : Type 0 where
  pub many : length kinds ≡ length games
  pub each : (j : ℕ) (kind : Kind) → j < length kinds → slice_index_or kinds j kind ≡ kind → IsKind limits most (game_at games j) Ts kind

-- the kind at the place has the shape
abbrev pub HasShapeAt : List Kind → List Spot → ℕ → Type 0
HasShapeAt kinds x j = (j < length kinds) × ((kind : Kind) → slice_index_or kinds j kind ≡ kind → kind.shape.spots.items ≡ x)

-- the first n regions are solved by the games that the book shows, and more regions can be added
pub record SharesBelow (limits : Limits) (most : ℕ) (regions : List Region) (book : Book) (kinds : List Kind) (Ts : List Tree) (n : ℕ) : Type 0 where
  pub solved : AreSolvedBelow limits most regions (shown book) Ts n
  pub kinds_are : AreKinds limits most book.games.items kinds Ts
  pub noted : AreNotedBy book Ts
