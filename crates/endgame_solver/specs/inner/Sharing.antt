-- What regions of one shape share: the graph and the values of the first of them serve the others.
use Rattle.std.specs.Prelude.{◌≡◌, ◌≢◌, ℕ, ◌<◌, List, Bool, true, Option, Some, None, length, slice_index, slice_index_or}
use Rattle.std.specs.List.{AllPairs}
use Rattle.go_grid.specs.Region.{Region}
use Rattle.local_graph.specs.Graph.{Graph}
use Rattle.short_games.specs.Tree.{Tree, tree_at}
use Rattle.short_games.specs.Parts.{HasMoreParts}
use Rattle.short_games.specs.TextOrder.{IsCanonicalFor}
use Rattle.game_canon.specs.Outcomes.{AreWithin}
use Rattle.region_book.specs.Image.{IsShape}
use Rattle.region_book.specs.Law.{differ}
use Rattle.region_book.specs.declared.shapes.Turn.{Turn}
use Rattle.endgame_solver.specs.inner.Held.{ids_at}
use Rattle.endgame_solver.specs.Regions.{region_at}
use Rattle.endgame_solver.specs.inner.Regions.{graph_at}
use Rattle.endgame_solver.specs.ShapeValues.{game_after}
use Rattle.endgame_solver.specs.Solved.{IsNumberOfShapes}
use Rattle.endgame_solver.specs.inner.Solving.{AreSolvedBelow, IsSolvedBy}
use Rattle.endgame_solver.specs.inner.Views.{AreViews}
use Rattle.endgame_solver.specs.Limits.{Limits}
use Rattle.endgame_solver.specs.declared.view_book.Book.{Book}
use Rattle.endgame_solver.specs.declared.view_book.Kind.{Kind}
use Rattle.endgame_solver.specs.declared.views.View.{View}

-- the second id is that of the first one's value, or of its negative where colours are exchanged
pub record IsTurnedValue (colours : Bool) (Ts : List Tree) (id turned : ℕ) : Type 0 where
  pub known : turned < length Ts
  pub canonical : IsCanonicalFor (game_after colours (tree_at Ts id)) (tree_at Ts turned)
  pub parts : (n : ℕ) → HasMoreParts (tree_at Ts turned) n → HasMoreParts (tree_at Ts id) n
  pub sizes : (b : ℕ) → AreWithin b (tree_at Ts id) → AreWithin b (tree_at Ts turned)

-- the second ids are those of the values of the first, in order, or of their negatives where colours are exchanged
pub record AreTurnedValues (colours : Bool) (Ts : List Tree) (ids turned : List ℕ) : Type 0 where
  pub many : length turned ≡ length ids
  pub each : (i : ℕ) → i < length ids → IsTurnedValue colours Ts (slice_index ids i) (slice_index turned i)

-- what is noted for an id is the id of its tree's negative
abbrev pub AreNegatives : List Tree → List (Option ℕ) → Type 0
AreNegatives Ts known = (id turned : ℕ) → slice_index_or known id None ≡ Some turned → (id < length Ts) × IsTurnedValue true Ts id turned

-- a kind of the region: one of the first n has the shape, and the graph and the values are that region's
pub record IsKind (limits : Limits) (regions : List Region) (g : Graph) (held : List (List ℕ)) (Ts : List Tree) (n : ℕ) (kind : Kind) : Type 0 where
  pub region : ℕ
  pub before : region < n
  pub shape : IsShape (region_at regions region) (region_at regions region).cells kind.shape.spots.items kind.turn
  pub values : kind.values < length held
  pub solved : IsSolvedBy limits (region_at regions region) g Ts (ids_at held kind.values)

-- the kinds have different shapes, and each of the first n regions has the shape of one of them
pub record AreKinds (limits : Limits) (regions : List Region) (shared : List Graph) (held : List (List ℕ)) (kinds : List Kind) (Ts : List Tree)
    (n : ℕ) : Type 0 where
  pub many : length kinds ≡ length shared
  pub each : (j : ℕ) (kind : Kind) → j < length kinds → slice_index_or kinds j kind ≡ kind → IsKind limits regions (graph_at shared j) held Ts n kind
  pub apart : AllPairs (λ a b. a.shape.spots.items ≢ b.shape.spots.items) kinds
  pub every : (k : ℕ) → k < n → (j : ℕ) × (j < length kinds)
      × ((kind : Kind) → slice_index_or kinds j kind ≡ kind → (t : Turn) × IsShape (region_at regions k) (region_at regions k).cells kind.shape.spots.items t)

-- the first n regions are solved, each by the graph and the values that its view shows
pub record SharesBelow (limits : Limits) (regions : List Region) (shared : List Graph) (held : List (List ℕ)) (views : List View) (kinds : List Kind)
    (Ts : List Tree) (n : ℕ) : Type 0 where
  pub graphs : List Graph
  pub values : List (List ℕ)
  pub solved : AreSolvedBelow limits regions graphs values Ts n
  pub views_are : AreViews shared held views graphs values n
  pub kinds_are : AreKinds limits regions shared held kinds Ts n

-- the book solves all regions, and has a graph for each shape
pub record AreSharedBy (limits : Limits) (regions : List Region) (book : Book) (Ts : List Tree) : Type 0 where
  pub graphs : List Graph
  pub values : List (List ℕ)
  pub solved : AreSolvedBelow limits regions graphs values Ts (length regions)
  pub views_are : AreViews book.graphs.items book.values.items book.views.items graphs values (length regions)
  pub shapes : IsNumberOfShapes regions (length book.graphs.items)

-- place `j` of the kind's region goes where place `places[j]` of the region goes
abbrev pub PairsWith : ℕ → Turn → Turn → List ℕ → Type 0
PairsWith count turn first places = (j : ℕ) → j < count
    → (slice_index places j < count) × (slice_index turn.places (slice_index places j) ≡ slice_index first.places j)

-- the view shows the graph at the place and the kind's values, turned
pub record IsViewFor (count place : ℕ) (turn : Turn) (kind : Kind) (before after : List (List ℕ)) (Ts : List Tree) (v : View) : Type 0 where
  pub graph : v.graph ≡ place
  pub colours : v.colours ≡ differ kind.turn.colours turn.colours
  pub pairs : PairsWith count turn kind.turn v.places
  pub values : v.values < length after
  pub turned : AreTurnedValues v.colours Ts (ids_at before kind.values) (ids_at after v.values)
