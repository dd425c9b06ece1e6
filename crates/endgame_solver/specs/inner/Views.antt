-- How the graph of one region serves another region of the same shape.
use Rattle.std.specs.Prelude.{◌≡◌, ℕ, ◌<◌, ◌↔◌, List, [], length, slice_index, slice_index_or, Contains, false}
use Rattle.go_grid.specs.Region.{Region}
use Rattle.whole_rules.specs.WholeGame.{Whole}
use Rattle.short_games.specs.Tree.{Tree}
use Rattle.local_graph.specs.declared.graph.Edge.{Edge}
use Rattle.local_graph.specs.Graph.{Graph}
use Rattle.local_graph.specs.inner.Graph.{edges_at}
use Rattle.region_book.specs.Shape.{colour_after}
use Rattle.endgame_solver.specs.inner.Held.{ArePlaces, AreSolvedAt, ids_at}
use Rattle.endgame_solver.specs.inner.Regions.{graph_at}
use Rattle.endgame_solver.specs.Solved.{IsNumberOfShapes}
use Rattle.endgame_solver.specs.declared.view_book.Book.{Book}
use Rattle.endgame_solver.specs.declared.views.View.{View}
use Rattle.endgame_solver.specs.declared.winning_moves.Present.{Present}

-- the move of the region that an edge of the graph stands for
abbrev pub own : View → Edge → Edge
own v e = record { next = e.next; colour = colour_after v.colours e.colour; place = slice_index v.places e.place; taken = e.taken }

-- The region's graph has the places of the shared one, and exactly the moves that the shared one's edges stand for.
pub record Serves (v : View) (shared g : Graph) : Type 0 where
  pub as_many : length g.positions ≡ length shared.positions
  pub inside : (i : ℕ) (e : Edge) → Contains (edges_at shared.edges i) e → e.place < 32
  pub moves : (i : ℕ) (e : Edge) → Contains (edges_at g.edges i) e ↔ ((f : Edge) × Contains (edges_at shared.edges i) f × (e ≡ own v f))

-- a view without places, which stands for one past the last
abbrev pub no_view : View
no_view = record { graph = 0; values = 0; places = []; colours = false }

-- the view at a place of a list
abbrev pub view_at : List View → ℕ → View
view_at views k = slice_index_or views k no_view

-- the view shows the graph and the values at the two places as they are
pub record IsOwnView (v : View) (i j : ℕ) : Type 0 where
  pub graph : v.graph ≡ i
  pub values : v.values ≡ j
  pub colours : v.colours ≡ false
  pub places : (k : ℕ) → k < 32 → slice_index v.places k ≡ k

-- a region's graph and values are those that its view shows
pub record IsView (shared : List Graph) (held : List (List ℕ)) (v : View) (g : Graph) (ids : List ℕ) : Type 0 where
  pub graph : v.graph < length shared
  pub values : v.values < length held
  pub seen : Serves v (graph_at shared v.graph) g
  pub same : ids_at held v.values ≡ ids

-- the graph and the values of each of the first n regions are those that its view shows
pub record AreViews (shared : List Graph) (held : List (List ℕ)) (views : List View) (graphs : List Graph) (values : List (List ℕ)) (n : ℕ) : Type 0 where
  pub many : length views ≡ n
  pub each : (k : ℕ) → k < n → IsView shared held (view_at views k) (graph_at graphs k) (ids_at values k)

-- the graph that the view of a region shows in a book
abbrev pub seen_graph : Book → ℕ → Graph
seen_graph book k = graph_at book.graphs.items (view_at book.views.items k).graph

-- the ids of the values that the view of a region shows in a book
abbrev pub seen_ids : Book → ℕ → List ℕ
seen_ids book k = ids_at book.values.items (view_at book.views.items k).values

-- the book has a view of the region and the graph that it shows
pub record HasGraph (book : Book) (k : ℕ) : Type 0 where
  pub view : k < length book.views.items
  pub graph : (view_at book.views.items k).graph < length book.graphs.items

-- the book has a view of the region and the values that it shows, and one of them at the place
pub record HasValue (book : Book) (k i : ℕ) : Type 0 where
  pub view : k < length book.views.items
  pub values : (view_at book.views.items k).values < length book.values.items
  pub place : i < length (seen_ids book k)

-- the book shows these graphs and values, one for each region
abbrev pub ShowsAll : Book → List Graph → List (List ℕ) → ℕ → Type 0
ShowsAll book graphs values n = AreViews book.graphs.items book.values.items book.views.items graphs values n

-- the book shows a graph and values for each region, a graph for each shape, and a solved game is kept with them
pub record IsHeldInBook (regions : List Region) (book : Book) (places ids : List ℕ) (Ts : List Tree) (s : Whole) : Type 0 where
  pub graphs : List Graph
  pub values : List (List ℕ)
  pub views_are : ShowsAll book graphs values (length regions)
  pub shapes : IsNumberOfShapes regions (length book.graphs.items)
  pub kept : AreSolvedAt regions graphs values places ids Ts s

-- the book that a search looks at shows a graph and values for each region, and a solved game is kept with them
abbrev pub IsSeen : Present → List ℕ → Type 0
IsSeen present ids = IsHeldInBook present.regions.now present.book.now present.places.now ids present.store.now present.whole.now

-- the book shows graphs with the places, one for each region
pub record ShowsPlaces (regions : List Region) (book : Book) (places : List ℕ) : Type 0 where
  pub graphs : List Graph
  pub values : List (List ℕ)
  pub views_are : ShowsAll book graphs values (length regions)
  pub places_are : ArePlaces regions graphs places
