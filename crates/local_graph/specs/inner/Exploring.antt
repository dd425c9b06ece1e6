-- What exploring has come to.
use Rattle.std.specs.Prelude.{◌≡◌, ◌≢◌, ℕ, ◌^◌, ◌<◌, ◌≤◌, List, [], ◌∷◌, ◌++◌, length, slice_index, slice_index_or, Contains, false, count_by, Result, Ok, Err}
use Rattle.std.specs.List.{AllPairs}
use Rattle.go_grid.specs.declared.grid.Cell.{Cell}
use Rattle.go_grid.specs.declared.region.Touch.{Touch}
use Rattle.local_play.specs.Links.{IsTable}
use Rattle.local_play.specs.Moves.{ListsLocalMoves, IsMoveFrom}
use Rattle.local_play.specs.Packed.{pack}
use Rattle.local_play.specs.declared.links.Links.{Links}
use Rattle.local_play.specs.declared.local_move.LocalMove.{LocalMove}
use Rattle.local_graph.specs.declared.graph.Edge.{Edge}
use Rattle.local_graph.specs.declared.graph_build.Exploration.{Exploration}
use Rattle.local_graph.specs.declared.graph_build.GraphError.{GraphError}
use Rattle.local_graph.specs.declared.graph_build.GraphError.TheVariants.{Points, Positions, Cycle, Memory}
use Rattle.local_graph.specs.declared.place_table.PlaceTable.{PlaceTable}
use Rattle.local_graph.specs.declared.search.Visit.{Visit}
use Rattle.local_graph.specs.declared.search.Visit.TheVariants.{New}
use Rattle.local_graph.specs.declared.walk.Task.{Task}
use Rattle.local_graph.specs.LocalGraph.{IsReachable, HasMoves, IsGraph, IsOrderOfPlaces}
use Rattle.local_graph.specs.inner.Found.{AreAwaited, EdgesFor, Explored}
use Rattle.local_graph.specs.inner.Graph.{lists_of, AreWithin}
use Rattle.local_graph.specs.inner.PlaceTable.{IsPlaceTable}
use Rattle.local_graph.specs.inner.Searching.{visit_at, is_new}
use Rattle.local_graph.specs.inner.Walk.{AreTargets, IsAimed, WalksWith}

-- each number is that of a reachable position
abbrev pub AreReachable : List Touch → List Cell → List ℕ → Type 0
AreReachable touch opening ns = (n : ℕ) → Contains ns n → (cells : List Cell) × IsReachable touch opening cells × (n ≡ pack cells)

-- the positions so far, each with its edges or new
pub record Exploring (touch : List Touch) (opening : List Cell) (limit : ℕ) (positions : List ℕ) (edges : List (List Edge)) (visits : List Visit) : Type 0 where
  pub some : 0 < length positions
  pub first : slice_index positions 0 ≡ pack opening
  pub once : AllPairs (λ a b. a ≢ b) positions
  pub few : length positions ≤ limit
  pub reachable : AreReachable touch opening positions
  pub beside : length edges ≡ length positions
  pub seen : length visits ≡ length positions
  pub moves : (i : ℕ) (cells : List Cell) → i < length positions → visit_at visits i ≢ New → IsReachable touch opening cells
      → slice_index positions i ≡ pack cells → HasMoves touch cells positions (slice_index_or edges i [])

-- the table has the positions so far, which are of a region of so many places, and the walk goes on with these tasks
pub record IsExploringWith (touch : List Touch) (opening : List Cell) (limit places : ℕ) (t : PlaceTable) (found : Exploration) (tasks : List Task) : Type 0 where
  pub full : length opening ≡ places
  pub table : IsPlaceTable t
  pub numbers : t.numbers ≡ 3 ^ places
  pub so_far : Exploring touch opening limit t.positions.items (lists_of found.edges found.spans.items) found.walk.visits.items
  pub within : AreWithin (length found.edges) found.spans.items
  pub walk : WalksWith (lists_of found.edges found.spans.items) found.walk tasks

abbrev pub IsExploring : List Touch → List Cell → ℕ → ℕ → PlaceTable → Exploration → Type 0
IsExploring touch opening limit places t found = IsExploringWith touch opening limit places t found found.walk.tasks.items

-- the opening was found, and is new
abbrev pub Begun : List Touch → List Cell → ℕ → ℕ → PlaceTable → Result Exploration GraphError → Type 0
Begun touch opening limit places table (Ok found) =
    IsExploring touch opening limit places table found × (count_by is_new found.walk.visits.items ≡ length table.positions.items)
Begun touch opening limit places table (Err e) = Explored touch opening limit table.positions.items (Err e)

-- no position is new any more, or more positions are reachable than the limit
abbrev pub Ended : List Touch → List Cell → ℕ → List ℕ → Exploration → Result (Unit {0}) GraphError → Type 0
Ended touch opening limit positions found (Ok done) =
    IsGraph touch opening positions (lists_of found.edges found.spans.items) × (length positions ≤ limit)
    × AreWithin (length found.edges) found.spans.items
    × (found.walk.has_cycle ≡ false → IsOrderOfPlaces (lists_of found.edges found.spans.items) found.walk.order.items)
Ended touch opening limit positions found (Err e) = Explored touch opening limit positions (Err e)

-- the links are those of a region of at most 32 places, and the number is that of a position of it, which has one of so many numbers in base 3
pub record IsPositionOn (links : Links) (count n : ℕ) : Type 0 where
  pub touch : List Touch
  pub cells : List Cell
  pub table : IsTable touch links
  pub long : length cells ≡ length touch
  pub packed : n ≡ pack cells
  pub few : length cells ≤ 32
  pub numbers : count ≡ 3 ^ length cells

-- each is a legal move of the position
abbrev pub AreMovesFrom : List Touch → List Cell → List LocalMove → Type 0
AreMovesFrom touch cells moves = (m : LocalMove) → Contains moves m → IsMoveFrom touch cells m

-- the edges of the position's moves, or why there are none
abbrev pub EdgesFrom : List Touch → List Cell → List ℕ → ℕ → List ℕ → List Edge → Result (Unit {0}) GraphError → Type 0
EdgesFrom touch cells before limit after edges (Ok done) =
    (moves : List LocalMove) × ListsLocalMoves touch cells moves × EdgesFor before moves limit after edges (Ok done)
EdgesFrom touch cells before limit after edges (Err Positions) =
    (moves : List LocalMove) × AreMovesFrom touch cells moves × EdgesFor before moves limit after edges (Err Positions)
EdgesFrom touch cells before limit after edges (Err (Points p)) = ⊥
EdgesFrom touch cells before limit after edges (Err (Cycle ms back)) = ⊥
EdgesFrom touch cells before limit after edges (Err (Memory e)) = Unit {0}

-- an edge stands behind the others, and the place that it leads to is entered behind the tasks
pub record IsNoted (e : Edge) (before after : Exploration) : Type 0 where
  pub edges : after.edges ≡ before.edges ++ e ∷ []
  pub spans : after.spans.items ≡ before.spans.items
  pub walk : IsAimed e.next before.walk after.walk

-- edges stand behind the others, the places that they lead to are entered behind the tasks, and there are so many places
pub record AreNoted (count : ℕ) (more : List Edge) (before after : Exploration) : Type 0 where
  pub edges : after.edges ≡ before.edges ++ more
  pub awaited : (edges : List Edge) → AreAwaited (lists_of edges before.spans.items) before.walk.visits.items count
      (lists_of edges after.spans.items) after.walk.visits.items
  pub within : (n : ℕ) → AreWithin n before.spans.items → AreWithin n after.spans.items
  pub targets : AreTargets after.walk.visits.items more before.walk.tasks.items after.walk.tasks.items
  pub order : after.walk.order.items ≡ before.walk.order.items
  pub has_cycle : after.walk.has_cycle ≡ before.walk.has_cycle
