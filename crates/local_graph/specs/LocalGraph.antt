-- Reachable positions, cycles, and the graph of a region.
use Rattle.std.specs.Prelude.{◌≡◌, ◌≢◌, ℕ, ◌<◌, List, [], ◌∷◌, length, take, drop, slice_index, slice_index_or, Contains}
use Rattle.std.specs.List.{AllPairs}
use Rattle.go_grid.specs.declared.grid.Cell.{Cell}
use Rattle.go_grid.specs.declared.region.Touch.{Touch}
use Rattle.local_play.specs.declared.local_move.LocalMove.{LocalMove}
use Rattle.local_play.specs.LocalPlay.{IsLocalMove}
use Rattle.local_play.specs.Packed.{pack}
use Rattle.local_play.specs.Moves.{ListsLocalMoves}
use Rattle.local_graph.specs.declared.cycle.CycleMove.{CycleMove}
use Rattle.local_graph.specs.declared.graph.Edge.{Edge}

-- the list of moves, each legal after those before it, leads from one position to the other
abbrev pub Plays : List Touch → List Cell → List CycleMove → List Cell → Type 0
Plays touch from [] to = from ≡ to
Plays touch from (m ∷ ms) to = (next : List Cell) × IsLocalMove touch from m.colour m.place next × Plays touch next ms to

-- some list of moves, of either colour in any order, leads from the opening to the position
abbrev pub IsReachable : List Touch → List Cell → List Cell → Type 0
IsReachable touch opening cells = (ms : List CycleMove) × Plays touch opening ms cells

-- the position after the first `back` moves is the position after all of them
pub record IsCycle (touch : List Touch) (opening : List Cell) (ms : List CycleMove) (back : ℕ) : Type 0 where
  pub before_end : back < length ms
  pub returns_to : List Cell
  pub there : Plays touch opening (take back ms) returns_to
  pub again : Plays touch returns_to (drop back ms) returns_to

-- the positions before the last are all different
abbrev pub AreDifferent : List Touch → List Cell → List CycleMove → Type 0
AreDifferent touch opening ms = (i j : ℕ) (a b : List Cell) → i < j → j < length ms
    → Plays touch opening (take i ms) a → Plays touch opening (take j ms) b → a ≢ b

-- more than so many positions are reachable: a list has more of them, without repeats
pub record MoreThan (touch : List Touch) (opening : List Cell) (limit : ℕ) : Type 0 where
  pub found : List (List Cell)
  pub different : AllPairs (λ a b. a ≢ b) found
  pub reachable : (cells : List Cell) → Contains found cells → IsReachable touch opening cells
  pub many : limit < length found

-- the edge is the move, with the place of the position that it leads to
pub record IsEdgeOf (positions : List ℕ) (m : LocalMove) (e : Edge) : Type 0 where
  pub colour : e.colour ≡ m.colour
  pub place : e.place ≡ m.place
  pub taken : e.taken ≡ m.taken
  pub inside : e.next < length positions
  pub next : slice_index positions e.next ≡ m.next

-- there is one edge for each move, in the order of the moves
abbrev pub AreEdges : List ℕ → List LocalMove → List Edge → Type 0
AreEdges positions moves edges = (length edges ≡ length moves)
    × ((k : ℕ) (m : LocalMove) (e : Edge) → k < length edges → slice_index_or moves k m ≡ m → slice_index_or edges k e ≡ e
    → IsEdgeOf positions m e)

-- the edges of the place are exactly the moves of the position there, Black's by place and then White's
abbrev pub HasMoves : List Touch → List Cell → List ℕ → List Edge → Type 0
HasMoves touch cells positions edges = (moves : List LocalMove) × ListsLocalMoves touch cells moves × AreEdges positions moves edges

-- each reachable position once, the opening first, with exactly its moves
pub record IsGraph (touch : List Touch) (opening : List Cell) (positions : List ℕ) (edges : List (List Edge)) : Type 0 where
  pub some : 0 < length positions
  pub first : slice_index positions 0 ≡ pack opening
  pub once : AllPairs (λ a b. a ≢ b) positions
  pub reachable : (n : ℕ) → Contains positions n → (cells : List Cell) × IsReachable touch opening cells × (n ≡ pack cells)
  pub all : (cells : List Cell) → IsReachable touch opening cells → Contains positions (pack cells)
  pub beside : length edges ≡ length positions
  pub moves : (i : ℕ) (cells : List Cell) → i < length positions → IsReachable touch opening cells
      → slice_index positions i ≡ pack cells → HasMoves touch cells positions (slice_index_or edges i [])

-- Each place once, and each edge leads to one that stands earlier.
pub record IsOrderOfPlaces (edges : List (List Edge)) (order : List ℕ) : Type 0 where
  pub once : AllPairs (λ a b. a ≢ b) order
  pub inside : (k : ℕ) → k < length order → slice_index order k < length edges
  pub every : (i : ℕ) → i < length edges → Contains order i
  pub ends_first : (k : ℕ) (e : Edge) → k < length order → Contains (slice_index_or edges (slice_index order k) []) e
      → (j : ℕ) × (j < k) × (slice_index order j ≡ e.next)
