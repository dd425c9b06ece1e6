-- What exploring keeps: the positions found so far, as numbers, and their edges.
use Rattle.std.specs.Prelude.{◌≡◌, ◌≢◌, ℕ, ◌+◌, ◌<◌, ◌≤◌, ◌⊎◌, List, [], ◌∷◌, ◌++◌, length, slice_index, slice_index_or, Contains, count_by, IfSome, Result, Ok, Err}
use Rattle.std.specs.List.{AllPairs}
use Rattle.go_grid.specs.declared.grid.Cell.{Cell}
use Rattle.go_grid.specs.declared.region.Touch.{Touch}
use Rattle.local_play.specs.declared.local_move.LocalMove.{LocalMove}
use Rattle.local_graph.specs.declared.graph.Edge.{Edge}
use Rattle.local_graph.specs.declared.graph_build.GraphError.{GraphError}
use Rattle.local_graph.specs.declared.graph_build.GraphError.TheVariants.{Points, Positions, Cycle, Memory}
use Rattle.local_graph.specs.declared.graph_build.Walked.{Walked}
use Rattle.local_graph.specs.declared.search.Visit.{Visit}
use Rattle.local_graph.specs.LocalGraph.{AreEdges, IsGraph, IsOrderOfPlaces, MoreThan}
use Rattle.local_graph.specs.inner.Searching.{visit_at, is_new}

-- the number is among the positions afterwards, last where it was not there
abbrev pub Grows : List ℕ → ℕ → List ℕ → Type 0
Grows before n after = (after ≡ before) ⊎ ((after ≡ before ++ n ∷ []) × ¬ Contains before n)

-- the number's place, or that there are more positions than the limit
abbrev pub Placed : List ℕ → ℕ → ℕ → List ℕ → Result ℕ GraphError → Type 0
Placed before n limit after (Ok place) = Grows before n after × (place < length after) × (slice_index after place ≡ n) × (length after ≤ limit)
Placed before n limit after (Err Positions) = Grows before n after × (limit < length after)
Placed before n limit after (Err (Points p)) = ⊥
Placed before n limit after (Err (Cycle ms back)) = ⊥
Placed before n limit after (Err (Memory e)) = Unit {0}

-- positions were added that moves of the list lead to
pub record AddsPositions (before : List ℕ) (moves : List LocalMove) (after : List ℕ) : Type 0 where
  pub more : List ℕ
  pub appended : after ≡ before ++ more
  pub new : (n : ℕ) → Contains after n → Contains before n ⊎ ((m : LocalMove) × Contains moves m × (m.next ≡ n))
  pub once : AllPairs (λ a b. a ≢ b) after

-- the edge of a move that leads to the position at a place
abbrev pub edge_of : LocalMove → ℕ → Edge
edge_of m next = record { next = next; colour = m.colour; place = m.place; taken = m.taken }

-- the edges of the moves, or that there are more positions than the limit
abbrev pub EdgesFor : List ℕ → List LocalMove → ℕ → List ℕ → List Edge → Result (Unit {0}) GraphError → Type 0
EdgesFor before moves limit after edges (Ok done) =
    AddsPositions before moves after × AreEdges after moves edges × (length after ≤ limit)
EdgesFor before moves limit after edges (Err Positions) = AddsPositions before moves after × (limit < length after)
EdgesFor before moves limit after edges (Err (Points p)) = ⊥
EdgesFor before moves limit after edges (Err (Cycle ms back)) = ⊥
EdgesFor before moves limit after edges (Err (Memory e)) = Unit {0}

-- each place from the number of lists on is new, with an empty list
pub record AreAwaited (all : List (List Edge)) (visits : List Visit) (count : ℕ) (after : List (List Edge)) (still : List Visit) : Type 0 where
  pub long : length after ≡ count
  pub lists : (i : ℕ) → slice_index_or after i [] ≡ slice_index_or all i []
  pub seen : length still + length all ≡ length visits + count
  pub known : (i : ℕ) → visit_at still i ≡ visit_at visits i
  pub many : count_by is_new still + length all ≡ count_by is_new visits + count

-- the whole graph, with an order or none, or that more positions are reachable than the limit
abbrev pub Explored : List Touch → List Cell → ℕ → List ℕ → Result Walked GraphError → Type 0
Explored touch opening limit positions (Ok walked) = IsGraph touch opening positions walked.edges × (length positions ≤ limit)
    × IfSome walked.order (λ order. IsOrderOfPlaces walked.edges order.items)
Explored touch opening limit positions (Err Positions) = MoreThan touch opening limit
Explored touch opening limit positions (Err (Points p)) = ⊥
Explored touch opening limit positions (Err (Cycle ms back)) = ⊥
Explored touch opening limit positions (Err (Memory e)) = Unit {0}
