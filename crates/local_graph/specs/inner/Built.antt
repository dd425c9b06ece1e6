-- Walks along stored edges, and moves that come back.
use Rattle.std.specs.Prelude.{◌≡◌, ◌≢◌, ℕ, ◌<◌, List, [], ◌∷◌, length, take, drop, map, slice_index_or, Contains}
use Rattle.local_graph.specs.declared.cycle.CycleMove.{CycleMove}
use Rattle.local_graph.specs.declared.graph.Edge.{Edge}

-- the edge is one of the node's
abbrev pub IsEdgeAt : List (List Edge) → ℕ → Edge → Type 0
IsEdgeAt edges i e = Contains (slice_index_or edges i []) e

-- the list of edges leads from one node to the other
abbrev pub Follows : List (List Edge) → ℕ → List Edge → ℕ → Type 0
Follows edges i [] j = i ≡ j
Follows edges i (e ∷ es) j = IsEdgeAt edges i e × Follows edges e.next es j

-- each edge leads to a node, and each node is reached from the first
pub record IsRooted (edges : List (List Edge)) : Type 0 where
  pub some : 0 < length edges
  pub inside : (i : ℕ) (e : Edge) → IsEdgeAt edges i e → e.next < length edges
  pub reached : (i : ℕ) → i < length edges → (es : List Edge) × Follows edges 0 es i

-- the move that an edge stands for: its colour and its place
abbrev pub move_of : Edge → CycleMove
move_of e = record { colour = e.colour; place = e.place }

-- edges from the first node that come back, with different nodes before the end
pub record ComesBack (edges : List (List Edge)) (ms : List CycleMove) (back : ℕ) : Type 0 where
  pub along : List Edge
  pub moves : map move_of along ≡ ms
  pub before_end : back < length along
  pub node : ℕ
  pub there : Follows edges 0 (take back along) node
  pub again : Follows edges node (drop back along) node
  pub different : (i j a b : ℕ) → i < j → j < length along → Follows edges 0 (take i along) a → Follows edges 0 (take j along) b → a ≢ b
