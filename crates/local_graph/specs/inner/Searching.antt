-- A depth-first search from the first node.
use Rattle.std.specs.Prelude.{◌≡◌, ◌≢◌, ℕ, ◌+◌, ◌*◌, ◌^◌, ◌<◌, ◌≤◌, ◌⊎◌, List, [], ◌∷◌, ◌++◌, length, map, slice_index, slice_index_or, Contains, Bool, true, false, count_by, sum_by}
use Rattle.std.specs.List.{AllPairs}
use Rattle.local_graph.specs.declared.graph.Edge.{Edge}
use Rattle.local_graph.specs.declared.search.Frame.{Frame}
use Rattle.local_graph.specs.declared.search.Visit.{Visit}
use Rattle.local_graph.specs.declared.search.Visit.TheVariants.{New, OnPath, Placed}
use Rattle.local_graph.specs.declared.search.Progress.{Progress}
use Rattle.local_graph.specs.declared.search.Progress.TheVariants.{Forward, Back, Done}
use Rattle.local_graph.specs.inner.Graph.{edges_at, edge_at}

-- what is known of a node, where past the last nothing is
abbrev pub visit_at : List Visit → ℕ → Visit
visit_at visits i = slice_index_or visits i New

-- the nodes of the frames of a path
abbrev pub nodes_of : List Frame → List ℕ
nodes_of path = map (λ f. f.node) path

-- the frame is the last of the path
abbrev pub EndsIn : List Frame → Frame → Type 0
EndsIn path f = (front : List Frame) × (path ≡ front ++ f ∷ [])

-- The frames lead from node `i` to node `j`, each by the edge that it has left.
abbrev pub Trail : List (List Edge) → ℕ → List Frame → ℕ → Type 0
Trail edges i [] j = i ≡ j
Trail edges i (f ∷ fs) j = (f.node ≡ i) × (f.left < length (edges_at edges i)) × Trail edges (edge_at edges i f.left).next fs j

-- The frames are the path from node `i`, which is placed where there is no frame. Of each node on the path, the edges past
-- the one that is left lead to placed nodes. That one leads to the next frame's node. At the last frame it leads to a placed
-- node, or is past the last edge.
abbrev pub IsPath : List (List Edge) → List Visit → ℕ → List Frame → Type 0
IsPath edges visits i [] = visit_at visits i ≡ Placed
IsPath edges visits i (f ∷ fs) =
    (f.node ≡ i) × (f.left ≤ length (edges_at edges i))
    × ((k : ℕ) → f.left < k → k < length (edges_at edges i) → visit_at visits (edge_at edges i k).next ≡ Placed)
    × (((f.left ≡ length (edges_at edges i)) × (fs ≡ []))
    ⊎ ((f.left < length (edges_at edges i)) × IsPath edges visits (edge_at edges i f.left).next fs))

-- a search under way, with its path from the first node, what is known of each node, and the placed nodes with ends first
pub record Searching (edges : List (List Edge)) (path : List Frame) (visits : List Visit) (order : List ℕ) : Type 0 where
  pub long : length visits ≡ length edges
  pub path_is : IsPath edges visits 0 path
  pub on_path : (i : ℕ) → visit_at visits i ≡ OnPath → Contains (nodes_of path) i
  pub of_path : (i : ℕ) → Contains (nodes_of path) i → visit_at visits i ≡ OnPath
  pub apart : AllPairs (λ a b. a ≢ b) (nodes_of path)
  pub placed : (i : ℕ) → visit_at visits i ≡ Placed → Contains order i
  pub of_order : (i : ℕ) → Contains order i → visit_at visits i ≡ Placed
  pub once : AllPairs (λ a b. a ≢ b) order
  pub ends_first : (k : ℕ) (e : Edge) → k < length order → Contains (edges_at edges (slice_index order k)) e
      → (j : ℕ) × (j < k) × (slice_index order j ≡ e.next)

-- the second frame is the first with fewer edges left, where those between lead to placed nodes
pub record GoesOn (edges : List (List Edge)) (visits : List Visit) (f g : Frame) : Type 0 where
  pub node : g.node ≡ f.node
  pub fewer : g.left < f.left
  pub over : (k : ℕ) → g.left < k → k < f.left → visit_at visits (edge_at edges f.node k).next ≡ Placed

-- the path and one edge more lead to a node of the path
pub record Returns (edges : List (List Edge)) (path : List Frame) (node : ℕ) : Type 0 where
  pub trail : Trail edges 0 path node
  pub there : Contains (nodes_of path) node
  pub apart : AllPairs (λ a b. a ≢ b) (nodes_of path)

-- the search has not yet come to the node
abbrev pub is_new : Visit → Bool
is_new New = true
is_new OnPath = false
is_new Placed = false

-- the work that a search has still to do, as a number: new nodes weigh most, then the edges that frames have still to follow
abbrev pub work_left : List Frame → List Visit → ℕ
work_left path visits = count_by is_new visits * 2 ^ 64 + sum_by (λ f. f.left + 1) path

-- what a step of a search leads to, with less work left than before
abbrev pub Stepped : List (List Edge) → ℕ → List Frame → List Visit → List ℕ → Progress → Type 0
Stepped edges work path visits order Forward = Searching edges path visits order × (work_left path visits < work)
Stepped edges work path visits order (Back node) = Returns edges path node
Stepped edges work path visits order Done = Searching edges [] visits order
