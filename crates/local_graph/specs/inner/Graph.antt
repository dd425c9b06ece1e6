-- The lists of a graph's edges, one by one and as the spans of one list.
use Rattle.std.specs.Prelude.{ℕ, ◌-◌, ◌≤◌, List, [], map, take, drop, slice_index_or}
use Rattle.std.specs.List.{All}
use Rattle.go_grid.specs.declared.grid.Colour.TheVariants.{Black}
use Rattle.local_graph.specs.declared.graph.Edge.{Edge}
use Rattle.local_graph.specs.declared.edge_lists.Span.{Span}

-- the part of the edges that a span names
abbrev pub part : List Edge → Span → List Edge
part edges s = take (s.end - s.start) (drop s.start edges)

-- the lists that the spans name
abbrev pub lists_of : List Edge → List Span → List (List Edge)
lists_of edges spans = map (part edges) spans

-- the span that names no edges
abbrev pub no_edges : Span
no_edges = record { start = 0; end = 0 }

-- each span names a part of so many edges
abbrev pub AreWithin : ℕ → List Span → Type 0
AreWithin count spans = All (λ s. (s.start ≤ s.end) × (s.end ≤ count)) spans

-- the edges of a node
abbrev pub edges_at : List (List Edge) → ℕ → List Edge
edges_at edges i = slice_index_or edges i []

-- the edge that stands for one past the end of a list
abbrev pub no_edge : Edge
no_edge = record { colour = Black; place = 0; next = 0; taken = 0 }

-- the edge of a node with a number
abbrev pub edge_at : List (List Edge) → ℕ → ℕ → Edge
edge_at edges i k = slice_index_or (edges_at edges i) k no_edge
