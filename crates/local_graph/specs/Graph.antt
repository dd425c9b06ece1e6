-- What a contract sees of a graph, and of its edges.
use Rattle.std.specs.Prelude.{ℕ, List}
use Rattle.local_graph.specs.declared.graph.Edge.{Edge}

-- a graph: its positions as numbers, the edges of each, and its nodes in an order
pub record Graph : Type 0 where
  pub positions : List ℕ
  pub edges : List (List Edge)
  pub order : List ℕ
