use Rattle.std.proofs.Common.{take, Contains}
use Rattle.local_graph.specs.declared.graph.Edge.{Edge}
use Rattle.local_value.specs.inner.Layers.{IsUnchanged}
use Rattle.local_value.proofs.budgets.are_unchanged.Given as goal

abbrev pub invariant-comparing : goal.invariant-comparing
invariant-comparing l = (f : Edge) → Contains (take l.number l.edges) f → IsUnchanged l.count l.ids f
