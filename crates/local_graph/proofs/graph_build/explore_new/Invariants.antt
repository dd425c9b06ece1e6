use Rattle.std.proofs.Common.{◌≡◌, ◌+◌, ◌-◌, length}
use Rattle.std.specs.List.{count_by}
use Rattle.local_graph.specs.inner.Exploring.{IsExploring}
use Rattle.local_graph.specs.inner.Searching.{is_new}
use Rattle.local_graph.proofs.graph_build.explore_new.Given as goal

abbrev pub invariant-exploring : goal.invariant-exploring
invariant-exploring g l = record {
  under_way : IsExploring l.region.touch l.region.cells l.fn.limit (length l.region.points) l.table l.found;
  counted : l.steps + count_by is_new l.found.walk.visits.items ≡ l.initial.steps + length l.table.positions.items;
}

abbrev pub decreases-exploring : goal.decreases-exploring
decreases-exploring g l = l.fn.limit + count_by is_new l.found.walk.visits.items - length l.table.positions.items
