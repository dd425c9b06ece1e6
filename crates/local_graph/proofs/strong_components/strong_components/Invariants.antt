use Rattle.local_graph.specs.inner.Telling.{Telling, work_left}
use Rattle.local_graph.proofs.strong_components.strong_components.Given as goal

abbrev pub invariant-searching : goal.invariant-searching
invariant-searching l = Telling l.edges l.search.path.items l.search.waiting.items l.search.starts.items l.search.marks.items l.search.told

abbrev pub decreases-searching : goal.decreases-searching
decreases-searching l = work_left l.search.path.items l.search.marks.items
