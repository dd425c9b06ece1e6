use Rattle.local_graph.specs.inner.Searching.{Searching, work_left}
use Rattle.local_graph.proofs.search.order_from_opening.Given as goal

abbrev pub invariant-searching : goal.invariant-searching
invariant-searching l = Searching l.edges l.search.path.items l.search.visits.items l.search.order.items

abbrev pub decreases-searching : goal.decreases-searching
decreases-searching l = work_left l.search.path.items l.search.visits.items
