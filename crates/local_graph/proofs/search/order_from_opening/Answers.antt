use Rattle.local_graph.proofs.SearchLemmas.{search_end}
use Rattle.local_graph.proofs.search.order_from_opening.Goals as goal

pub returns-in-Done : goal.returns-in-Done
returns-in-Done c = search_end _ _ _ c.requires (rw c.in-Done.is at c.in_ok-step.ensures)
