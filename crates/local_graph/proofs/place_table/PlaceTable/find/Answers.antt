use Rattle.local_graph.proofs.TableLemmas.{found_in_set}
use Rattle.local_graph.proofs.place_table.PlaceTable.find.Goals as goal

pub returns-clause-found : goal.returns-clause-found
returns-clause-found c =
    found_in_set _ _ _ c.get_index_of.result c.get_index_of.ensures.index (c.has_slots.ensures.few c.if-has_slots.false).keys
