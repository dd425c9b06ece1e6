use Rattle.local_graph.proofs.ReturnLaws.{cycles_take_both_ways, short_between_captures}
use Rattle.local_graph.proofs.laws.cycles_take_both_ways.Goals as goal

pub returns : goal.returns
returns c = record { both = cycles_take_both_ways; short = short_between_captures }
