use Rattle.sgf_tree.proofs.StartLemmas.{Searched}
use Rattle.sgf_tree.proofs.reader.find_start.Given as goal

abbrev pub invariant-loop-at : goal.invariant-loop-at
invariant-loop-at l = Searched l.bytes l.at l.opened
