use Rattle.sgf_go.specs.inner.Values.{LacksColon}
use Rattle.sgf_go.proofs.setup.find_colon.Given as goal

abbrev pub invariant-loop-at : goal.invariant-loop-at
invariant-loop-at l = LacksColon l.text l.at
