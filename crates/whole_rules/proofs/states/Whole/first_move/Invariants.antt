use Rattle.whole_rules.proofs.MoveLaws.{NoneBelow}
use Rattle.whole_rules.proofs.states.Whole.first_move.Given as goal

abbrev pub invariant-loop-number : goal.invariant-loop-number
invariant-loop-number l = NoneBelow l.self l.number
