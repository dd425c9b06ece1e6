use Rattle.whole_rules.specs.inner.WholeGame.{MovesBelow}
use Rattle.whole_rules.proofs.states.Whole.placings.Given as goal

abbrev pub invariant-loop-number : goal.invariant-loop-number
invariant-loop-number l = MovesBelow l.self l.number l.moves.items
