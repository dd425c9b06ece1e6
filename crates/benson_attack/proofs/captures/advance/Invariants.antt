use Rattle.benson_attack.specs.inner.Reached.{AreTriedBelow}
use Rattle.benson_attack.proofs.captures.advance.Given as goal

abbrev pub invariant-loop-number : goal.invariant-loop-number
invariant-loop-number l = AreTriedBelow l.colour l.alive l.left l.run l.number
