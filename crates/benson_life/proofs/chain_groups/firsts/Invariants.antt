use Rattle.benson_life.proofs.FirstLemmas.{AreFirsts}
use Rattle.benson_life.proofs.chain_groups.firsts.Given as goal

abbrev pub invariant-loop-number : goal.invariant-loop-number
invariant-loop-number l = AreFirsts l.«of» l.labels l.number l.seen l.found
