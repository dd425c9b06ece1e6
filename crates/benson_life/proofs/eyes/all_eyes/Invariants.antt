use Rattle.benson_life.proofs.EyesLemmas.{Gathering}
use Rattle.benson_life.proofs.eyes.all_eyes.Given as goal

abbrev pub invariant-loop-number : goal.invariant-loop-number
invariant-loop-number l = Gathering l.board l.colour l.survey l.eyes.items l.seen l.number
