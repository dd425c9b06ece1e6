use Rattle.benson_life.proofs.EyeListLemmas.{SomeEyes}
use Rattle.benson_life.proofs.living_chains.some_eyes.Given as goal

abbrev pub invariant-loop-eye : goal.invariant-loop-eye
invariant-loop-eye l = SomeEyes l.eyes l.breached l.regions l.eye-index
