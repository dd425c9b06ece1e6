use Rattle.benson_life.proofs.EyesLemmas.{AddsBelow}
use Rattle.benson_life.proofs.eyes.add_eyes.Given as goal

abbrev pub invariant-loop-near : goal.invariant-loop-near
invariant-loop-near l = AddsBelow l.board l.colour l.survey l.fn.eyes.items l.eyes.items l.point l.near-items l.near-index
