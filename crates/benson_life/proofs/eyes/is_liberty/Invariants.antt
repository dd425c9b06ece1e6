use Rattle.std.proofs.Common.{ℕ, ◌<◌, get_or}
use Rattle.benson_life.specs.inner.Eyes.{IsOfChain}
use Rattle.benson_life.proofs.eyes.is_liberty.Given as goal

abbrev pub invariant-loop-near : goal.invariant-loop-near
invariant-loop-near l = (i : ℕ) → i < l.near-index → ¬ IsOfChain l.survey l.chain (get_or l.near-items i 0)
