use Rattle.go_grid.proofs.parts.put_label.Goals as goal

pub returns-clause-other : goal.returns-clause-other
returns-clause-other c p not = c.loop-index.invariant.other p (λ i le _ lt e. not (i, le, lt, e))
