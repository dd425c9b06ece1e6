use Rattle.endgame_run.proofs.top.terms.Goals as goal

pub returns : goal.returns
returns c = λ i. record { limits = c.limits.ensures i; tax = c.args.job.now.tax }
