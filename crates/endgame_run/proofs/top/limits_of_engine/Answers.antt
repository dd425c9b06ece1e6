use Rattle.endgame_run.proofs.top.limits_of_engine.Goals as goal

pub returns : goal.returns
returns c = λ i. record { game = c.limits.ensures i; territory = c.args.job.now.settings.territory; cycles = c.args.job.now.cycles }
