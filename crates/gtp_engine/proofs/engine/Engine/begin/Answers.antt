use Rattle.gtp_engine.proofs.engine.Engine.begin.Goals as goal

pub returns-in-Ok-clause-begun : goal.returns-in-Ok-clause-begun
returns-in-Ok-clause-begun c = (c.act.new.game, c.in-Ok.ensures.acted, c.start.ensures)
