use Rattle.std.proofs.Common.{inl, inr, refl}
use Rattle.gtp_engine.proofs.engine.Engine.take_turn.Goals as goal

pub returns-then-is_running-clause-steps : goal.returns-then-is_running-clause-steps
returns-then-is_running-clause-steps g c = inl refl

pub returns-clause-steps : goal.returns-clause-steps
returns-clause-steps g c = inr (c.is_running.ensures.fresh c.if-is_running.false, c.set_out.ensures.steps)
