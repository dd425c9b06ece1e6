use Rattle.std.proofs.Common.{sym, ap, ◌∙◌}
use Rattle.gtp_engine.proofs.engine.Engine.is_running.Goals as goal

pub returns-in-Some-clause-running : goal.returns-in-Some-clause-running
returns-in-Some-clause-running c = λ _. (c.in-Some._game, ap (λ v. v.table.game) (sym c.self.view_is) ∙ c.in-Some.is)
