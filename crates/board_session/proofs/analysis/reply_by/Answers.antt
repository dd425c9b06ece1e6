use Rattle.std.proofs.Common.{◌∙◌, subst, sym, IfOk}
use Rattle.board_session.specs.inner.Analysing.{RepliesBy}
use Rattle.board_session.proofs.analysis.reply_by.Goals as goal

pub returns-in-Some-clause-replied : goal.returns-in-Some-clause-replied
returns-in-Some-clause-replied g c =
    subst (λ t. IfOk c.reply_with_cycles.result (RepliesBy t c.args.limits.now c.args.topic c.args.setup.now c.args.id.now)) (sym c.in-Some.is ∙ c.cycle_topic.ensures)
    c.reply_with_cycles.ensures.replied

pub returns-in-None-clause-replied : goal.returns-in-None-clause-replied
returns-in-None-clause-replied g c =
    subst (λ t. IfOk c.reply_in.result (RepliesBy t c.args.limits.now c.args.topic c.args.setup.now c.args.id.now)) (sym c.in-None.is ∙ c.cycle_topic.ensures)
    c.reply_in.ensures.replied
