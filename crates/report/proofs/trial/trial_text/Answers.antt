use Rattle.std.proofs.Common.{string_bytes}
use Rattle.report.proofs.TrialLaws.{trial_is}
use Rattle.report.proofs.trial.trial_text.Goals as goal

pub returns-clause-text : goal.returns-clause-text
returns-clause-text c =
    trial_is c.args.number c.args.solved.now (string_bytes c.new-text.result) (string_bytes c.write_counts.new.text) (string_bytes c.write_solution.new.text)
    c.from.result c.new-text.ensures.bytes c.in_ok-write_counts.ensures c.in_ok-write_solution.ensures.outcome c.from.ensures
