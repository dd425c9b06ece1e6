use Rattle.std.proofs.Common.{◌∙◌, ap, string_bytes}
use Rattle.cycle_report.proofs.CycleAnalysisLaws.{no_cycle_move, cycle_move_is}
use Rattle.cycle_report.proofs.cycle_analysis.write_other.Goals as goal

pub returns-in_default-clause-other : goal.returns-in_default-clause-other
returns-in_default-clause-other c =
    no_cycle_move c.args.game.now.state c.args.chosen c.args.label.now (string_bytes c.args.text.now) (c.in_default.ensures {u = tt}).winner

pub returns-clause-other : goal.returns-clause-other
returns-clause-other c =
    let (legal, wins) = (c.in-Some.ensures {u = tt}).winner in
    let turn = c.side-side.ensures ∙ ap (λ s. s.side) c.whole.ensures in
    cycle_move_is c.args.game.now.state c.args.chosen c.args.label.now c.side-side.result c.in-Some.winner c.outcome_word.result.now (string_bytes c.args.text.now)
    (string_bytes c.write_words.new.text) legal wins c.outcome_word.ensures turn c.in_ok-write_words.ensures
