use Rattle.std.proofs.Common.{subst, sym, ap, ◌∙◌, length}
use Rattle.std.proofs.lemmas.Result.{IfOk-weaker}
use Rattle.gd_words.specs.declared.job.Question.TheVariants.{WithCycles}
use Rattle.endgame_questions.specs.Cycles.{NamesCyclePoints, cycle_refusal_line}
use Rattle.endgame_questions.specs.Question.{IsPositionAnswer}
use Rattle.endgame_questions.proofs.CycleAnswers.{cycle_fault_answer, cycle_game_answer, names_cycle_points}
use Rattle.board_orders.proofs.KeptLemmas.{same_komi}
use Rattle.endgame_questions.proofs.cycles.solve_with_cycles.Goals as goal

pub refused_with_cycles-requires : goal.refused_with_cycles-requires
refused_with_cycles-requires g c =
    subst (λ n. NamesCyclePoints n c.in-Err.fault) (sym (c.size.ensures.area ∙ ap (λ g. length g.cells) c.board.ensures.board)) (names_cycle_points c.args.setup.now c.args.terms.now c.in-Err.fault c.in-Err.ensures.begun)

pub returns-in-Ok-clause-answer : goal.returns-in-Ok-clause-answer
returns-in-Ok-clause-answer g c =
    let q = c.args.question in let setup = c.args.setup.now in let terms = c.args.terms.now in let game = c.in-Ok.game in
    IfOk-weaker c.report_game-report.result _ (λ r. IsPositionAnswer (WithCycles q) terms setup r.status r.text)
    (λ r. cycle_game_answer q setup terms game _ r.status r.text (same_komi c.komi_halves.result c.komi_halves.ensures.most ∙ c.komi_halves.ensures.value) c.in-Ok.ensures.begun) c.report_game-report.ensures

pub returns-in_ok-report-in-Err-clause-answer : goal.returns-in_ok-report-in-Err-clause-answer
returns-in_ok-report-in-Err-clause-answer g c =
    cycle_fault_answer c.args.question c.args.setup.now c.args.terms.now c.in-Err.fault c.in_ok-report-in-Err.report.status c.in_ok-report-in-Err.report.text c.in-Err.ensures.begun
    c.in_ok-report-in-Err.ensures.status (c.in_ok-report-in-Err.ensures.text ∙ ap (λ n. cycle_refusal_line c.args.terms.now.limits n c.in-Err.fault) (c.size.ensures.columns ∙ ap (λ g. g.columns) c.board.ensures.board))
