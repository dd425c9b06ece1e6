use Rattle.std.proofs.Common.{subst, sym, ap, ◌∙◌, length}
use Rattle.std.proofs.lemmas.Result.{IfOk-weaker}
use Rattle.endgame_questions.specs.Question.{IsPositionAnswer}
use Rattle.endgame_questions.specs.Refusal.{refusal_line}
use Rattle.fault_words.specs.NamedPoints.{NamesPoints}
use Rattle.fault_words.proofs.NamedPointLemmas.{names_points}
use Rattle.endgame_questions.proofs.RefusalLaws.{fault_answer, game_answer}
use Rattle.board_orders.proofs.KeptLemmas.{same_komi}
use Rattle.endgame_questions.proofs.solving.solve.Goals as goal

pub refused-requires : goal.refused-requires
refused-requires g c =
    subst (λ n. NamesPoints n c.in-Err.fault) (sym (c.size.ensures.area ∙ ap (λ g. length g.cells) c.board.ensures.board)) (names_points c.args.setup.now c.args.terms.now.tax c.args.terms.now.limits c.in-Err.fault c.in-Err.ensures.begun)

pub returns-in-Ok-clause-answer : goal.returns-in-Ok-clause-answer
returns-in-Ok-clause-answer g c =
    let q = c.args.question in let setup = c.args.setup.now in let terms = c.args.terms.now in let game = c.in-Ok.solved in
    IfOk-weaker c.report_game-report.result _ (λ r. IsPositionAnswer q terms setup r.status r.text)
    (λ r. game_answer q setup terms game _ r.status r.text c.requires.plain c.requires.regions (same_komi c.komi_halves.result c.komi_halves.ensures.most ∙ c.komi_halves.ensures.value) c.in-Ok.ensures.begun) c.report_game-report.ensures

pub returns-in_ok-report-in-Err-clause-answer : goal.returns-in_ok-report-in-Err-clause-answer
returns-in_ok-report-in-Err-clause-answer g c =
    fault_answer c.args.question c.args.setup.now c.args.terms.now c.in-Err.fault c.in_ok-report-in-Err.report.status c.in_ok-report-in-Err.report.text c.requires.plain c.requires.regions c.in-Err.ensures.begun
    c.in_ok-report-in-Err.ensures.status (c.in_ok-report-in-Err.ensures.text ∙ ap (λ n. refusal_line c.args.terms.now.limits n c.in-Err.fault) (c.size.ensures.columns ∙ ap (λ g. g.columns) c.board.ensures.board))
