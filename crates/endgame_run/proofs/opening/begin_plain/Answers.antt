use Rattle.std.proofs.Common.{subst, sym, ap, ◌∙◌, length}
use Rattle.gd_words.specs.declared.job.Question.TheVariants.{Solve}
use Rattle.endgame_questions.specs.Refusal.{refusal_line}
use Rattle.fault_words.specs.NamedPoints.{NamesPoints}
use Rattle.fault_words.proofs.NamedPointLemmas.{names_points}
use Rattle.endgame_questions.proofs.RefusalLaws.{is_refused}
use Rattle.endgame_questions.proofs.AnswerLaws.{refused_answer}
use Rattle.endgame_run.proofs.opening.begin_plain.Goals as goal

pub refused-requires : goal.refused-requires
refused-requires g c =
    subst (λ n. NamesPoints n c.in-Err.fault) (sym (c.size-size.ensures.area ∙ ap (λ g. length g.cells) c.board.ensures.board)) (names_points c.args.setup.now c.args.terms.now.tax c.args.terms.now.limits c.in-Err.fault c.in-Err.ensures.begun)

pub returns-in_ok-report-in-Err-clause-begun : goal.returns-in_ok-report-in-Err-clause-begun
returns-in_ok-report-in-Err-clause-begun g c =
    let report = c.in_ok-report-in-Err in
    refused_answer Solve c.args.terms.now c.args.setup.now report.report.status report.report.text tt tt
    (is_refused c.args.setup.now c.args.terms.now c.in-Err.fault report.report.status report.report.text c.in-Err.ensures.begun report.ensures.status
    (report.ensures.text ∙ ap (λ n. refusal_line c.args.terms.now.limits n c.in-Err.fault) (c.size-size.ensures.columns ∙ ap (λ g. g.columns) c.board.ensures.board)))
