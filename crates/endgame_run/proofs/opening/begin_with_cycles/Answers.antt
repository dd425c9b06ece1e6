use Rattle.std.proofs.Common.{subst, sym, ap, ◌∙◌, length}
use Rattle.gd_words.specs.declared.job.CycleQuestion.TheVariants as cycle
use Rattle.endgame_questions.specs.Cycles.{NamesCyclePoints, cycle_refusal_line}
use Rattle.endgame_questions.proofs.CycleAnswers.{cycle_fault_answer, cycle_fault_undone, names_cycle_points}
use Rattle.endgame_run.proofs.TopLaws.{fault_begun}
use Rattle.endgame_run.proofs.opening.begin_with_cycles.Goals as goal

pub refused_with_cycles-requires : goal.refused_with_cycles-requires
refused_with_cycles-requires g c =
    subst (λ n. NamesCyclePoints n c.in-Err.fault) (sym (c.size-size.ensures.area ∙ ap (λ g. length g.cells) c.board.ensures.board))
    (names_cycle_points c.args.setup.now c.args.terms.now c.in-Err.fault (fault_begun c.args.setup.now c.args.terms.now c.in-Err.fault c.in-Err.ensures.begun))

pub returns-in_ok-report-in-Err-clause-begun : goal.returns-in_ok-report-in-Err-clause-begun
returns-in_ok-report-in-Err-clause-begun g c =
    let report = c.in_ok-report-in-Err in (
      cycle_fault_answer cycle.Solve c.args.setup.now c.args.terms.now c.in-Err.fault report.report.status report.report.text
          (fault_begun c.args.setup.now c.args.terms.now c.in-Err.fault c.in-Err.ensures.begun) report.ensures.status
          (report.ensures.text ∙ ap (λ n. cycle_refusal_line c.args.terms.now.limits n c.in-Err.fault) (c.size-size.ensures.columns ∙ ap (λ g. g.columns) c.board.ensures.board)),
      cycle_fault_undone c.in-Err.fault report.report.status report.ensures.status,
    )
