use mir.Syntax.{w64}
use Rattle.std.proofs.Common.{subst, IfOk}
use Rattle.std.proofs.lemmas.Int.{to_z-of_z}
use Rattle.cycle_report.specs.CycleAnalysis.{IsCycleMarginText}
use Rattle.board_session.specs.inner.Analysing.{ShowsText}
use Rattle.board_session.proofs.AnalysisLemmas.{text_found}
use Rattle.board_session.proofs.cycle_analysis.reply_margin.Goals as goal

pub returns : goal.returns
returns c =
    let komi = to_z-of_z w64 c.args.komi_halves c.ranges.komi_halves in let s = c.args.game.now.state in let text = c.in_ok-text.text in
    text_found (IsCycleMarginText s c.args.komi_halves) c.args.id.now text c.show.result
    (subst (λ k. IsCycleMarginText s k text) komi c.in_ok-text.ensures.text)
    (subst (λ t. IfOk c.show.result (ShowsText c.args.id.now t)) c.as_slice.ensures c.show.ensures)
