use mir.Syntax.{w64}
use Rattle.std.proofs.Common.{◌∙◌, ap, subst}
use Rattle.std.proofs.lemmas.Int.{to_z-of_z}
use Rattle.report.specs.Score.{IsScore}
use Rattle.board_session.proofs.AnalysisLemmas.{score_told}
use Rattle.board_session.proofs.analysis.reply_score.Goals as goal

pub returns : goal.returns
returns c =
    let komi = to_z-of_z w64 c.args.komi_halves c.ranges.komi_halves in let game = c.args.game.now in let size = c.size-size in
    let board = c.board.ensures ∙ ap (λ w. w.board) c.whole.ensures in
    score_told game.regions game.state c.args.komi_halves c.args.id.now size.result.columns size.result.rows c.in_ok-score.score c.tell_score.result
    (size.ensures.columns ∙ ap (λ g. g.columns) board) (size.ensures.rows ∙ ap (λ g. g.rows) board)
    (subst (λ k. IsScore game.regions game.state k c.in_ok-score.score) komi c.in_ok-score.ensures.score) c.tell_score.ensures
