use Rattle.std.proofs.Common.{◌≡◌, subst, IfOk, MatchOption, string_bytes}
use Rattle.go_grid.specs.Chain.{IsFirstUnsettled, IsSettled}
use Rattle.board_orders.specs.Effects.{reply_text, unscored}
use Rattle.board_session.proofs.AnalysisLemmas.{no_stones_told}
use Rattle.board_session.proofs.statuses.report_stones.Goals as goal

pub returns-in-Some : goal.returns-in-Some
returns-in-Some c =
    let board = c.args.board.now in
    no_stones_told c.args.status board c.in-Some.point (string_bytes c.in_ok-words.words) c.args.id.now c.refuse_unscored.result
    (subst (λ r. MatchOption r (IsSettled board) (IsFirstUnsettled board)) c.in-Some.is c.in_ok-point.ensures) c.in_ok-words.ensures
    (subst (λ t. IfOk c.refuse_unscored.result (λ reply. reply ≡ reply_text c.args.id.now (unscored t))) c.deref.ensures c.refuse_unscored.ensures)
