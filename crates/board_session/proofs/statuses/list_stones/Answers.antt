use Rattle.std.proofs.Common.{◌*◌, sym, ◌∙◌}
use Rattle.board_session.proofs.AnalysisLemmas.{listed_on_board}
use Rattle.board_session.proofs.statuses.list_stones.Goals as goal

pub returns-clause-on_board : goal.returns-clause-on_board
returns-clause-on_board c =
    let size = c.size-size.ensures in
    listed_on_board c.to_list.result (λ v. v.items) c.args.status c.args.board.now (c.args.board.now.columns * c.args.board.now.rows) c.stones_of.result
    (sym size.area ∙ (λ i. size.columns i * size.rows i)) c.stones_of.ensures c.to_list.ensures
