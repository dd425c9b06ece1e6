use Rattle.std.proofs.Common.{◌∙◌, ap}
use Rattle.std.proofs.lemmas.Result.{IfOk-weaker}
use Rattle.board_orders.specs.States.{with_stones}
use Rattle.board_orders.proofs.session.BoardSession.clear.Goals as goal

pub returns-clause-cleared : goal.returns-clause-cleared
returns-clause-cleared c = IfOk-weaker c.begin_with.result _ _ (λ reply is. (is.0, is.1 ∙ ap (with_stones c.args.self.now 0) c.in_ok-board.ensures)) c.begin_with.ensures.begun
