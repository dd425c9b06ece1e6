use Rattle.std.proofs.Common.{◌≡◌, length, subst, Some, None}
use Rattle.board_orders.specs.Effects.{done, refused, reply_text}
use Rattle.board_orders.specs.States.{with_stones}
use Rattle.board_orders.specs.inner.Doing.{IsPut, IsSetOut}
use Rattle.board_orders.proofs.HandicapLemmas.{if_ok, set_put, set_refused}
use Rattle.board_orders.proofs.session.BoardSession.set_out.Goals as goal

pub returns-in-Some-clause-set : goal.returns-in-Some-clause-set
returns-in-Some-clause-set c =
    let points = c.args.points.now in let now = c.args.self.now in let id = c.args.id.now in let text = c.args.text.now in let u = c.begin_with.new.self in let board = c.in-Some.board in
    if_ok (λ reply. (reply ≡ reply_text id (done text)) × (u ≡ with_stones now (length points) board)) (λ reply. IsSetOut text c.args.why points id now reply u) c.begin_with.result
    (λ reply is. set_put text c.args.why points id now u board reply
    (subst (λ a. IsPut a.board points (Some board)) c.present.ensures.value (subst (IsPut c.present.result.now.board points) c.in-Some.is c.in_ok-board.ensures)) is.1 is.0) c.begin_with.ensures.begun

pub returns-in-None-clause-set : goal.returns-in-None-clause-set
returns-in-None-clause-set c =
    let points = c.args.points.now in let now = c.args.self.now in let id = c.args.id.now in let text = c.args.text.now in
    if_ok (λ reply. reply ≡ reply_text id (refused c.args.why)) (λ reply. IsSetOut text c.args.why points id now reply now) c.refuse.result
    (λ reply said. set_refused text c.args.why points id now reply
    (subst (λ a. IsPut a.board points None) c.present.ensures.value (subst (IsPut c.present.result.now.board points) c.in-None.is c.in_ok-board.ensures)) said) c.refuse.ensures
