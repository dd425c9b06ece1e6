use Rattle.std.proofs.Common.{◌≡◌, ◌∙◌, sym, subst, ap, refl}
use Rattle.std.proofs.lemmas.Bool.{false≢true}
use Rattle.board_orders.specs.Handicaps.{IsBare}
use Rattle.board_orders.specs.declared.refusal.Refusal.TheVariants.{BadNumberOfStones, BoardNotEmpty}
use Rattle.board_orders.specs.Doing.{IsDone}
use Rattle.board_orders.specs.inner.Doing.{IsSetOut}
use Rattle.board_orders.specs.Orders.BoardOrder.{fixed_handicap}
use Rattle.board_orders.specs.Effects.{refused, reply_text}
use Rattle.board_orders.specs.Texts.{vertices_text}
use Rattle.board_orders.proofs.HandicapLemmas.{fixed_full, fixed_none, fixed_set, if_ok}
use Rattle.board_orders.proofs.session.BoardSession.set_fixed.Goals as goal

pub returns-then-not-is_bare-clause-set : goal.returns-then-not-is_bare-clause-set
returns-then-not-is_bare-clause-set c =
    let now = c.args.self.now in let id = c.args.id.now in let n = c.args.number in
    if_ok (λ reply. reply ≡ reply_text id (refused BoardNotEmpty)) (λ reply. IsDone (fixed_handicap n) id now reply now) c.refuse.result
    (λ reply said. fixed_full now id reply n (λ bare. false≢true (c.if-not-is_bare.ensures.1 (subst (λ a. IsBare a.board) (sym c.present.ensures.value) bare))) said) c.refuse.ensures

pub returns-then-not-has_places-clause-set : goal.returns-then-not-has_places-clause-set
returns-then-not-has_places-clause-set c =
    let now = c.args.self.now in let id = c.args.id.now in let n = c.args.number in let size = c.size-size.result in
    if_ok (λ reply. reply ≡ reply_text id (refused BadNumberOfStones)) (λ reply. IsDone (fixed_handicap n) id now reply now) c.refuse-then-not-has_places.result
    (λ reply said. fixed_none now id reply size.columns size.rows (subst (λ a. IsBare a.board) c.present.ensures.value (c.if-not-is_bare.ensures.0 refl))
    (c.size-size.ensures.columns ∙ ap (λ a. a.board.columns) c.present-2.ensures.value) (c.size-size.ensures.rows ∙ ap (λ a. a.board.rows) c.present-2.ensures.value) n
    (λ has. false≢true (c.if-not-has_places.ensures.1 has)) said)
    c.refuse-then-not-has_places.ensures

pub returns-clause-set : goal.returns-clause-set
returns-clause-set c =
    let now = c.args.self.now in let id = c.args.id.now in let n = c.args.number in let size = c.size-size.result in
    let text = c.as_bytes.result.now in let points = c.deref-2.result.now in let u = c.set_out.new.self in
    if_ok (λ reply. IsSetOut text BadNumberOfStones points id now reply u) (λ reply. IsDone (fixed_handicap n) id now reply u) c.set_out.result
    (λ reply set. fixed_set now id reply size.columns size.rows (subst (λ a. IsBare a.board) c.present.ensures.value (c.if-not-is_bare.ensures.0 refl))
    (c.size-size.ensures.columns ∙ ap (λ a. a.board.columns) c.present-2.ensures.value) (c.size-size.ensures.rows ∙ ap (λ a. a.board.rows) c.present-2.ensures.value)
    n text points u (c.if-not-has_places.ensures.0 refl) (c.deref-2.ensures.value ∙ c.in_ok-points.ensures.value)
    (c.as_bytes.ensures.value ∙ c.in_ok-text.ensures ∙ ap (vertices_text size.columns size.rows) (c.deref.ensures.value ∙ sym c.deref-2.ensures.value)) set)
    c.set_out.ensures.set
