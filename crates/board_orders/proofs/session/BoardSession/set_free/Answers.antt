use Rattle.std.proofs.Common.{◌≡◌, ◌∙◌, sym, subst, ap, refl, map}
use Rattle.std.proofs.lemmas.Bool.{false≢true}
use Rattle.std.specs.Option.{option_map}
use Rattle.board_orders.specs.Handicaps.{IsBare}
use Rattle.board_orders.specs.declared.refusal.Refusal.TheVariants.{BadVertexList, BoardNotEmpty}
use Rattle.board_orders.specs.inner.Doing.{AreRead}
use Rattle.board_orders.specs.Doing.{IsDone}
use Rattle.board_orders.specs.Orders.BoardOrder.{free_handicap}
use Rattle.board_orders.specs.Effects.{refused, reply_text}
use Rattle.board_orders.proofs.HandicapLemmas.{free_astray, free_full, if_ok}
use Rattle.board_orders.proofs.session.BoardSession.set_free.Goals as goal

pub returns-then-not-is_bare-clause-set : goal.returns-then-not-is_bare-clause-set
returns-then-not-is_bare-clause-set c =
    let words = map (λ w. w.now) c.args.words.now in let now = c.args.self.now in let id = c.args.id.now in
    if_ok (λ reply. reply ≡ reply_text id (refused BoardNotEmpty)) (λ reply. IsDone (free_handicap words) id now reply now) c.refuse.result
    (λ reply said. free_full now id reply words (λ bare. false≢true (c.if-not-is_bare.ensures.1 (subst (λ a. IsBare a.board) (sym c.present.ensures.value) bare))) said) c.refuse.ensures

pub returns-in-None-clause-set : goal.returns-in-None-clause-set
returns-in-None-clause-set c =
    let words = map (λ w. w.now) c.args.words.now in let now = c.args.self.now in let id = c.args.id.now in let size = c.size-size.result in
    if_ok (λ reply. reply ≡ reply_text id (refused BadVertexList)) (λ reply. IsDone (free_handicap words) id now reply now) c.refuse-in-None.result
    (λ reply said. free_astray now id reply size.columns size.rows (subst (λ a. IsBare a.board) c.present.ensures.value (c.if-not-is_bare.ensures.0 refl))
    (c.size-size.ensures.columns ∙ ap (λ a. a.board.columns) c.present-2.ensures.value) (c.size-size.ensures.rows ∙ ap (λ a. a.board.rows) c.present-2.ensures.value) words
    (subst (λ p. AreRead size.columns size.rows words (option_map (λ v. v.items) p)) c.in-None.is c.in_ok-points.ensures) said)
    c.refuse-in-None.ensures
