use Rattle.std.proofs.Common.{◌≡◌, ℕ, List, length, map, inl, inr, refl, sym, ap, ◌∙◌, subst, Option, None}
use Rattle.gtp_words.proofs.AskingLemmas.{asked_err, asked_wider, line_asks}
use Rattle.board_session.specs.Asking.{AskedNames, LineNames}
use Rattle.board_orders.specs.Orders.{Asks}
use Rattle.board_session.specs.Steps.{AskToSolve}
use Rattle.board_orders.specs.Viewed.{asked_of}
use Rattle.gtp_words.specs.Words.{AreWords, HasId}
use Rattle.board_session.proofs.AnswerLemmas.{answered_if_ok, grown_if_ok, some_words}
use Rattle.board_orders.proofs.RangeLemmas.{asked_in_range}
use Rattle.board_session.proofs.engine.BoardEngine.answer.Goals as goal

pub meet-answer-requires-clause-komi : goal.meet-answer-requires-clause-komi
meet-answer-requires-clause-komi g c = asked_in_range _ (asked_of c.read_asked.result) c.read_asked.ensures

pub returns-clause-answered : goal.returns-clause-answered
returns-clause-answered g c =
    let files = g.H.Shelf.files c.args.shelf.now in let before = g.H.Shelf.faults c.args.shelf.now in let now = g.H.Shelf.faults c.meet-answer.new.shelf in
    let words = map (λ w. w.now) c.in_ok-words.words.items in let rest = map (λ w. w.now) c.take_id-headed.result.rest.now in let id = c.take_id-headed.result.id.now in
    answered_if_ok c.meet-answer.result (λ x. x.reply) (λ x. x.quit) files before now c.args.line.now id words rest (asked_of c.read_asked.result) c.args.self.now c.meet-answer.new.self
    (subst (λ t. AreWords t words) (c.deref.ensures.value ∙ c.in_ok-text.ensures) c.in_ok-words.ensures)
    (some_words (λ w. w.now) c.in_ok-words.words.items c.in_ok-words.words.len c.is_empty.result c.if-is_empty.false c.is_empty.ensures (ap length (sym c.deref-2.ensures.value) ∙ c.deref-2.ensures.len))
    (subst (λ ws. HasId (map (λ w. w.now) ws) id rest) c.deref-2.ensures.value c.take_id-headed.ensures)
    c.read_asked.ensures c.meet-answer.ensures.met c.meet-answer.ensures.quit

pub returns-clause-grown : goal.returns-clause-grown
returns-clause-grown g c =
    grown_if_ok c.meet-answer.result (λ x. x.reply) (λ x. x.quit) (g.H.Shelf.files c.args.shelf.now) (g.H.Shelf.faults c.args.shelf.now) (g.H.Shelf.faults c.meet-answer.new.shelf) c.args.line.now
    c.args.self.now c.meet-answer.new.self (returns-clause-answered g c) c.meet-answer.ensures.same

pub returns-clause-same : goal.returns-clause-same
returns-clause-same g c = c.meet-answer.ensures.same

pub returns-clause-same_files : goal.returns-clause-same_files
returns-clause-same_files g c = c.meet-answer.ensures.same_files

pub returns-clause-later_loads : goal.returns-clause-later_loads
returns-clause-later_loads g c = c.meet-answer.ensures.later

pub returns-clause-steps : goal.returns-clause-steps
returns-clause-steps g c =
    let words = map (λ w. w.now) c.in_ok-words.words.items in let rest = map (λ w. w.now) c.take_id-headed.result.rest.now in let id = c.take_id-headed.result.id.now in
    let asks = line_asks Asks ⊥ AskToSolve c.args.line.now id words rest (asked_of c.read_asked.result)
    (subst (λ t. AreWords t words) (c.deref.ensures.value ∙ c.in_ok-text.ensures) c.in_ok-words.ensures)
    (some_words (λ w. w.now) c.in_ok-words.words.items c.in_ok-words.words.len c.is_empty.result c.if-is_empty.false c.is_empty.ensures (ap length (sym c.deref-2.ensures.value) ∙ c.deref-2.ensures.len))
    (subst (λ ws. HasId (map (λ w. w.now) ws) id rest) c.deref-2.ensures.value c.take_id-headed.ensures)
    c.read_asked.ensures in
    elim c.meet-answer.ensures.steps [ inl none ↦ inl none | inr h ↦ inr (asks h.0, h.1) ]

pub returns-clause-asked : goal.returns-clause-asked
returns-clause-asked g c =
    let words = map (λ w. w.now) c.in_ok-words.words.items in let rest = map (λ w. w.now) c.take_id-headed.result.rest.now in let id = c.take_id-headed.result.id.now in
    let named = λ (name : Option (List ℕ)). line_asks Asks (name ≡ None) (λ asked. AskedNames asked name) c.args.line.now id words rest (asked_of c.read_asked.result)
    (subst (λ t. AreWords t words) (c.deref.ensures.value ∙ c.in_ok-text.ensures) c.in_ok-words.ensures)
    (some_words (λ w. w.now) c.in_ok-words.words.items c.in_ok-words.words.len c.is_empty.result c.if-is_empty.false c.is_empty.ensures (ap length (sym c.deref-2.ensures.value) ∙ c.deref-2.ensures.len))
    (subst (λ ws. HasId (map (λ w. w.now) ws) id rest) c.deref-2.ensures.value c.take_id-headed.ensures)
    c.read_asked.ensures in
    asked_wider g.H.Shelf.asks (AskedNames (asked_of c.read_asked.result)) c.args.shelf.now (LineNames c.args.line.now) c.meet-answer.result c.meet-answer.new.shelf named c.meet-answer.ensures.asked

pub returns-in_err-text-clause-asked : goal.returns-in_err-text-clause-asked
returns-in_err-text-clause-asked g c =
    asked_err g.H.Shelf.asks (LineNames c.args.line.now) c.args.shelf.now c.from_residual.result c.args.shelf.now c.from_residual.ensures.0 (inl refl)

pub returns-in_err-words-clause-asked : goal.returns-in_err-words-clause-asked
returns-in_err-words-clause-asked g c =
    asked_err g.H.Shelf.asks (LineNames c.args.line.now) c.args.shelf.now c.from_residual-in_err-words.result c.args.shelf.now c.from_residual-in_err-words.ensures.0 (inl refl)
