use Rattle.std.proofs.Common.{◌≡◌, ℕ, List, length, map, inl, inr, sym, ap, ◌∙◌, subst, refl, Option, None}
use Rattle.gtp_engine.specs.inner.Viewed.{asked_of}
use Rattle.gtp_words.specs.Words.{AreWords, HasId}
use Rattle.gtp_words.proofs.AskingLemmas.{asked_err, line_asks}
use Rattle.gtp_engine.specs.Asking.{AskedNames, LineNames}
use Rattle.gtp_engine.specs.Request.{Asks}
use Rattle.gtp_engine.specs.Steps.{AskForTurn}
use Rattle.gtp_engine.proofs.AnswerLemmas.{answered_words, some_words}
use Rattle.gtp_engine.proofs.KomiLemmas.{asks_in_range}
use Rattle.gtp_engine.proofs.RoomLemmas.{reply_room, same_room}
use Rattle.gtp_engine.proofs.engine.Engine.answer.Goals as goal

pub meet-requires-clause-komi : goal.meet-requires-clause-komi
meet-requires-clause-komi g c = asks_in_range (map (λ w. w.now) c.take_id-headed.result.rest.now) (asked_of c.read_asked.result) c.read_asked.ensures

pub returns-clause-answered : goal.returns-clause-answered
returns-clause-answered g c =
    let files = g.H.Shelf.files c.args.shelf.now in let before = g.H.Shelf.faults c.args.shelf.now in let now = g.H.Shelf.faults c.meet.new.shelf in
    let words = map (λ w. w.now) c.in_ok-words.words.items in let rest = map (λ w. w.now) c.take_id-headed.result.rest.now in let id = c.take_id-headed.result.id.now in
    let answer = c.in_ok-answer.answer in
    answered_words files before now c.args.line.now id words rest (asked_of c.read_asked.result) c.args.self.now c.meet.new.self answer.reply answer.quit
    (subst (λ t. AreWords t words) (c.deref.ensures.value ∙ c.in_ok-text.ensures) c.in_ok-words.ensures)
    (some_words (λ w. w.now) c.in_ok-words.words.items c.in_ok-words.words.len c.is_empty.result c.if-is_empty.false c.is_empty.ensures (ap length (sym c.deref-2.ensures.value) ∙ c.deref-2.ensures.len))
    (subst (λ ws. HasId (map (λ w. w.now) ws) id rest) c.deref-2.ensures.value c.take_id-headed.ensures)
    c.read_asked.ensures c.in_ok-answer.ensures.met c.in_ok-answer.ensures.quit

pub returns-clause-room : goal.returns-clause-room
returns-clause-room g c =
    reply_room (g.H.Shelf.files c.args.shelf.now) (g.H.Shelf.faults c.args.shelf.now) (g.H.Shelf.faults c.meet.new.shelf) c.args.line.now c.in_ok-answer.answer.reply
    c.args.self.now c.meet.new.self c.in_ok-answer.answer.quit (returns-clause-answered g c)

pub returns-in_err-text-clause-room : goal.returns-in_err-text-clause-room
returns-in_err-text-clause-room g c = same_room c.args.self.now.table c.args.self.now.table refl

pub returns-in_err-words-clause-room : goal.returns-in_err-words-clause-room
returns-in_err-words-clause-room g c = same_room c.args.self.now.table c.args.self.now.table refl

pub returns-then-is_empty-clause-room : goal.returns-then-is_empty-clause-room
returns-then-is_empty-clause-room g c = same_room c.args.self.now.table c.args.self.now.table refl

pub returns-clause-asked : goal.returns-clause-asked
returns-clause-asked g c =
    let words = map (λ w. w.now) c.in_ok-words.words.items in let rest = map (λ w. w.now) c.take_id-headed.result.rest.now in let id = c.take_id-headed.result.id.now in
    let named = λ (name : Option (List ℕ)). line_asks Asks (name ≡ None) (λ asked. AskedNames asked name) c.args.line.now id words rest (asked_of c.read_asked.result)
    (subst (λ t. AreWords t words) (c.deref.ensures.value ∙ c.in_ok-text.ensures) c.in_ok-words.ensures)
    (some_words (λ w. w.now) c.in_ok-words.words.items c.in_ok-words.words.len c.is_empty.result c.if-is_empty.false c.is_empty.ensures (ap length (sym c.deref-2.ensures.value) ∙ c.deref-2.ensures.len))
    (subst (λ ws. HasId (map (λ w. w.now) ws) id rest) c.deref-2.ensures.value c.take_id-headed.ensures)
    c.read_asked.ensures in
    let h = c.in_ok-answer.ensures.asked in (h.0, named h.0 h.1, h.2)

pub returns-in_err-answer-clause-asked : goal.returns-in_err-answer-clause-asked
returns-in_err-answer-clause-asked g c =
    let words = map (λ w. w.now) c.in_ok-words.words.items in let rest = map (λ w. w.now) c.take_id-headed.result.rest.now in let id = c.take_id-headed.result.id.now in
    let named = λ (name : Option (List ℕ)). line_asks Asks (name ≡ None) (λ asked. AskedNames asked name) c.args.line.now id words rest (asked_of c.read_asked.result)
    (subst (λ t. AreWords t words) (c.deref.ensures.value ∙ c.in_ok-text.ensures) c.in_ok-words.ensures)
    (some_words (λ w. w.now) c.in_ok-words.words.items c.in_ok-words.words.len c.is_empty.result c.if-is_empty.false c.is_empty.ensures (ap length (sym c.deref-2.ensures.value) ∙ c.deref-2.ensures.len))
    (subst (λ ws. HasId (map (λ w. w.now) ws) id rest) c.deref-2.ensures.value c.take_id-headed.ensures)
    c.read_asked.ensures in
    asked_err g.H.Shelf.asks (LineNames c.args.line.now) c.args.shelf.now c.from_residual-in_err-answer.result c.meet.new.shelf c.from_residual-in_err-answer.ensures.0
    (elim c.in_err-answer.ensures.asked [ inl none ↦ inl none | inr h ↦ inr (h.0, named h.0 h.1, h.2) ])

pub returns-clause-steps : goal.returns-clause-steps
returns-clause-steps g c =
    let words = map (λ w. w.now) c.in_ok-words.words.items in let rest = map (λ w. w.now) c.take_id-headed.result.rest.now in let id = c.take_id-headed.result.id.now in
    let asks = line_asks Asks ⊥ AskForTurn c.args.line.now id words rest (asked_of c.read_asked.result)
    (subst (λ t. AreWords t words) (c.deref.ensures.value ∙ c.in_ok-text.ensures) c.in_ok-words.ensures)
    (some_words (λ w. w.now) c.in_ok-words.words.items c.in_ok-words.words.len c.is_empty.result c.if-is_empty.false c.is_empty.ensures (ap length (sym c.deref-2.ensures.value) ∙ c.deref-2.ensures.len))
    (subst (λ ws. HasId (map (λ w. w.now) ws) id rest) c.deref-2.ensures.value c.take_id-headed.ensures)
    c.read_asked.ensures in
    elim c.meet.ensures.steps [ inl none ↦ inl none | inr h ↦ inr (asks h.0, h.1) ]

pub returns-in_err-answer-clause-steps : goal.returns-in_err-answer-clause-steps
returns-in_err-answer-clause-steps g c =
    let words = map (λ w. w.now) c.in_ok-words.words.items in let rest = map (λ w. w.now) c.take_id-headed.result.rest.now in let id = c.take_id-headed.result.id.now in
    let asks = line_asks Asks ⊥ AskForTurn c.args.line.now id words rest (asked_of c.read_asked.result)
    (subst (λ t. AreWords t words) (c.deref.ensures.value ∙ c.in_ok-text.ensures) c.in_ok-words.ensures)
    (some_words (λ w. w.now) c.in_ok-words.words.items c.in_ok-words.words.len c.is_empty.result c.if-is_empty.false c.is_empty.ensures (ap length (sym c.deref-2.ensures.value) ∙ c.deref-2.ensures.len))
    (subst (λ ws. HasId (map (λ w. w.now) ws) id rest) c.deref-2.ensures.value c.take_id-headed.ensures)
    c.read_asked.ensures in
    elim c.meet.ensures.steps [ inl none ↦ inl none | inr h ↦ inr (asks h.0, h.1) ]

pub returns-in_err-text-clause-asked : goal.returns-in_err-text-clause-asked
returns-in_err-text-clause-asked g c =
    asked_err g.H.Shelf.asks (LineNames c.args.line.now) c.args.shelf.now c.from_residual.result c.args.shelf.now c.from_residual.ensures.0 (inl refl)

pub returns-in_err-words-clause-asked : goal.returns-in_err-words-clause-asked
returns-in_err-words-clause-asked g c =
    asked_err g.H.Shelf.asks (LineNames c.args.line.now) c.args.shelf.now c.from_residual-in_err-words.result c.args.shelf.now c.from_residual-in_err-words.ensures.0 (inl refl)
