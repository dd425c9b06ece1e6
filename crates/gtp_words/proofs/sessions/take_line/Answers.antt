use Rattle.std.proofs.Common.{◌≤◌, ◌≡◌, ℕ, length, take, sym, ap, ◌∙◌, subst, arith, rules, refl}
use Rattle.std.specs.Io.KnownBytes.{append_known}
use Rattle.desk_io.specs.Lines.{IsFound, UsesLines}
use Rattle.desk_io.proofs.UsedLineLemmas.{used_line, used_none}
use Rattle.gtp_words.specs.Loads.Fate.{no_load}
use Rattle.gtp_words.specs.Steps.{Counted, WithSteps}
use Rattle.gtp_words.specs.inner.Taking.{loaded_at}
use Rattle.gtp_words.proofs.AskingLemmas.{asked_cut, asked_last, asked_maybe, asked_on, asked_waiting, unasked_ended, unasked_unread}
use Rattle.gtp_words.proofs.StepLemmas.{stepped_refused, stepped_reply}
use Rattle.gtp_words.proofs.TakenLineLemmas.{taken_cut, taken_last, taken_nothing, taken_on, taken_unread}
use Rattle.gtp_words.proofs.sessions.take_line.Goals as goal

pub returns-in-Err-say-clause-used : goal.returns-in-Err-say-clause-used
returns-in-Err-say-clause-used g c =
    let held = c.find_line.new.self in let left = g.S.Source.left c.args.lines.now in let left' = g.S.Source.left c.find_line.new.lines in
    let found = subst (λ x. IsFound 1024 held left' x) c.in-Ok-Some.field-0-is c.in-Ok-Some.ensures.found in
    subst (λ l. UsesLines 1024 0 1 c.args.reader.now left l left') (sym c.drop_front.ensures) (used_line 1024 c.args.reader.now held left left' c.in-Ok-Some.found.taken c.find_line.ensures.same found.1 c.find_line.ensures.few)

pub returns-then-answer-clause-used : goal.returns-then-answer-clause-used
returns-then-answer-clause-used g c =
    let held = c.find_line.new.self in let left = g.S.Source.left c.args.lines.now in let left' = g.S.Source.left c.find_line.new.lines in
    let found = subst (λ x. IsFound 1024 held left' x) c.in-Ok-Some.field-0-is c.in-Ok-Some.ensures.found in
    subst (λ l. UsesLines 1024 0 1 c.args.reader.now left l left') (sym c.drop_front.ensures) (used_line 1024 c.args.reader.now held left left' c.in-Ok-Some.found.taken c.find_line.ensures.same found.1 c.find_line.ensures.few)

pub returns-clause-used : goal.returns-clause-used
returns-clause-used g c =
    let held = c.find_line.new.self in let left = g.S.Source.left c.args.lines.now in let left' = g.S.Source.left c.find_line.new.lines in
    let found = subst (λ x. IsFound 1024 held left' x) c.in-Ok-Some.field-0-is c.in-Ok-Some.ensures.found in
    subst (λ l. UsesLines 1024 0 1 c.args.reader.now left l left') (sym c.drop_front.ensures) (used_line 1024 c.args.reader.now held left left' c.in-Ok-Some.found.taken c.find_line.ensures.same found.1 c.find_line.ensures.few)

pub returns-in-Ok-None-clause-used : goal.returns-in-Ok-None-clause-used
returns-in-Ok-None-clause-used g c =
    used_none 1024 0 1 c.args.reader.now c.find_line.new.self (g.S.Source.left c.args.lines.now) (g.S.Source.left c.find_line.new.lines) (omega arith) c.find_line.ensures.same

pub returns-in-Err-clause-used : goal.returns-in-Err-clause-used
returns-in-Err-clause-used g c =
    used_none 1024 0 1 c.args.reader.now c.find_line.new.self (g.S.Source.left c.args.lines.now) (g.S.Source.left c.find_line.new.lines) (omega arith) c.find_line.ensures.same

pub returns-in_default-clause-used : goal.returns-in_default-clause-used
returns-in_default-clause-used g c =
    used_none 1024 0 1 c.args.reader.now c.find_line.new.self (g.S.Source.left c.args.lines.now) (g.S.Source.left c.find_line.new.lines) (omega arith) c.find_line.ensures.same

pub returns-in-Ok-None-clause-noted : goal.returns-in-Ok-None-clause-noted
returns-in-Ok-None-clause-noted g c = (no_load, refl)

pub returns-in-Err-clause-noted : goal.returns-in-Err-clause-noted
returns-in-Err-clause-noted g c = (no_load, refl)

pub returns-in-Err-say-clause-noted : goal.returns-in-Err-say-clause-noted
returns-in-Err-say-clause-noted g c = (c.in-Ok.ensures.answered.fate, c.in-Ok.ensures.answered.noted)

pub returns-then-answer-clause-noted : goal.returns-then-answer-clause-noted
returns-then-answer-clause-noted g c = (c.in-Ok.ensures.answered.fate, c.in-Ok.ensures.answered.noted)

pub returns-clause-noted : goal.returns-clause-noted
returns-clause-noted g c = (c.in-Ok.ensures.answered.fate, c.in-Ok.ensures.answered.noted)

pub returns-in-Ok-None-clause-asked : goal.returns-in-Ok-None-clause-asked
returns-in-Ok-None-clause-asked g c =
    let asks = g.H.Shelf.asks in let names = g.A.AnswersLines.names in let held = c.find_line.new.self in
    let left = g.S.Source.left c.args.lines.now in let left' = g.S.Source.left c.find_line.new.lines in
    unasked_ended asks names c.args.reader.now held left left' c.find_line.ensures.same c.args.shelf.now

pub returns-in-Err-clause-asked : goal.returns-in-Err-clause-asked
returns-in-Err-clause-asked g c =
    let asks = g.H.Shelf.asks in let names = g.A.AnswersLines.names in let held = c.find_line.new.self in
    let left = g.S.Source.left c.args.lines.now in let left' = g.S.Source.left c.find_line.new.lines in
    unasked_unread asks names c.args.reader.now held left left' c.find_line.ensures.same c.args.shelf.now

pub returns-in_default-clause-asked : goal.returns-in_default-clause-asked
returns-in_default-clause-asked g c =
    let asks = g.H.Shelf.asks in let names = g.A.AnswersLines.names in let held = c.find_line.new.self in
    let left = g.S.Source.left c.args.lines.now in let left' = g.S.Source.left c.find_line.new.lines in
    let found = subst (λ x. IsFound 1024 held left' x) c.in-Ok-Some.field-0-is c.in-Ok-Some.ensures.found in
    asked_waiting asks names c.args.reader.now held left left' c.find_line.ensures.same c.args.shelf.now c.in-Ok-Some.found found c.front.result.now c.front.ensures c.answer_line.new.shelf (asked_maybe asks (names c.front.result.now) c.args.shelf.now c.answer_line.result c.answer_line.new.shelf c.answer_line.ensures.asked)

pub returns-in-Err-say-clause-asked : goal.returns-in-Err-say-clause-asked
returns-in-Err-say-clause-asked g c =
    let asks = g.H.Shelf.asks in let names = g.A.AnswersLines.names in let held = c.find_line.new.self in
    let left = g.S.Source.left c.args.lines.now in let left' = g.S.Source.left c.find_line.new.lines in
    let found = subst (λ x. IsFound 1024 held left' x) c.in-Ok-Some.field-0-is c.in-Ok-Some.ensures.found in
    asked_cut asks names c.args.reader.now held left left' c.find_line.ensures.same c.args.shelf.now c.in-Ok-Some.found found c.front.result.now c.front.ensures c.answer_line.new.shelf c.drop_front.new.self c.drop_front.ensures c.in-Ok.ensures.asked

pub returns-then-answer-clause-asked : goal.returns-then-answer-clause-asked
returns-then-answer-clause-asked g c =
    let asks = g.H.Shelf.asks in let names = g.A.AnswersLines.names in let held = c.find_line.new.self in
    let left = g.S.Source.left c.args.lines.now in let left' = g.S.Source.left c.find_line.new.lines in
    let found = subst (λ x. IsFound 1024 held left' x) c.in-Ok-Some.field-0-is c.in-Ok-Some.ensures.found in
    asked_last asks names c.args.reader.now held left left' c.find_line.ensures.same c.args.shelf.now c.in-Ok-Some.found found c.front.result.now c.front.ensures c.answer_line.new.shelf c.drop_front.new.self c.drop_front.ensures c.in-Ok.ensures.asked

pub returns-clause-asked : goal.returns-clause-asked
returns-clause-asked g c =
    let asks = g.H.Shelf.asks in let names = g.A.AnswersLines.names in let held = c.find_line.new.self in
    let left = g.S.Source.left c.args.lines.now in let left' = g.S.Source.left c.find_line.new.lines in
    let found = subst (λ x. IsFound 1024 held left' x) c.in-Ok-Some.field-0-is c.in-Ok-Some.ensures.found in
    asked_on asks names c.args.reader.now held left left' c.find_line.ensures.same c.args.shelf.now c.in-Ok-Some.found found c.front.result.now c.front.ensures c.answer_line.new.shelf c.drop_front.new.self c.drop_front.ensures c.in-Ok.ensures.asked

pub returns-in-Err-say-clause-taken : goal.returns-in-Err-say-clause-taken
returns-in-Err-say-clause-taken g c =
    let State = g.A.AnswersLines.State in let Steps = g.A.AnswersLines.line_steps (g.A.AnswersLines.rules c.args.engine.now) in
    let Reply = g.A.AnswersLines.replies (g.A.AnswersLines.rules c.args.engine.now) (g.H.Shelf.files c.args.shelf.now) in
    let old = g.A.AnswersLines.loaded c.args.engine.now in let before = g.H.Shelf.faults c.args.shelf.now in let held = c.find_line.new.self in
    let left = g.S.Source.left c.args.lines.now in let left' = g.S.Source.left c.find_line.new.lines in let holds = g.K.Sink.holds c.args.out.now in
    let holds' = g.K.Sink.holds c.say.new.out in let now = g.H.Shelf.faults c.answer_line.new.shelf in let new = g.A.AnswersLines.loaded c.answer_line.new.self in
    let f = c.in-Ok-Some.found in let answer = c.in-Ok.answer in let found = subst (λ x. IsFound 1024 held left' x) c.in-Ok-Some.field-0-is c.in-Ok-Some.ensures.found in
    let reply = stepped_reply State Steps Reply before now c.front.result.now old answer.reply new answer.quit c.args.steps.now c.answer_line.new.steps c.in-Ok.ensures.answered c.in-Ok.ensures.steps in
    taken_cut (Counted State) (WithSteps Steps Reply) before now (loaded_at old c.args.steps.now) c.args.reader.now held left left' holds c.find_line.ensures.same f found (loaded_at new c.answer_line.new.steps)
    c.front.result.now c.drop_front.new.self c.front.ensures c.drop_front.ensures answer.reply answer.quit holds' reply (subst (λ t. (n : ℕ) × (n ≤ length t) × (holds' ≡ append_known holds (take n t))) c.as_slice.ensures c.in-Err-say.ensures.bytes)

pub returns-then-answer-clause-taken : goal.returns-then-answer-clause-taken
returns-then-answer-clause-taken g c =
    let State = g.A.AnswersLines.State in let Steps = g.A.AnswersLines.line_steps (g.A.AnswersLines.rules c.args.engine.now) in
    let Reply = g.A.AnswersLines.replies (g.A.AnswersLines.rules c.args.engine.now) (g.H.Shelf.files c.args.shelf.now) in
    let old = g.A.AnswersLines.loaded c.args.engine.now in let before = g.H.Shelf.faults c.args.shelf.now in let held = c.find_line.new.self in
    let left = g.S.Source.left c.args.lines.now in let left' = g.S.Source.left c.find_line.new.lines in let holds = g.K.Sink.holds c.args.out.now in
    let holds' = g.K.Sink.holds c.say.new.out in let now = g.H.Shelf.faults c.answer_line.new.shelf in let new = g.A.AnswersLines.loaded c.answer_line.new.self in
    let f = c.in-Ok-Some.found in let answer = c.in-Ok.answer in let found = subst (λ x. IsFound 1024 held left' x) c.in-Ok-Some.field-0-is c.in-Ok-Some.ensures.found in
    let reply = stepped_reply State Steps Reply before now c.front.result.now old answer.reply new answer.quit c.args.steps.now c.answer_line.new.steps c.in-Ok.ensures.answered c.in-Ok.ensures.steps in
    taken_last (Counted State) (WithSteps Steps Reply) before now (loaded_at old c.args.steps.now) c.args.reader.now held left left' holds c.find_line.ensures.same f found (loaded_at new c.answer_line.new.steps)
    c.front.result.now c.drop_front.new.self c.front.ensures c.drop_front.ensures answer.reply answer.quit holds' reply c.if-answer.true (c.in-Ok-say.ensures.bytes ∙ ap (append_known holds) c.as_slice.ensures)

pub returns-clause-taken : goal.returns-clause-taken
returns-clause-taken g c =
    let State = g.A.AnswersLines.State in let Steps = g.A.AnswersLines.line_steps (g.A.AnswersLines.rules c.args.engine.now) in
    let Reply = g.A.AnswersLines.replies (g.A.AnswersLines.rules c.args.engine.now) (g.H.Shelf.files c.args.shelf.now) in
    let old = g.A.AnswersLines.loaded c.args.engine.now in let before = g.H.Shelf.faults c.args.shelf.now in let held = c.find_line.new.self in
    let left = g.S.Source.left c.args.lines.now in let left' = g.S.Source.left c.find_line.new.lines in let holds = g.K.Sink.holds c.args.out.now in
    let holds' = g.K.Sink.holds c.say.new.out in let now = g.H.Shelf.faults c.answer_line.new.shelf in let new = g.A.AnswersLines.loaded c.answer_line.new.self in
    let f = c.in-Ok-Some.found in let answer = c.in-Ok.answer in let found = subst (λ x. IsFound 1024 held left' x) c.in-Ok-Some.field-0-is c.in-Ok-Some.ensures.found in
    let reply = stepped_reply State Steps Reply before now c.front.result.now old answer.reply new answer.quit c.args.steps.now c.answer_line.new.steps c.in-Ok.ensures.answered c.in-Ok.ensures.steps in
    taken_on (Counted State) (WithSteps Steps Reply) before now (loaded_at old c.args.steps.now) c.args.reader.now held left left' holds c.find_line.ensures.same f found (loaded_at new c.answer_line.new.steps)
    c.front.result.now c.drop_front.new.self c.front.ensures c.drop_front.ensures answer.reply answer.quit holds' reply c.if-answer.false (c.in-Ok-say.ensures.bytes ∙ ap (append_known holds) c.as_slice.ensures)

pub returns-in-Ok-None-clause-taken : goal.returns-in-Ok-None-clause-taken
returns-in-Ok-None-clause-taken g c =
    let State = g.A.AnswersLines.State in let Steps = g.A.AnswersLines.line_steps (g.A.AnswersLines.rules c.args.engine.now) in
    let Reply = g.A.AnswersLines.replies (g.A.AnswersLines.rules c.args.engine.now) (g.H.Shelf.files c.args.shelf.now) in
    let old = g.A.AnswersLines.loaded c.args.engine.now in let before = g.H.Shelf.faults c.args.shelf.now in let held = c.find_line.new.self in
    let left = g.S.Source.left c.args.lines.now in let left' = g.S.Source.left c.find_line.new.lines in let holds = g.K.Sink.holds c.args.out.now in
    let found = subst (λ x. IsFound 1024 held left' x) c.in-Ok-None.field-0-is c.in-Ok-None.ensures.found in
    taken_nothing (Counted State) (WithSteps Steps Reply) before before (loaded_at old c.args.steps.now) c.args.reader.now held left left' holds c.find_line.ensures.same found.0 found.1

pub returns-in-Err-clause-taken : goal.returns-in-Err-clause-taken
returns-in-Err-clause-taken g c =
    let State = g.A.AnswersLines.State in let Steps = g.A.AnswersLines.line_steps (g.A.AnswersLines.rules c.args.engine.now) in
    let Reply = g.A.AnswersLines.replies (g.A.AnswersLines.rules c.args.engine.now) (g.H.Shelf.files c.args.shelf.now) in
    let old = g.A.AnswersLines.loaded c.args.engine.now in let before = g.H.Shelf.faults c.args.shelf.now in let held = c.find_line.new.self in
    let left = g.S.Source.left c.args.lines.now in let left' = g.S.Source.left c.find_line.new.lines in let holds = g.K.Sink.holds c.args.out.now in
    taken_unread (Counted State) (WithSteps Steps Reply) before before (loaded_at old c.args.steps.now) c.args.reader.now held left left' holds c.find_line.ensures.same

pub returns-in_default-clause-taken : goal.returns-in_default-clause-taken
returns-in_default-clause-taken g c =
    let State = g.A.AnswersLines.State in let Steps = g.A.AnswersLines.line_steps (g.A.AnswersLines.rules c.args.engine.now) in
    let Reply = g.A.AnswersLines.replies (g.A.AnswersLines.rules c.args.engine.now) (g.H.Shelf.files c.args.shelf.now) in
    let old = g.A.AnswersLines.loaded c.args.engine.now in let before = g.H.Shelf.faults c.args.shelf.now in let held = c.find_line.new.self in
    let left = g.S.Source.left c.args.lines.now in let left' = g.S.Source.left c.find_line.new.lines in let holds = g.K.Sink.holds c.args.out.now in
    let found = subst (λ x. IsFound 1024 held left' x) c.in-Ok-Some.field-0-is c.in-Ok-Some.ensures.found in
    stepped_refused State Steps Reply before (g.H.Shelf.faults c.answer_line.new.shelf) old (g.A.AnswersLines.loaded c.answer_line.new.self) c.args.steps.now c.answer_line.new.steps c.args.reader.now held left left' holds
    c.find_line.ensures.same c.in-Ok-Some.found found c.front.result.now c.front.ensures (ap g.A.AnswersLines.loaded (search rules)) c.answer_line.ensures.steps

pub returns-in-Err-say-clause-counted : goal.returns-in-Err-say-clause-counted
returns-in-Err-say-clause-counted g c = let h = c.in-Ok.ensures.answered in (c.front.result.now, c.in-Ok.answer.reply, h.fate, c.in-Ok.answer.quit, (h.answered, c.in-Ok.ensures.steps))

pub returns-then-answer-clause-counted : goal.returns-then-answer-clause-counted
returns-then-answer-clause-counted g c = let h = c.in-Ok.ensures.answered in (c.front.result.now, c.in-Ok.answer.reply, h.fate, c.in-Ok.answer.quit, (h.answered, c.in-Ok.ensures.steps))

pub returns-clause-counted : goal.returns-clause-counted
returns-clause-counted g c = let h = c.in-Ok.ensures.answered in (c.front.result.now, c.in-Ok.answer.reply, h.fate, c.in-Ok.answer.quit, (h.answered, c.in-Ok.ensures.steps))

pub returns-in_default-clause-counted : goal.returns-in_default-clause-counted
returns-in_default-clause-counted g c = (ap (λ e. (g.A.AnswersLines.loaded e).state) (search rules), (c.front.result.now, c.answer_line.ensures.steps))
