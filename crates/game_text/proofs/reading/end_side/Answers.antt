use Rattle.std.proofs.Common.{◌∷◌, [], ◌++◌, arith, ◌∙◌, ap, refl}
use Rattle.std.specs.Prelude.{Some}
use Rattle.std.proofs.lemmas.Result.{err_from_is_err_and}
use Rattle.game_text.specs.inner.Machine.{opening_at}
use Rattle.game_text.specs.Reading.{IsReadRefusal}
use Rattle.game_text.proofs.SideEndLaws.{mark-top, bar-next, left-ids, right-ids, brace-next, brace-refused}
use Rattle.game_text.proofs.ReadingExitLaws.{read-passed_on}
use Rattle.game_text.proofs.reading.end_side.Goals as goal

pub returns-in_default-middle-clause-next : goal.returns-in_default-middle-clause-next
returns-in_default-middle-clause-next c = (
  bar-next c.args.store.now c.args.source.now.parts_limit c.args.source.now.text.now c.args.at c.args.pending.now.options.items c.args.pending.now.opens.items c.pop.new.self.items c.in-Some.top c.requires.here c.requires.reading c.in-Some.ensures.items (mark-top _ _ c.in-Some.top _ c.requires.mark c.in-Some.ensures.items)
      c.args.pending.now.options.items c.push.new.self.items c.in_default-middle.is refl (c.in_ok-push.ensures.items ∙ ap (λ n. c.pop.new.self.items ++ opening_at c.in-Some.top.start (Some n) ∷ []) (c.len.ensures ∙ c.args.pending.now.options.ok.0)),
  omega arith,
)

pub close-requires-clause-left : goal.close-requires-clause-left
close-requires-clause-left c = left-ids c.args.store.now c.args.source.now.parts_limit c.args.source.now.text.now c.args.at c.args.pending.now.options.items c.args.pending.now.opens.items c.pop.new.self.items c.in-Some.top c.requires.here c.requires.reading c.in-Some.ensures.items (mark-top _ _ c.in-Some.top _ c.requires.mark c.in-Some.ensures.items) c.in-Some-middle.middle c.in-Some-middle.is

pub close-requires-clause-right : goal.close-requires-clause-right
close-requires-clause-right c = right-ids c.args.store.now c.args.source.now.parts_limit c.args.source.now.text.now c.args.at c.args.pending.now.options.items c.args.pending.now.opens.items c.pop.new.self.items c.in-Some.top c.requires.here c.requires.reading c.in-Some.ensures.items (mark-top _ _ c.in-Some.top _ c.requires.mark c.in-Some.ensures.items) c.in-Some-middle.middle c.in-Some-middle.is

pub returns-in_err-place-clause-refusal : goal.returns-in_err-place-clause-refusal
returns-in_err-place-clause-refusal c = read-passed_on c.from_residual-in_err-place.result _ (IsReadRefusal c.args.source.now.parts_limit c.args.source.now.text.now) (err_from_is_err_and c.from_residual-in_err-place.result c.from_residual-in_err-place.ensures.1)
    (brace-refused c.args.store.now c.args.source.now.parts_limit c.args.source.now.text.now c.args.at c.args.pending.now.options.items c.args.pending.now.opens.items c.pop.new.self.items c.in-Some.top c.requires.here c.requires.reading c.in-Some.ensures.items (mark-top _ _ c.in-Some.top _ c.requires.mark c.in-Some.ensures.items) c.in-Some-middle.middle c.in-Some-middle.is _ c.in_err-place.ensures.refusal)

pub returns-clause-next : goal.returns-clause-next
returns-clause-next c = (
  brace-next c.args.store.now c.args.source.now.parts_limit c.args.source.now.text.now c.args.at c.args.pending.now.options.items c.args.pending.now.opens.items c.pop.new.self.items c.in-Some.top c.requires.here c.requires.reading c.in-Some.ensures.items (mark-top _ _ c.in-Some.top _ c.requires.mark c.in-Some.ensures.items) c.in-Some-middle.middle c.in-Some-middle.is
      c.close.new.store c.close.new.pending.options.items c.close.new.pending.opens.items c.in_ok-place.place c.close.ensures.kept c.in_ok-place.ensures.value c.in_ok-place.ensures.opens c.in_ok-place.ensures.place,
  omega arith,
)

pub returns-clause-kept : goal.returns-clause-kept
returns-clause-kept c = c.close.ensures.kept

pub returns-in_err-place-clause-kept : goal.returns-in_err-place-clause-kept
returns-in_err-place-clause-kept c = c.close.ensures.kept
