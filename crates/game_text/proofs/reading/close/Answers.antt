use Rattle.game_text.proofs.WantLaws.{want-form}
use Rattle.game_store.specs.Meaning.{AreIds}
use Rattle.std.proofs.lemmas.Result.{IfErr-weaker}
use Rattle.std.specs.Prelude.{slice_range}
use Rattle.std.proofs.Common.{sym, subst}
use Rattle.game_text.proofs.ReadingExitLaws.{if-ok, form-taken}
use Rattle.game_text.proofs.reading.close.Goals as goal

pub returns-clause-value : goal.returns-clause-value
returns-clause-value c = if-ok c.take_game.result _ _ (form-taken c.args.store.now c.canonical.new.store c.args.parts_limit c.args.pending.now.options.items c.deref.result.now c.deref-2.result.now c.truncate.new.self.items c.take_game.new.pending.options.items c.args.start c.args.middle c.in_ok-id.id c.deref.ensures.value c.deref-2.ensures.value c.truncate.ensures.items c.in_ok-id.ensures.value c.in_ok-id.ensures.bounds c.in_ok-id.ensures.parts) c.take_game.ensures.options

pub returns-clause-kept : goal.returns-clause-kept
returns-clause-kept c = c.canonical.ensures.kept

pub returns-in_err-id-clause-kept : goal.returns-in_err-id-clause-kept
returns-in_err-id-clause-kept c = c.canonical.ensures.kept

pub canonical-requires-clause-left : goal.canonical-requires-clause-left
canonical-requires-clause-left c = subst (λ z. AreIds c.args.store.now (slice_range z c.args.start c.args.middle)) (sym c.deref.ensures.value) c.requires.left

pub returns-clause-opens : goal.returns-clause-opens
returns-clause-opens c = c.take_game.ensures.opens

pub returns-clause-place : goal.returns-clause-place
returns-clause-place c = c.take_game.ensures.place

pub returns-clause-refusal : goal.returns-clause-refusal
returns-clause-refusal c = IfErr-weaker c.take_game.result _ _ (λ e. want-form _ c.args.parts_limit e) c.take_game.ensures.refusal
