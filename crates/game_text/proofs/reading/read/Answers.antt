use Rattle.game_canon.proofs.ChangedIdLaws.{extends-on}
use Rattle.std.proofs.Common.{arith, refl}
use Rattle.game_store.proofs.EntryLaws.{extends-same}
use Rattle.game_text.proofs.ReadingPlaceLaws.{reading-start, ended-named, ended-cut}
use Rattle.game_text.proofs.ReadingExitLaws.{ended-ok, ended-err}
use Rattle.game_text.proofs.reading.read.Goals as goal

pub reading-init : goal.reading-init
reading-init c = record {
  reading = reading-start c.args.store.now c.args.parts_limit c.args.text.now c.new.result.items c.new-2.result.items c.new.ensures.items c.new-2.ensures.items;
  kept = extends-same c.args.store.now c.args.store.now refl;
}

pub returns-clause-refusal : goal.returns-clause-refusal
returns-clause-refusal c = ended-err c.args.parts_limit c.args.text.now c.reading.step.place c.named.result (ended-cut c.reading.store c.args.parts_limit c.args.text.now c.reading.step.at c.reading.pending.options.items c.reading.pending.opens.items c.reading.step.place c.reading.invariant.reading (omega (arith, c.reading-test.false))) c.named.ensures.refusal

pub returns-clause-named : goal.returns-clause-named
returns-clause-named c = ended-ok c.args.parts_limit c.args.text.now c.reading.step.place c.reading.store c.reading.pending.options.items c.named.result (λ id p o. ended-named c.reading.store c.args.parts_limit c.args.text.now c.reading.step.at c.reading.pending.options.items c.reading.pending.opens.items c.reading.step.place c.reading.invariant.reading (omega (arith, c.reading-test.false)) id p o) c.named.ensures.id

pub returns-clause-kept : goal.returns-clause-kept
returns-clause-kept c = c.reading.invariant.kept

pub returns-in_err-step-clause-kept : goal.returns-in_err-step-clause-kept
returns-in_err-step-clause-kept c = extends-on _ _ _ c.reading.invariant.kept c.read_step.ensures.kept
