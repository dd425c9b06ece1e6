use Rattle.std.proofs.Common.{arith, sym, subst, refl}
use Rattle.std.proofs.lemmas.Bool.{true≢false}
use Rattle.game_text.specs.inner.Machine.{IsReading}
use Rattle.game_text.proofs.ReadingPlaceLaws.{first-as_game, behind-as_first, comma-next, behind-stray, whole-stray}
use Rattle.game_text.proofs.reading.read_step.Goals as goal

pub read_game-requires-in-First-clause-reading : goal.read_game-requires-in-First-clause-reading
read_game-requires-in-First-clause-reading c = first-as_game c.args.store.now c.args.source.now.parts_limit c.args.source.now.text.now c.args.step.at c.args.pending.now.options.items c.args.pending.now.opens.items c.requires.here
    (subst (λ p. IsReading c.args.store.now c.args.source.now.parts_limit c.args.source.now.text.now c.args.step.at p c.args.pending.now.options.items c.args.pending.now.opens.items) c.in-First.is c.requires.reading)
    (λ below top e m. true≢false (sym ((c.if-ends_side.ensures below top e).1 m)))

pub end_side-requires-then-ends_side-2-clause-reading : goal.end_side-requires-then-ends_side-2-clause-reading
end_side-requires-then-ends_side-2-clause-reading c = behind-as_first c.args.store.now c.args.source.now.parts_limit c.args.source.now.text.now c.args.step.at c.args.pending.now.options.items c.args.pending.now.opens.items c.requires.here
    (subst (λ p. IsReading c.args.store.now c.args.source.now.parts_limit c.args.source.now.text.now c.args.step.at p c.args.pending.now.options.items c.args.pending.now.opens.items) c.in-Behind.is c.requires.reading)
    (λ below top e. (c.if-ends_side-2.ensures below top e).0 refl)

pub returns-then-byte-ne44-clause-refusal : goal.returns-then-byte-ne44-clause-refusal
returns-then-byte-ne44-clause-refusal c = behind-stray c.args.store.now c.args.source.now.parts_limit c.args.source.now.text.now c.args.step.at c.args.pending.now.options.items c.args.pending.now.opens.items c.requires.here
    (subst (λ p. IsReading c.args.store.now c.args.source.now.parts_limit c.args.source.now.text.now c.args.step.at p c.args.pending.now.options.items c.args.pending.now.opens.items) c.in-Behind.is c.requires.reading)
    (λ below top e m. true≢false (sym ((c.if-ends_side-2.ensures below top e).1 m))) c.if-byte-ne44.true

pub returns-in-Whole-clause-refusal : goal.returns-in-Whole-clause-refusal
returns-in-Whole-clause-refusal c = whole-stray c.args.store.now c.args.source.now.parts_limit c.args.source.now.text.now c.args.step.at c.args.pending.now.options.items c.args.pending.now.opens.items c.requires.here
    (subst (λ p. IsReading c.args.store.now c.args.source.now.parts_limit c.args.source.now.text.now c.args.step.at p c.args.pending.now.options.items c.args.pending.now.opens.items) c.in-Whole.is c.requires.reading)

pub returns-else-byte-ne44-clause-next : goal.returns-else-byte-ne44-clause-next
returns-else-byte-ne44-clause-next c = (
  comma-next c.args.store.now c.args.source.now.parts_limit c.args.source.now.text.now c.args.step.at c.args.pending.now.options.items c.args.pending.now.opens.items c.requires.here
      (subst (λ p. IsReading c.args.store.now c.args.source.now.parts_limit c.args.source.now.text.now c.args.step.at p c.args.pending.now.options.items c.args.pending.now.opens.items) c.in-Behind.is c.requires.reading) c.if-byte-ne44.false,
  omega arith,
)

pub returns-in-Game-clause-next : goal.returns-in-Game-clause-next
returns-in-Game-clause-next c = c.read_game.ensures.next

pub returns-in-Game-clause-refusal : goal.returns-in-Game-clause-refusal
returns-in-Game-clause-refusal c = c.read_game.ensures.refusal

pub returns-in-Game-clause-kept : goal.returns-in-Game-clause-kept
returns-in-Game-clause-kept c = c.read_game.ensures.kept

pub returns-then-ends_side-clause-next : goal.returns-then-ends_side-clause-next
returns-then-ends_side-clause-next c = c.end_side.ensures.next

pub returns-then-ends_side-clause-refusal : goal.returns-then-ends_side-clause-refusal
returns-then-ends_side-clause-refusal c = c.end_side.ensures.refusal

pub returns-then-ends_side-clause-kept : goal.returns-then-ends_side-clause-kept
returns-then-ends_side-clause-kept c = c.end_side.ensures.kept

pub returns-then-ends_side-2-clause-next : goal.returns-then-ends_side-2-clause-next
returns-then-ends_side-2-clause-next c = c.end_side-then-ends_side-2.ensures.next

pub returns-then-ends_side-2-clause-refusal : goal.returns-then-ends_side-2-clause-refusal
returns-then-ends_side-2-clause-refusal c = c.end_side-then-ends_side-2.ensures.refusal

pub returns-then-ends_side-2-clause-kept : goal.returns-then-ends_side-2-clause-kept
returns-then-ends_side-2-clause-kept c = c.end_side-then-ends_side-2.ensures.kept
