use Rattle.std.proofs.Common.{sym, arith, refl}
use Rattle.std.proofs.lemmas.Bool.{true≢false}
use Rattle.game_canon.proofs.ChangedIdLaws.{noted-at_place, noted-past, noted-nowhere}
use Rattle.game_canon.proofs.change.after_of.Goals as goal

pub returns-then-not-is_at : goal.returns-then-not-is_at
returns-then-not-is_at c = sym (noted-nowhere c.args.changed.now.ids.now c.args.changed.now.afters.now c.args.id c.place_of-place.result c.place_of-place.ensures (λ h. true≢false (sym (c.if-not-is_at.ensures.1 h))) c.requires)

pub returns-then-place-changed : goal.returns-then-place-changed
returns-then-place-changed c = let at = c.if-not-is_at.ensures.0 refl in
    sym (noted-past c.args.changed.now.ids.now c.args.changed.now.afters.now c.args.id c.place_of-place.result c.requires at.0 at.1 (omega (arith, c.if-place-changed.true)))

pub returns : goal.returns
returns c = let at = c.if-not-is_at.ensures.0 refl in
    sym (noted-at_place c.args.changed.now.ids.now c.args.changed.now.afters.now c.args.id c.place_of-place.result c.requires at.0 at.1 (omega (arith, c.if-place-changed.false)))
