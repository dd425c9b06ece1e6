use Rattle.std.proofs.Common.{◌∷◌, [], ◌∙◌, ap, arith, refl, ℤ}
use Rattle.std.proofs.lemmas.Int.{ints}
use Rattle.thermograph.proofs.DrawingLaws.{number-drawing}
use Rattle.thermograph.proofs.drawings.draw_number.Goals as goal

pub returns : goal.returns
returns c = number-drawing c.args.x c.units.ensures.bounds _
    (c.in_ok-left.ensures ∙ ap (λ (v : ℤ). record { at = 0; value = v } ∷ []) (omega (arith, ints, c.units.ensures.count, c.units.ensures.bounds)))
    (c.in_ok-right.ensures ∙ ap (λ (v : ℤ). record { at = 0; value = v } ∷ []) (omega (arith, ints, c.units-2.ensures.count, c.units.ensures.bounds)))
    refl refl
