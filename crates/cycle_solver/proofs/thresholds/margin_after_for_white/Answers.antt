use Rattle.std.proofs.Common.{[], ◌∷◌, subst}
use Rattle.go_grid.specs.declared.grid.Colour.TheVariants.{Black, White}
use Rattle.endgame_solver.proofs.MarginLaws.{halves_back}
use Rattle.cycle_solver.specs.Thresholds.{IsMarginFor}
use Rattle.cycle_solver.proofs.OneSumLaws.{values_of}
use Rattle.cycle_solver.proofs.thresholds.margin_after_for_white.Goals as goal

pub returns-then-is_one_behind-clause-margin : goal.returns-then-is_one_behind-clause-margin
returns-then-is_one_behind-clause-margin c = λ p change.
    let s = c.args.present.now.whole.now in
    subst (IsMarginFor White s s.side (p ∷ [])) (halves_back c.args.black c.requires.small)
    (c.requires.margin White (values_of (c.is_one_behind.ensures c.if-is_one_behind.true) Black White) p change)

pub returns-clause-margin : goal.returns-clause-margin
returns-clause-margin c = λ p change.
    let s = c.args.present.now.whole.now in
    subst (IsMarginFor White s s.side (p ∷ [])) (halves_back c.margin_after.result c.margin_after.ensures.small)
    (c.margin_after.ensures.margin White (λ ids summed. summed) p change)
