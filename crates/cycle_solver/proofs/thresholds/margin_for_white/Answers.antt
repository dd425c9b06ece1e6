use Rattle.std.proofs.Common.{[], subst}
use Rattle.go_grid.specs.declared.grid.Colour.TheVariants.{Black, White}
use Rattle.endgame_solver.proofs.MarginLaws.{halves_back}
use Rattle.cycle_solver.specs.Thresholds.{IsMarginFor}
use Rattle.cycle_solver.proofs.OneSumLaws.{one_here, values_of}
use Rattle.cycle_solver.proofs.thresholds.margin_for_white.Goals as goal

pub returns-then-are_same_ids-clause-margin : goal.returns-then-are_same_ids-clause-margin
returns-then-are_same_ids-clause-margin c =
    subst (IsMarginFor White c.args.present.now.whole.now c.args.first []) (halves_back c.args.black c.requires.small)
    (c.requires.margin White (values_of (one_here c.requires.low.1 c.requires.high.1 (c.are_same_ids.ensures c.if-are_same_ids.true)) Black White))

pub returns-clause-margin : goal.returns-clause-margin
returns-clause-margin c =
    subst (IsMarginFor White c.args.present.now.whole.now c.args.first []) (halves_back c.margin_for.result c.margin_for.ensures.small)
    (c.margin_for.ensures.margin White (λ ids summed. summed))
