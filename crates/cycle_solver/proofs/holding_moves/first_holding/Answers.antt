use Rattle.std.proofs.lemmas.Bool.{both_ways}
use Rattle.whole_budgets.specs.EnginePlay.{HoldsOff}
use Rattle.cycle_solver.proofs.KeepingLaws.{first_half_of, first_spend_of, first_stone_of, none_of}
use Rattle.cycle_solver.proofs.holding_moves.first_holding.Goals as goal

pub returns-in-Some-clause-first : goal.returns-in-Some-clause-first
returns-in-Some-clause-first c = first_stone_of c.args.present.now.whole.now (HoldsOff c.args.present.now.whole.now) c.in-Some.point (c.in-Some.ensures {u = tt}).first

pub returns-then-move_holds-clause-first : goal.returns-then-move_holds-clause-first
returns-then-move_holds-clause-first c =
    first_spend_of c.args.present.now.whole.now (HoldsOff c.args.present.now.whole.now) (c.in_default.ensures {u = tt}).first (c.move_holds.ensures.holds.0 c.if-move_holds.true)

pub returns-then-move_holds-2-clause-first : goal.returns-then-move_holds-2-clause-first
returns-then-move_holds-2-clause-first c =
    first_half_of c.args.present.now.whole.now (HoldsOff c.args.present.now.whole.now) (c.in_default.ensures {u = tt}).first
    (λ w. both_ways c.move_holds.result c.if-move_holds.false (c.move_holds.ensures.holds.1 w)) (c.move_holds-2.ensures.holds.0 c.if-move_holds-2.true)

pub returns-clause-first : goal.returns-clause-first
returns-clause-first c =
    none_of c.args.present.now.whole.now (HoldsOff c.args.present.now.whole.now) (c.in_default.ensures {u = tt}).first
    (λ w. both_ways c.move_holds.result c.if-move_holds.false (c.move_holds.ensures.holds.1 w))
    (λ w. both_ways c.move_holds-2.result c.if-move_holds-2.false (c.move_holds-2.ensures.holds.1 w))
