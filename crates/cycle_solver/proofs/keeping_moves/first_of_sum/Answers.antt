use Rattle.std.proofs.lemmas.Bool.{both_ways}
use Rattle.cycle_solver.specs.Keeping.{Keeps}
use Rattle.cycle_solver.proofs.KeepingLaws.{first_half_of, first_spend_of, first_stone_of, none_of}
use Rattle.cycle_solver.proofs.keeping_moves.first_of_sum.Goals as goal

pub returns-in-Some-clause-first : goal.returns-in-Some-clause-first
returns-in-Some-clause-first c = first_stone_of c.args.present.now.whole.now (Keeps c.args.present.now.regions.now c.args.present.now.whole.now c.args.budgets.now) c.in-Some.point (c.in-Some.ensures {u = tt}).first

pub returns-then-move_keeps-clause-first : goal.returns-then-move_keeps-clause-first
returns-then-move_keeps-clause-first c =
    first_spend_of c.args.present.now.whole.now (Keeps c.args.present.now.regions.now c.args.present.now.whole.now c.args.budgets.now) (c.in_default.ensures {u = tt}).first (c.move_keeps.ensures.keeps.0 c.if-move_keeps.true)

pub returns-then-move_keeps-2-clause-first : goal.returns-then-move_keeps-2-clause-first
returns-then-move_keeps-2-clause-first c =
    first_half_of c.args.present.now.whole.now (Keeps c.args.present.now.regions.now c.args.present.now.whole.now c.args.budgets.now) (c.in_default.ensures {u = tt}).first
    (λ w. both_ways c.move_keeps.result c.if-move_keeps.false (c.move_keeps.ensures.keeps.1 w)) (c.move_keeps-2.ensures.keeps.0 c.if-move_keeps-2.true)

pub returns-clause-first : goal.returns-clause-first
returns-clause-first c =
    none_of c.args.present.now.whole.now (Keeps c.args.present.now.regions.now c.args.present.now.whole.now c.args.budgets.now) (c.in_default.ensures {u = tt}).first
    (λ w. both_ways c.move_keeps.result c.if-move_keeps.false (c.move_keeps.ensures.keeps.1 w))
    (λ w. both_ways c.move_keeps-2.result c.if-move_keeps-2.false (c.move_keeps-2.ensures.keeps.1 w))
