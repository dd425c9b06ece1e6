use Rattle.std.proofs.Common.{subst, sym}
use Rattle.whole_budgets.specs.EnginePlay.{AreListedAfter}
use Rattle.cycle_solver.proofs.KeepingLaws.{known_in, paid_listed}
use Rattle.cycle_solver.proofs.keeping_moves.pay.Goals as goal

pub returns-in_default : goal.returns-in_default
returns-in_default c = let (t, cs, keeps) = c.requires.keeps in absurd (c.in_default.ensures (t, keeps.moved))

pub left_behind-requires : goal.left_behind-requires
left_behind-requires c = record { known = known_in c.args.present.now c.in-Some.change c.in-Some.ensures.known c.args.budgets.now c.requires.many }

pub returns-in-Some-left_behind : goal.returns-in-Some-left_behind
returns-in-Some-left_behind c = λ t move.
    let seen = c.args.present.now in
    subst (λ cs. AreListedAfter seen.regions.now seen.whole.now c.args.chosen t c.args.budgets.now cs) (sym c.put_left.ensures)
    (paid_listed seen c.in-Some.change c.args.chosen c.in-Some.ensures t move c.args.budgets.now c.requires.many c.in-Some-left_behind.left
    c.in-Some-left_behind.ensures)
