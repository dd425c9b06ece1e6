use Rattle.std.proofs.Common.{arith, rules}
use Rattle.std.proofs.lemmas.Bool.{both_ways}
use Rattle.go_grid.proofs.FillLemmas.{filling_add}
use Rattle.go_grid.proofs.fills.enter.Goals as goal

pub returns-then-not-contains-clause-under_way : goal.returns-then-not-contains-clause-under_way
returns-then-not-contains-clause-under_way c columns start from done before j lf ld s =
    let on = c.contains.ensures.0 c.if-contains.true in
    let more = c.insert.ensures.number (λ m. both_ways _ c.if-not-contains.true (c.contains-then-contains.ensures.1 m)) in
    rw c.from.ensures
    (filling_add columns start from done c.args.point c.args.within.now before c.insert.new.self c.args.work.now (search rules) on
    c.insert.ensures.marks more (omega (arith, more, c.insert.ensures.most)) (j on) lf ld s)
