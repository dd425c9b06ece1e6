use Rattle.std.proofs.Common.{◌≡◌, ◌*◌, length, arith, ap, subst}
use Rattle.report.specs.Safety.{AreCountedBelow}
use Rattle.report.proofs.safety.counted_lines.Goals as goal

pub add_counted-requires-clause-below : goal.add_counted-requires-clause-below
add_counted-requires-clause-below c = subst (λ n. AreCountedBelow c.args.board.now n c.counting.lines.items) (omega arith) c.counting.invariant

pub add_counted-requires-in-counting-clause-below : goal.add_counted-requires-in-counting-clause-below
add_counted-requires-in-counting-clause-below c =
    subst (λ n. AreCountedBelow c.args.board.now n c.add_counted.new.lines.items) (omega arith) c.in_ok-add_counted.ensures

pub returns : goal.returns
returns c =
    let all : c.counting.number ≡ length c.args.board.now.cells = omega (arith, c.counting-test.false, c.counting.auto.number-end, c.area-number-end.ensures.value, c.size.ensures.area) in
    subst (λ n. AreCountedBelow c.args.board.now n c.counting.lines.items) (ap (λ n. 2 * n) all) c.counting.invariant
