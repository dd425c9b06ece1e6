use Rattle.std.proofs.Common.{arith, rules, ◌+ℤ◌, pos, subst, sym, ◌≤◌}
use Rattle.std.specs.Prelude.{unsigned_abs}
use mir.Val.{to_z}
use mir.Syntax.{w32}
use Rattle.std.proofs.lemmas.Int.{ints, to_z-of_z}
use Rattle.sum_outcome.proofs.ExampleLaws.{ShiftedSoFar, shifted_step}
use Rattle.game_tests.proofs.sum_tests.shifted.Goals as goal

pub adding-preserved : goal.adding-preserved
adding-preserved c =
    let n = to_z w32 c.adding.n-bits in
    let w = c.adding.invariant in
    let small : unsigned_abs n ≤ 15 = omega (arith, ints, w.count, c.adding-test.true) in
    let form = c.in-Ok.ensures {u = tt} in
    rw (to_z-of_z w32 (n +ℤ pos 1) (search rules))
    (subst (λ l. ShiftedSoFar c.add_number.new.store c.args.game l (n +ℤ pos 1)) (sym (c.in-Ok-push.ensures {u = tt}).items)
    (shifted_step c.adding.store c.add_number.new.store c.args.game c.in-Ok.sum c.adding.games.items n c.whole.result w small (search rules) c.add_number.ensures.kept form.value.0 form.numbers))

pub returns : goal.returns
returns c = (c.adding.invariant.small, omega (arith, ints, c.adding.invariant.count, c.adding.invariant.few, c.adding-test.false))
