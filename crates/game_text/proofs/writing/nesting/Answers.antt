use Rattle.std.proofs.Common.{◌+◌, ◌≤◌, get_or, arith, subst, sym, ◌∙◌}
use Rattle.game_text.proofs.NestingLaws.{deepest, deepest-step, deepest-end, few-step, greater-is}
use Rattle.game_text.proofs.writing.nesting.Goals as goal

pub loop-byte-preserved : goal.loop-byte-preserved
loop-byte-preserved c = record {
  same = deepest-step c.args.text.now c.loop-byte.byte-index c.loop-byte.open c.loop-byte.deepest c.braces_behind-open.result c.max-deepest.result (deepest 0 0 c.args.text.now) c.loop-byte.invariant.same c.loop-byte-test.true c.braces_behind-open.ensures (c.max-deepest.ensures ∙ greater-is c.loop-byte.deepest c.braces_behind-open.result);
  few = subst (λ n. n ≤ c.loop-byte.byte-index + 1) (sym c.braces_behind-open.ensures) (few-step c.loop-byte.open (get_or c.args.text.now c.loop-byte.byte-index 0) c.loop-byte.byte-index c.loop-byte.invariant.few);
}

pub returns : goal.returns
returns c = deepest-end c.args.text.now c.loop-byte.byte-index c.loop-byte.open c.loop-byte.deepest c.loop-byte.invariant.same (omega (arith, c.loop-byte-test.false))
