use Rattle.std.proofs.Common.{◌+◌, ◌*◌, ◌∙◌, ap, sym, Some, None}
use Rattle.std.specs.Prelude.{if◌then◌else◌}
use Rattle.std.specs.Option.{option_map}
use Rattle.sgf_go.specs.inner.Scan.{fraction}
use Rattle.sgf_go.proofs.ScanLemmas.{scan_digit, scan_large, scan_dot, scan_bad, scan_end}
use Rattle.sgf_go.proofs.komi.read_halves.Goals as goal

pub returns-then-whole-gt-MOST_KOMI-clause-value : goal.returns-then-whole-gt-MOST_KOMI-clause-value
returns-then-whole-gt-MOST_KOMI-clause-value c = sym (c.loop-at.invariant.same
    ∙ scan_large c.args.text.now c.loop-at.at c.loop-at.whole (10 * c.loop-at.whole + c.from.result) c.loop-at.some c.loop-at-test.true (sym (c.if-is_ascii_digit.ensures {u = tt}).value) (ap (λ x. 10 * c.loop-at.whole + x) c.from.ensures) c.if-whole-gt-MOST_KOMI.true)

pub loop-at-preserved : goal.loop-at-preserved
loop-at-preserved c = record {
  same = c.loop-at.invariant.same
      ∙ scan_digit c.args.text.now c.loop-at.at c.loop-at.whole (10 * c.loop-at.whole + c.from.result) c.loop-at.some c.loop-at-test.true (sym (c.if-is_ascii_digit.ensures {u = tt}).value) (ap (λ x. 10 * c.loop-at.whole + x) c.from.ensures) c.if-whole-gt-MOST_KOMI.false;
  small = c.if-whole-gt-MOST_KOMI.false;
}

pub returns-then-byte-ne46-clause-value : goal.returns-then-byte-ne46-clause-value
returns-then-byte-ne46-clause-value c = sym (c.loop-at.invariant.same
    ∙ scan_bad c.args.text.now c.loop-at.at c.loop-at.whole c.loop-at.some c.loop-at-test.true (sym (c.if-is_ascii_digit.ensures {u = tt}).value) c.if-byte-ne46.true)

pub returns-in_err-more-clause-value : goal.returns-in_err-more-clause-value
returns-in_err-more-clause-value c = c.from_residual.ensures ∙ ap (option_map (λ more. 2 * c.loop-at.whole + more)) ((c.in_err-more.ensures {u = tt}).value ∙ ap (fraction c.loop-at.some) c.rest_of.ensures)
    ∙ sym (c.loop-at.invariant.same ∙ scan_dot c.args.text.now c.loop-at.at c.loop-at.whole c.loop-at.some c.loop-at-test.true c.if-byte-ne46.false)

pub returns-else-is_ascii_digit-clause-value : goal.returns-else-is_ascii_digit-clause-value
returns-else-is_ascii_digit-clause-value c = ap (option_map (λ more. 2 * c.loop-at.whole + more)) ((c.in_ok-more.ensures {u = tt}).value ∙ ap (fraction c.loop-at.some) c.rest_of.ensures)
    ∙ sym (c.loop-at.invariant.same ∙ scan_dot c.args.text.now c.loop-at.at c.loop-at.whole c.loop-at.some c.loop-at-test.true c.if-byte-ne46.false)

pub returns-then-some-clause-value : goal.returns-then-some-clause-value
returns-then-some-clause-value c = sym (c.loop-at.invariant.same ∙ scan_end c.args.text.now c.loop-at.at c.loop-at.whole c.loop-at.some c.loop-at-test.false
    ∙ ap (λ some. if some then Some (2 * c.loop-at.whole) else None) c.if-some.true)

pub returns-clause-value : goal.returns-clause-value
returns-clause-value c = sym (c.loop-at.invariant.same ∙ scan_end c.args.text.now c.loop-at.at c.loop-at.whole c.loop-at.some c.loop-at-test.false
    ∙ ap (λ some. if some then Some (2 * c.loop-at.whole) else None) c.if-some.false)
