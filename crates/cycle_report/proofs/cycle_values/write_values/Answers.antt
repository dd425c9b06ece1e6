use Rattle.std.proofs.Common.{◌≢◌, ◌∙◌, inl, inr, sym}
use Rattle.std.proofs.lemmas.Bool.{false≢true}
use Rattle.std.proofs.lemmas.Result.{IfOk-from_err, err_from_is_err_and}
use Rattle.short_games.specs.Tree.{tree_at}
use Rattle.cycle_report.specs.inner.CycleValues.{HasLinesOfBoth}
use Rattle.cycle_report.proofs.CycleValuesLaws.{two_values_are}
use Rattle.report.proofs.ValuesLaws.{refusal_map}
use Rattle.cycle_report.proofs.cycle_values.write_values.Goals as goal

pub returns-in_err-write_value-clause-lines : goal.returns-in_err-write_value-clause-lines
returns-in_err-write_value-clause-lines c =
    let Ts = c.args.store.now in
    let r = c.args.report in
    IfOk-from_err c.from_residual.result
    (λ _. HasLinesOfBoth (tree_at Ts r.low) (tree_at Ts r.high) c.args.text.now c.write_value.new.text)
    c.from_residual.ensures.0

pub returns-in_err-write_value-clause-refusal : goal.returns-in_err-write_value-clause-refusal
returns-in_err-write_value-clause-refusal c =
    let q = c.from_residual in
    let p = err_from_is_err_and q.result q.ensures.1 in
    rw (p.1, p.2) (refusal_map c.in_err-write_value.field-0.0 (λ p h. (h.0, inl h.1)) c.in_err-write_value.ensures.refusal)

pub returns-in_err-write_value-2-clause-lines : goal.returns-in_err-write_value-2-clause-lines
returns-in_err-write_value-2-clause-lines c =
    let Ts = c.args.store.now in
    let r = c.args.report in
    IfOk-from_err c.from_residual-in_err-write_value-2.result
    (λ _. HasLinesOfBoth (tree_at Ts r.low) (tree_at Ts r.high) c.args.text.now c.write_value-2.new.text)
    c.from_residual-in_err-write_value-2.ensures.0

pub returns-in_err-write_value-2-clause-refusal : goal.returns-in_err-write_value-2-clause-refusal
returns-in_err-write_value-2-clause-refusal c =
    let q = c.from_residual-in_err-write_value-2 in
    let p = err_from_is_err_and q.result q.ensures.1 in
    rw (p.1, p.2) (refusal_map c.in_err-write_value-2.field-0.0 (λ p h. (h.0, inl h.1)) c.in_err-write_value-2.ensures.refusal)

pub returns-in_err-write_value-3-clause-lines : goal.returns-in_err-write_value-3-clause-lines
returns-in_err-write_value-3-clause-lines c =
    let Ts = c.args.store.now in
    let r = c.args.report in
    IfOk-from_err c.from_residual-in_err-write_value-3.result
    (λ _. HasLinesOfBoth (tree_at Ts r.low) (tree_at Ts r.high) c.args.text.now c.write_value-3.new.text)
    c.from_residual-in_err-write_value-3.ensures.0

pub returns-in_err-write_value-3-clause-refusal : goal.returns-in_err-write_value-3-clause-refusal
returns-in_err-write_value-3-clause-refusal c =
    let q = c.from_residual-in_err-write_value-3 in
    let p = err_from_is_err_and q.result q.ensures.1 in
    rw (p.1, p.2) (refusal_map c.in_err-write_value-3.field-0.0 (λ p h. (h.0, inr h.1)) c.in_err-write_value-3.ensures.refusal)

pub returns-clause-lines : goal.returns-clause-lines
returns-clause-lines c =
    let low = tree_at c.args.store.now c.args.report.low in
    let high = tree_at c.args.store.now c.args.report.high in
    let differ : low ≢ high = λ same. false≢true (sym c.if-is_same.false ∙ c.is_same.ensures.1 same) in
    two_values_are low high c.args.text.now c.write_value-2.new.text c.write_value-3.new.text differ c.in_ok-write_value-2.ensures.lines c.in_ok-write_value-3.ensures.lines
