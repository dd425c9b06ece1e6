use Rattle.std.proofs.Common.{ap, ◌∙◌, ◌<◌, subst, sym, length}
use Rattle.std.proofs.lemmas.Result.{err_from_is_err_and}
use Rattle.cycle_report.specs.inner.CycleValues.{AreUnshown, HasReport}
use Rattle.cycle_report.proofs.CycleValuesLaws.{each_step, first_cycle_unshown}
use Rattle.report.proofs.ValuesLaws.{refusal_map}
use Rattle.cycle_report.proofs.cycle_values.write_entries.Goals as goal

pub returns-in_err-write_entry-clause-refusal : goal.returns-in_err-write_entry-clause-refusal
returns-in_err-write_entry-clause-refusal c =
    let game = c.args.game.now in
    let report = c.region_report.result in
    let p = err_from_is_err_and c.from_residual.result c.from_residual.ensures.1 in
    let lt = subst (λ n. c.writing.number < n) c.regions-number-end.ensures c.writing-test.true in
    rw (p.1, p.2) (refusal_map c.in_err-write_entry.field-0.0 (λ q h. first_cycle_unshown game.state.board.columns game.trees game.regions c.writing.number q report _ _ c.writing.invariant lt
    c.region_report.ensures.report h.0 (subst (λ Ts. AreUnshown Ts report) c.store.ensures h.1)) c.in_err-write_entry.ensures.refusal)

pub returns-in_err-write_entry-clause-on_board : goal.returns-in_err-write_entry-clause-on_board
returns-in_err-write_entry-clause-on_board c =
    let p = err_from_is_err_and c.from_residual.result c.from_residual.ensures.1 in
    let area = length c.args.game.now.state.board.cells in
    rw (p.1, p.2) (refusal_map c.in_err-write_entry.field-0.0 (λ q h. subst (λ n. n < area) (sym h.0) c.region_report.ensures.on_board) c.in_err-write_entry.ensures.refusal)

pub writing-preserved : goal.writing-preserved
writing-preserved c =
    let game = c.args.game.now in
    let report = c.region_report.result in
    let lt = subst (λ n. c.writing.number < n) c.regions-number-end.ensures c.writing-test.true in
    let columns = c.size-size.ensures.columns ∙ ap (λ g. g.columns) (c.board.ensures ∙ ap (λ s. s.board) c.whole.ensures) in
    let entry = subst (λ n. HasReport n game.trees report c.writing.text c.write_entry.new.text) columns
    (subst (λ Ts. HasReport c.size-size.result.columns Ts report c.writing.text c.write_entry.new.text) c.store.ensures c.in_ok-write_entry.ensures.entry) in
    each_step game.state.board.columns game.trees game.regions c.writing.number report c.args.text.now c.writing.text c.write_entry.new.text c.writing.invariant lt c.region_report.ensures.report entry
