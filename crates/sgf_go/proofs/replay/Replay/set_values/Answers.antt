use Rattle.std.proofs.Common.{◌∙◌, ap, subst, Ok, Err}
use Rattle.sgf_go.specs.Values.{trimmed}
use Rattle.sgf_go.specs.Setup.{For, SetsValue}
use Rattle.sgf_go.proofs.PartLemmas.{goes_step, goes_fault, fault_out}
use Rattle.sgf_go.proofs.replay.Replay.set_values.Goals as goal

pub returns-in_err-set_value-clause-follows : goal.returns-in_err-set_value-clause-follows
returns-in_err-set_value-clause-follows c = fault_out (For (λ v. SetsValue c.args.node c.args.cell (trimmed v.items)) c.args.values.now) c.args.self.now c.set_value.new.self c.in_err-set_value.field-0.0 c.from_residual.result c.from_residual.ensures.1
    (goes_fault (λ v. SetsValue c.args.node c.args.cell (trimmed v.items)) c.args.values.now c.loop-at.at c.index-values-at.result c.args.self.now c.loop-at.self c.in_err-set_value.field-0.0 c.loop-at-test.true c.loop-at.invariant.goes_on
    (subst (λ v. SetsValue c.args.node c.args.cell (trimmed v) c.loop-at.self (Err c.in_err-set_value.field-0.0)) (c.deref.ensures.value ∙ ap (λ v. v.items) c.index-values-at.is) c.in_err-set_value.ensures.follows))

pub loop-at-preserved : goal.loop-at-preserved
loop-at-preserved c = record {
  goes_on = goes_step (λ v. SetsValue c.args.node c.args.cell (trimmed v.items)) c.args.values.now c.loop-at.at c.index-values-at.result c.args.self.now c.loop-at.self c.set_value.new.self c.loop-at-test.true c.loop-at.invariant.goes_on
      (subst (λ v. SetsValue c.args.node c.args.cell (trimmed v) c.loop-at.self (Ok c.set_value.new.self)) (c.deref.ensures.value ∙ ap (λ v. v.items) c.index-values-at.is) c.in_ok-set_value.ensures.follows);
  played = c.in_ok-set_value.ensures.played ∙ c.loop-at.invariant.played;
  black = c.in_ok-set_value.ensures.black ∙ c.loop-at.invariant.black;
  white = c.in_ok-set_value.ensures.white ∙ c.loop-at.invariant.white;
}
