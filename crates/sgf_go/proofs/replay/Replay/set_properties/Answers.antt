use Rattle.std.proofs.Common.{◌∙◌, subst, Ok, Err}
use Rattle.sgf_tree.specs.Reading.{property_text}
use Rattle.sgf_go.specs.Setup.{For, SetsProperty}
use Rattle.sgf_go.proofs.PartLemmas.{goes_step, goes_fault, goes_end, fault_out}
use Rattle.sgf_go.proofs.replay.Replay.set_properties.Goals as goal

pub returns-in_err-set_property-clause-follows : goal.returns-in_err-set_property-clause-follows
returns-in_err-set_property-clause-follows c = fault_out (For (λ p. SetsProperty c.args.node (property_text p)) c.args.properties.now) c.args.self.now c.set_property.new.self c.in_err-set_property.field-0.0 c.from_residual.result c.from_residual.ensures.1
    (goes_fault (λ p. SetsProperty c.args.node (property_text p)) c.args.properties.now c.loop-at.at c.index-properties-at.result c.args.self.now c.loop-at.self c.in_err-set_property.field-0.0 c.loop-at-test.true c.loop-at.invariant.goes_on
    (subst (λ p. SetsProperty c.args.node (property_text p) c.loop-at.self (Err c.in_err-set_property.field-0.0)) c.index-properties-at.is c.in_err-set_property.ensures.follows))

pub loop-at-preserved : goal.loop-at-preserved
loop-at-preserved c = record {
  goes_on = goes_step (λ p. SetsProperty c.args.node (property_text p)) c.args.properties.now c.loop-at.at c.index-properties-at.result c.args.self.now c.loop-at.self c.set_property.new.self c.loop-at-test.true c.loop-at.invariant.goes_on
      (subst (λ p. SetsProperty c.args.node (property_text p) c.loop-at.self (Ok c.set_property.new.self)) c.index-properties-at.is c.in_ok-set_property.ensures.follows);
  played = c.in_ok-set_property.ensures.played ∙ c.loop-at.invariant.played;
  black = c.in_ok-set_property.ensures.black ∙ c.loop-at.invariant.black;
  white = c.in_ok-set_property.ensures.white ∙ c.loop-at.invariant.white;
}

pub returns-clause-follows : goal.returns-clause-follows
returns-clause-follows c = goes_end (λ p. SetsProperty c.args.node (property_text p)) c.args.properties.now c.loop-at.at c.args.self.now c.loop-at.self c.loop-at-test.false c.loop-at.invariant.goes_on
