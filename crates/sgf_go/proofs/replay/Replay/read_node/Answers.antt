use Rattle.std.specs.Prelude.{map}
use Rattle.sgf_tree.specs.Reading.{property_text}
use Rattle.sgf_go.specs.Setup.{NodePart}
use Rattle.sgf_go.proofs.PartLemmas.{fault_out, node_fault, side_fault, move_fault, node_follows}
use Rattle.sgf_go.proofs.replay.Replay.read_node.Goals as goal

pub returns-in_err-set_properties-clause-follows : goal.returns-in_err-set_properties-clause-follows
returns-in_err-set_properties-clause-follows c = fault_out (NodePart c.args.turn c.args.node (map property_text c.args.properties.now)) c.args.self.now c.set_properties.new.self c.in_err-set_properties.field-0.0 c.from_residual.result c.from_residual.ensures.1
    (node_fault c.args.turn c.args.node c.args.properties.now c.args.self.now c.in_err-set_properties.field-0.0 c.in_err-set_properties.ensures.follows)

pub returns-in_err-set_side-clause-follows : goal.returns-in_err-set_side-clause-follows
returns-in_err-set_side-clause-follows c = fault_out (NodePart c.args.turn c.args.node (map property_text c.args.properties.now)) c.args.self.now c.set_side.new.self c.in_err-set_side.field-0.0 c.from_residual-in_err-set_side.result c.from_residual-in_err-set_side.ensures.1
    (side_fault c.args.turn c.args.node c.args.properties.now c.args.self.now c.set_properties.new.self c.in_err-set_side.field-0.0 c.in_ok-set_properties.ensures.follows c.in_err-set_side.ensures.follows)

pub returns-in_err-move_properties-clause-follows : goal.returns-in_err-move_properties-clause-follows
returns-in_err-move_properties-clause-follows c = fault_out (NodePart c.args.turn c.args.node (map property_text c.args.properties.now)) c.args.self.now c.move_properties.new.self c.in_err-move_properties.field-0.0 c.from_residual-in_err-move_properties.result c.from_residual-in_err-move_properties.ensures.1
    (move_fault c.args.turn c.args.node c.args.properties.now c.args.self.now c.set_properties.new.self c.set_side.new.self c.in_err-move_properties.field-0.0 c.in_ok-set_properties.ensures.follows c.in_ok-set_side.ensures.follows c.in_err-move_properties.ensures.follows)

pub returns-clause-follows : goal.returns-clause-follows
returns-clause-follows c = node_follows c.args.turn c.args.node c.args.properties.now c.args.self.now c.set_properties.new.self c.set_side.new.self c.move_properties.new.self
    c.in_ok-set_properties.ensures.follows c.in_ok-set_side.ensures.follows c.in_ok-move_properties.ensures.follows
