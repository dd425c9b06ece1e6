use Rattle.std.proofs.Common.{◌≡◌, ◌∙◌, ◌<◌, ap, arith, sym, subst, get_or, length, List, Ok, Err}
use Rattle.std.proofs.lemmas.List.Sums.{sum_by_more, sum_by_more_le}
use Rattle.std.specs.Prelude.{IfSome, map}
use Rattle.sgf_tree.specs.Grammar.{PropertyText}
use Rattle.sgf_tree.specs.Reading.{property_text, node_text}
use Rattle.sgf_tree.specs.declared.tree.Node.{Node}
use Rattle.sgf_go.specs.Setup.{LinePart, NodePart, ends_before}
use Rattle.sgf_go.proofs.PartLemmas.{fault_out, line_ends, line_fault, line_step, line_stops}
use Rattle.sgf_go.proofs.replay.Replay.read_line.Goals as goal

pub returns-then-ends_before-clause-follows : goal.returns-then-ends_before-clause-follows
returns-then-ends_before-clause-follows c =
    let same : map property_text c.as_slice-properties.result.now ≡ node_text (get_or c.args.line.now c.nodes.at c.index-line-at.result) = ap (map property_text) c.as_slice-properties.ensures.value in
    line_stops c.args.after c.args.turn c.args.line.now c.nodes.at c.index-line-at.result c.args.self.now c.nodes.self c.nodes-test.true c.nodes.invariant.goes_on
    (ap (λ ps. ends_before c.args.after ps c.nodes.self.played) (sym same) ∙ sym c.if-ends_before.ensures)

pub returns-in_err-read_node-clause-follows : goal.returns-in_err-read_node-clause-follows
returns-in_err-read_node-clause-follows c =
    let same : map property_text c.as_slice-properties.result.now ≡ node_text (get_or c.args.line.now c.nodes.at c.index-line-at.result) = ap (map property_text) c.as_slice-properties.ensures.value in
    fault_out (LinePart c.args.after c.args.turn 0 (map node_text c.args.line.now)) c.args.self.now c.read_node.new.self c.in_err-read_node.field-0.0 c.from_residual.result c.from_residual.ensures.1
    (line_fault c.args.after c.args.turn c.args.line.now c.nodes.at c.index-line-at.result c.args.self.now c.nodes.self c.in_err-read_node.field-0.0 c.nodes-test.true c.nodes.invariant.goes_on
    (ap (λ ps. ends_before c.args.after ps c.nodes.self.played) (sym same) ∙ sym c.if-ends_before.ensures)
    (subst (λ (ps : List PropertyText). NodePart c.args.turn c.nodes.at ps c.nodes.self (Err c.in_err-read_node.field-0.0)) same c.in_err-read_node.ensures.follows))

pub read_node-requires-clause-few : goal.read_node-requires-clause-few
read_node-requires-clause-few c =
    let count : length c.as_slice-properties.result.now ≡ length (get_or c.args.line.now c.nodes.at c.index-line-at.result).properties.items = ap length c.as_slice-properties.ensures.value in
    omega (arith, c.nodes.invariant.played, c.requires.few, count, sum_by_more_le (λ (n : Node). length n.properties.items) c.args.line.now c.nodes.at c.index-line-at.result c.nodes-test.true)

pub nodes-preserved : goal.nodes-preserved
nodes-preserved c =
    let same : map property_text c.as_slice-properties.result.now ≡ node_text (get_or c.args.line.now c.nodes.at c.index-line-at.result) = ap (map property_text) c.as_slice-properties.ensures.value in
    let count : length c.as_slice-properties.result.now ≡ length (get_or c.args.line.now c.nodes.at c.index-line-at.result).properties.items = ap length c.as_slice-properties.ensures.value in
    record {
      goes_on = line_step c.args.after c.args.turn c.args.line.now c.nodes.at c.index-line-at.result c.args.self.now c.nodes.self c.read_node.new.self c.nodes-test.true c.nodes.invariant.goes_on
          (ap (λ ps. ends_before c.args.after ps c.nodes.self.played) (sym same) ∙ sym c.if-ends_before.ensures)
          (subst (λ (ps : List PropertyText). NodePart c.args.turn c.nodes.at ps c.nodes.self (Ok c.read_node.new.self)) same c.in_ok-read_node.ensures.follows);
      counts = c.in_ok-read_node.ensures.counts;
      played = omega (arith, c.nodes.invariant.played, c.in_ok-read_node.ensures.played, count, sum_by_more (λ (n : Node). length n.properties.items) c.args.line.now c.nodes.at c.index-line-at.result c.nodes-test.true);
      last = subst (λ o. IfSome o (λ n. n < length c.args.line.now)) (sym c.in_ok-read_node.ensures.last) c.nodes-test.true;
    }

pub returns-clause-follows : goal.returns-clause-follows
returns-clause-follows c = line_ends c.args.after c.args.turn c.args.line.now c.nodes.at c.args.self.now c.nodes.self c.nodes-test.false c.nodes.invariant.goes_on
