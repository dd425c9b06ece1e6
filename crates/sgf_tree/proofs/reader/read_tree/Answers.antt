use Rattle.std.proofs.Common.{◌+◌, get_or, refl, sym, ◌∙◌}
use Rattle.sgf_tree.specs.inner.Machine.{state_of}
use Rattle.sgf_tree.proofs.VerdictLemmas.{verdict_bad, verdict_deep, verdict_done, verdict_more, verdict_end, depth_more}
use Rattle.sgf_tree.proofs.reader.read_tree.Goals as goal

pub returns-in_default : goal.returns-in_default
returns-in_default c = (c.loop-n.n, refl, c.loop-n.invariant.same ∙ verdict_bad c.args.bytes.now (state_of c.loop-n.reader) c.loop-n.n c.loop-n-test.true (sym c.in_default.ensures))

pub returns-then-is_too_deep : goal.returns-then-is_too_deep
returns-then-is_too_deep c = (c.loop-n.n, c.loop-n.invariant.same ∙ verdict_deep c.args.bytes.now (state_of c.loop-n.reader) c.loop-n.n c.in-Some.token c.loop-n-test.true (sym c.in-Some.ensures) (sym c.if-is_too_deep.ensures))

pub returns-then-ends_tree : goal.returns-then-ends_tree
returns-then-ends_tree c = (
  c.loop-n.n + 1,
  c.loop-n.invariant.same ∙ verdict_done c.args.bytes.now (state_of c.loop-n.reader) (state_of c.take.new.self) c.loop-n.n c.in-Some.token
      c.loop-n-test.true (sym c.in-Some.ensures) (sym c.if-is_too_deep.ensures) c.in_ok-take.ensures (sym c.if-ends_tree.ensures),
)

pub loop-n-preserved : goal.loop-n-preserved
loop-n-preserved c = record {
  same = c.loop-n.invariant.same ∙ verdict_more c.args.bytes.now (state_of c.loop-n.reader) (state_of c.take.new.self) c.loop-n.n c.in-Some.token
      c.loop-n-test.true (sym c.in-Some.ensures) (sym c.if-is_too_deep.ensures) c.in_ok-take.ensures (sym c.if-ends_tree.ensures);
  small = depth_more (state_of c.loop-n.reader) (state_of c.take.new.self) c.in-Some.token (get_or c.args.bytes.now c.loop-n.n 0) c.loop-n.invariant.small (sym c.if-is_too_deep.ensures) c.in_ok-take.ensures;
}

pub returns : goal.returns
returns c = c.loop-n.invariant.same ∙ verdict_end c.args.bytes.now (state_of c.loop-n.reader) c.loop-n.n c.loop-n-test.false
