use Rattle.std.proofs.Common.{arith, refl, ◌∙◌, ap, ◌≡◌, ◌∷◌, [], ◌++◌, to_z, of_z}
use Rattle.std.specs.Int.{w128}
use Rattle.std.proofs.lemmas.Int.{ints}
use Rattle.thermograph.specs.inner.Scaffolds.{line}
use Rattle.thermograph.proofs.WallLaws.{tracing-start, tracing-push, tracing-end}
use Rattle.thermograph.proofs.scaffold.Scaffold.trace.Goals as goal

pub loop-at-init : goal.loop-at-init
loop-at-init c =
    let value : to_z w128 (of_z w128 c.at.result) ≡ line c.args.self.now 0 = omega (arith, ints, c.at.ensures.value) in
    (omega arith, tracing-start (line c.args.self.now) c.args.end c.push.new.self.items (record { at = 0; value = to_z w128 (of_z w128 c.at.result) }) (c.in_ok-push.ensures.items ∙ ap (λ xs. xs ++ (record { at = 0; value = to_z w128 (of_z w128 c.at.result) }) ∷ []) c.new-breaks.ensures.items) refl value)

pub loop-at-preserved : goal.loop-at-preserved
loop-at-preserved c = (
  c.next_bend-at.ensures.within,
  tracing-push (line c.args.self.now) c.args.end c.loop-at.at c.next_bend-at.result c.loop-at.breaks.items c.push-in-loop-at.new.self.items _ c.loop-at.invariant.1 c.in_ok-push-2.ensures.items refl c.next_bend-at.ensures.after c.next_bend-at.ensures.within (omega (arith, ints, c.at-value.ensures.value)) c.next_bend-at.ensures.straight c.next_bend-at.ensures.bends c.next_bend-at.ensures.even,
)

pub returns : goal.returns
returns c = tracing-end (line c.args.self.now) c.loop-at.at c.args.end c.loop-at.breaks.items (omega (arith, c.loop-at.invariant.0)) c.loop-at.invariant.1
