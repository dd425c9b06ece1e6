use Rattle.std.proofs.Common.{rules, arith, sym, ◌∙◌, subst, ◌≡◌, ◌+◌, ◌-◌, length, to_z, of_z, get_or}
use Rattle.std.specs.Int.{w128}
use Rattle.std.proofs.lemmas.Int.{ints}
use Rattle.thermograph.specs.Breaks.{wall_at, toward}
use Rattle.thermograph.specs.inner.Breaks.{IsInRange}
use Rattle.thermograph.proofs.WallLaws.{wall-none, wall-go_on, wall-last, wall-toward, no_break}
use Rattle.thermograph.proofs.breaks.value.Goals as goal
use Rattle.thermograph.proofs.breaks.value.Goals.{then-loop-i-test+else-breaks-i, else-loop-i-test, Else-i-breaks}

pub returns-then-is_empty : goal.returns-then-is_empty
returns-then-is_empty c = let none : length c.args.breaks.now ≡ 0 = search rules in wall-none c.args.breaks.now c.args.t none

pub loop-i-preserved : goal.loop-i-preserved
loop-i-preserved c = wall-go_on c.args.breaks.now c.loop-i.i c.args.t no_break _ c.loop-i-test.true (omega arith) c.loop-i.invariant.1

pub returns-then-i-breaks : goal.returns-then-i-breaks
returns-then-i-breaks c = let kept : to_z w128 (of_z w128 c.height.result) ≡ c.height.result = omega (arith, ints) in
    kept ∙ c.height.ensures ∙ sym (wall-last c.args.breaks.now c.loop-i.i c.args.t no_break (omega arith)) ∙ sym c.loop-i.invariant.1

towards : (c : Else-i-breaks) → toward (get_or c.args.breaks.now c.loop-i.i no_break).value (get_or c.args.breaks.now (c.loop-i.i + 1) no_break).value (c.args.t - (get_or c.args.breaks.now c.loop-i.i no_break).at) ≡ wall_at c.args.breaks.now c.args.t
towards c = elim c.loop-i-test.branch [
  | then-loop-i-test+else-breaks-i w ↦ wall-toward c.args.breaks.now c.loop-i.i c.args.t no_break _ (omega (arith, w.loop-i-test)) (omega (arith, w.if-breaks-i)) c.loop-i.invariant.1
  | else-loop-i-test w ↦ absurd (omega (arith, w.loop-i-test))
]

pub height_toward-requires-clause-level :
    goal.height_toward-requires-clause-level
height_toward-requires-clause-level c = subst IsInRange (sym (towards (goal.at.height_toward-requires-clause-level c).Else-i-breaks)) (c.requires.level c.args.t)

pub returns : goal.returns
returns c = let kept : to_z w128 (of_z w128 c.height_toward.result) ≡ c.height_toward.result = omega (arith, ints) in kept ∙ c.height_toward.ensures ∙ towards (goal.at.returns c).Else-i-breaks
