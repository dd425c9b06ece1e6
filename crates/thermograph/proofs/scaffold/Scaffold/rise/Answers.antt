use Rattle.std.proofs.Common.{arith, sym, ◌∙◌, ap, ◌≡◌, ◌+◌, [], get_or, to_z, of_z, refl, subst}
use Rattle.std.specs.Int.{w128}
use Rattle.std.proofs.lemmas.Int.{ints}
use Rattle.std.proofs.lemmas.List.{length-map}
use Rattle.thermograph.specs.Breaks.{wall_at}
use Rattle.thermograph.specs.inner.Breaks.{IsLevel, IsInRange}
use Rattle.thermograph.specs.inner.Scaffolds.{wall_of, picked, turned, turned_wall}
use Rattle.thermograph.proofs.ScaffoldLaws.{wall-read, pick-read, each-read, turned-range, run-start, run-step}
use Rattle.thermograph.proofs.scaffold.Scaffold.rise.Goals as goal
use Rattle.thermograph.proofs.scaffold.Scaffold.rise.Goals.{After-deref}

pub loop-i-init : goal.loop-i-init
loop-i-init c = run-start (turned_wall c.args.self.now.side c.args.t) (picked c.args.self.now.walls.now c.args.self.now.ids.now)

wall : (c : After-deref) → c.deref.result.now ≡ wall_of c.args.self.now.walls.now (get_or c.args.self.now.ids.now c.loop-i.i 0)
wall c = wall-read c.args.self.now.walls.now (get_or c.args.self.now.ids.now c.loop-i.i 0) c.index-self-id.result c.deref.result.now (c.requires.known.ids c.loop-i.i c.loop-i-test.true) c.deref.ensures.value

level : (c : After-deref) → IsLevel c.deref.result.now
level c = subst IsLevel (sym (wall c)) (each-read IsLevel c.args.self.now.walls.now c.args.self.now.ids.now c.loop-i.i c.loop-i-test.true c.requires.known.level)

pub value-requires-clause-level : goal.value-requires-clause-level
value-requires-clause-level c = level c

pub turn-height-requires : goal.turn-height-requires
turn-height-requires c = let r = level (goal.at.turn-height-requires c).After-deref c.args.t in omega (arith, ints, r.0, r.1, c.value.ensures)

pub loop-i-preserved : goal.loop-i-preserved
loop-i-preserved c =
    let seen : to_z w128 (of_z w128 c.value.result) ≡ c.value.result = omega (arith, ints) in
    let turned_is : to_z w128 (of_z w128 c.turn-height.result) ≡ c.turn-height.result = omega (arith, ints) in
    let kept : to_z w128 (of_z w128 c.higher-greatest.result) ≡ c.higher-greatest.result = omega (arith, ints) in
    let is : to_z w128 (of_z w128 c.turn-height.result) ≡ turned c.args.self.now.side (wall_at c.deref.result.now c.args.t) = turned_is ∙ c.turn-height.ensures ∙ ap (turned c.args.self.now.side) (seen ∙ c.value.ensures) in
    let w = wall (goal.at.loop-i-preserved c).After-deref in
    run-step (turned_wall c.args.self.now.side c.args.t) (picked c.args.self.now.walls.now c.args.self.now.ids.now) c.loop-i.i (c.loop-i.i + 1) [] _ _ _ _ (omega arith) (omega (arith, c.loop-i-test.true, length-map c.args.self.now.ids.now (wall_of c.args.self.now.walls.now))) c.loop-i.invariant
    (is ∙ ap (λ bs. turned c.args.self.now.side (wall_at bs c.args.t)) (w ∙ sym (pick-read c.args.self.now.walls.now c.args.self.now.ids.now c.loop-i.i c.loop-i-test.true)))
    (subst IsInRange (sym is) (turned-range c.args.self.now.side _ (level (goal.at.loop-i-preserved c).After-deref c.args.t))) refl (kept ∙ c.higher-greatest.ensures)
