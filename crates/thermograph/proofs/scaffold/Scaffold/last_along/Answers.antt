use Rattle.std.proofs.Common.{◌+◌, ◌≤◌, ◌<◌, arith, sym, ◌∙◌}
use Rattle.std.proofs.lemmas.Int.{ints}
use Rattle.std.proofs.lemmas.Bool.{false≢true}
use Rattle.thermograph.specs.inner.Scaffolds.{rise, picked, IsAlong}
use Rattle.thermograph.proofs.ScaffoldLaws.{rises-far, rises-slow, IsHinge, rise-hinge, steep-last, flat-last}
use Rattle.thermograph.proofs.scaffold.Scaffold.last_along.Goals as goal
use Rattle.thermograph.proofs.scaffold.Scaffold.last_along.Goals.{Then-not-is_along, After-place_before}

hinge : (c : Then-not-is_along) → IsHinge (rise c.args.self.now) c.loop-place.place c.next_break-next.result
hinge c = rise-hinge c.args.self.now.side c.loop-place.place c.next_break-next.result c.next_break-next.ensures.after (picked c.args.self.now.walls.now c.args.self.now.ids.now) c.requires.known.steady c.next_break-next.ensures.clear

stops : (c : Then-not-is_along) → IsAlong (rise c.args.self.now) c.args.rising c.args.start c.next_break-next.result → ⊥
stops c a = false≢true (sym c.if-not-is_along.true ∙ c.is_along.ensures.1 (omega (arith, ints, a, c.rise-height.ensures.value, c.rise-from.ensures.value)))

pub returns-then-rising-clause-last : goal.returns-then-rising-clause-last
returns-then-rising-clause-last c = λ l a.
    let w = (goal.at.returns-then-rising-clause-last c).Then-not-is_along in
    steep-last (rise c.args.self.now) c.requires.known.rises c.args.start c.loop-place.place c.next_break-next.result c.loop-place.invariant.0 c.next_break-next.ensures.after (hinge w) c.args.rising c.if-rising.true c.loop-place.invariant.2 (stops w) a

pub place_before-requires-clause-order : goal.place_before-requires-clause-order
place_before-requires-clause-order c = omega (arith, ints, c.rise-height.ensures.value, c.rise-from.ensures.value, c.loop-place.invariant.0, c.next_break-next.ensures.after, rises-far (rise c.args.self.now) c.requires.known.rises c.args.start c.next_break-next.result (omega (arith, c.loop-place.invariant.0, c.next_break-next.ensures.after)))

pub place_before-requires-clause-room : goal.place_before-requires-clause-room
place_before-requires-clause-room c = omega (arith, ints, c.rise-height.ensures.value, c.rise-from.ensures.value, rises-slow (rise c.args.self.now) c.requires.known.rises c.args.start c.next_break-next.result (omega (arith, c.loop-place.invariant.0, c.next_break-next.ensures.after)))

last : (c : After-place_before) → (c.loop-place.place ≤ c.place_before.result) × (c.place_before.result < c.next_break-next.result) × IsAlong (rise c.args.self.now) c.args.rising c.args.start c.place_before.result × (IsAlong (rise c.args.self.now) c.args.rising c.args.start (c.place_before.result + 1) → ⊥)
last c =
    let w = (goal.at.returns-then-not-is_along-clause-along c).Then-not-is_along in
    flat-last (rise c.args.self.now) c.requires.known.rises c.args.start c.loop-place.place c.next_break-next.result c.loop-place.invariant.0 c.next_break-next.ensures.after (hinge w) c.args.rising c.place_before.result c.if-rising.false c.loop-place.invariant.2 (stops w)
    (omega (arith, ints, c.place_before.ensures, c.rise-height.ensures.value, c.rise-from.ensures.value))

pub returns-then-not-is_along-clause-after : goal.returns-then-not-is_along-clause-after
returns-then-not-is_along-clause-after c = omega (arith, (last c).0, c.loop-place.invariant.0)

pub returns-then-not-is_along-clause-within : goal.returns-then-not-is_along-clause-within
returns-then-not-is_along-clause-within c = omega (arith, (last c).1, c.next_break-next.ensures.within)

pub returns-then-not-is_along-clause-along : goal.returns-then-not-is_along-clause-along
returns-then-not-is_along-clause-along c = (last c).2

pub returns-then-not-is_along-clause-last : goal.returns-then-not-is_along-clause-last
returns-then-not-is_along-clause-last c = λ _. (last c).3
