use Rattle.std.proofs.Common.{arith, refl, ◌<◌, ◌+◌}
use Rattle.std.proofs.lemmas.Bool.{both_ways}
use Rattle.whole_rules.specs.declared.states.Move.TheVariants.{Stone}
use Rattle.whole_rules.proofs.MoveLaws.{moves_skip, moves_push, no_stone, no_more_stones, stone_only, same_length}
use Rattle.whole_rules.proofs.states.Whole.placings.Goals as goal
use Rattle.whole_rules.proofs.states.Whole.placings.Goals.{then-may_place+in_ok-push, else-may_place}

pub loop-number-preserved : goal.loop-number-preserved
loop-number-preserved c =
    let s = c.args.self.now in
    let n = c.loop-number.number in
    let lt = below in
    elim c.if-may_place.branch [
      | then-may_place+in_ok-push w ↦
          rw (w.moves-is, w.in_ok-push.ensures.items)
          (moves_push s n c.loop-number.moves.items (Stone n) c.loop-number.invariant refl (c.may_place.ensures.0 w.if-may_place.true) (λ k e _. stone_only n k lt e))
      | else-may_place w ↦
          rw w.moves-is
          (moves_skip s n (n + 1) c.loop-number.moves.items (omega arith) c.loop-number.invariant (no_stone s n lt (λ h. both_ways _ w.if-may_place.false (c.may_place.ensures.1 h))))
    ]
  where
    below : c.loop-number.number < 625
    below = omega (arith, c.size.ensures.most, c.size.ensures.area, c.area-number-end.ensures.value, c.loop-number-test.true)

pub returns : goal.returns
returns c =
    let s = c.args.self.now in
    let e = same_length _ s c.self.view_is in
    moves_skip s c.loop-number.number 625 c.loop-number.moves.items (omega (arith, c.size.ensures.most, c.size.ensures.area, c.area-number-end.ensures.value, c.loop-number.auto.number-end)) c.loop-number.invariant
    (no_more_stones s c.loop-number.number
    (omega (arith, e, c.size.ensures.area, c.area-number-end.ensures.value, c.loop-number-test.false)) (omega (arith, e, c.size.ensures.most)))
