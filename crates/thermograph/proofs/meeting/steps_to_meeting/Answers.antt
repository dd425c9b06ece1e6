use Rattle.std.proofs.Common.{◌+◌, ◌/◌, refl, sym, ◌∙◌, arith}
use Rattle.std.proofs.lemmas.Bool.{false≢true}
use Rattle.thermograph.specs.inner.Scaffolds.{line}
use Rattle.thermograph.proofs.ScaffoldLaws.{both-cross, one-crosses, left-falls_to, right-rises_to}
use Rattle.thermograph.proofs.meeting.steps_to_meeting.Goals as goal

pub returns-then-both_move : goal.returns-then-both_move
returns-then-both_move c =
    let moves = c.both_move.ensures.0 c.if-both_move.true in
    let r = both-cross (line c.args.left.now) (line c.args.right.now) c.args.place c.args.next c.requires.order c.requires.left_straight c.requires.right_straight c.requires.apart c.requires.met
    c.distance-distance.result ((c.distance-distance.result + 1) / 2) (c.args.place + (c.distance-distance.result + 1) / 2) moves.0 moves.1 c.distance-distance.ensures.value refl refl in
    record { within = r.0; crossing = r.1 }

pub returns : goal.returns
returns c =
    let r = one-crosses (line c.args.left.now) (line c.args.right.now) c.args.place c.args.next c.requires.order c.requires.left_straight c.requires.right_straight c.requires.apart c.requires.met
    c.distance-distance.result (c.args.place + c.distance-distance.result)
    (left-falls_to c.args.left.now c.requires.left c.requires.left_side c.args.place c.args.next (omega (arith, c.requires.order)))
    (right-rises_to c.args.right.now c.requires.right c.requires.right_side c.args.place c.args.next (omega (arith, c.requires.order)))
    (λ a b. false≢true (sym c.if-both_move.false ∙ c.both_move.ensures.1 (a, b))) c.distance-distance.ensures.value refl in
    record { within = r.0; crossing = r.1 }
