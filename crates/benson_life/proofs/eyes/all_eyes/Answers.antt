use Rattle.std.proofs.Common.{arith}
use Rattle.std.proofs.lemmas.Bool.{both_ways}
use Rattle.benson_life.proofs.EyesLemmas.{gather_start, gather_skip, gather_more, gather_end}
use Rattle.benson_life.proofs.SurveyLemmas.{empty_lacks}
use Rattle.benson_life.proofs.eyes.all_eyes.Goals as goal
use Rattle.benson_life.proofs.eyes.all_eyes.Goals.{then-contains+then-not-contains+in_ok-add_eyes, else-contains, else-contains-via-then-contains+else-not-contains, else-contains-via-else-contains}

pub loop-number-init : goal.loop-number-init
loop-number-init c = rw c.new-eyes.ensures.items (gather_start _ _ _ _ c.new-seen.ensures)

pub insert-requires : goal.insert-requires
insert-requires c =
    let is = c.requires.survey in
    let empty = (is.empties _).0 (c.contains.ensures.0 c.if-contains.true) in
    let low = is.regions.lowest _ (empty_lacks c.args.board.now c.args.colour _ empty) in
    omega (arith, low, empty.0, c.label_of-region.ensures, c.size.ensures.most)

pub loop-number-preserved : goal.loop-number-preserved
loop-number-preserved c =
    let g = c.args.board.now in
    let s = c.args.survey.now in
    let is = c.requires.survey in
    elim c.if-contains.branch [
      | then-contains+then-not-contains+in_ok-add_eyes w ↦
          rw (w.eyes-is, w.seen-is)
          (gather_more g c.args.colour s _ _ _ _ _ c.loop-number.invariant (rw c.label_of-region.ensures at w.insert.ensures.marks)
          w.in_ok-add_eyes.ensures)
      | else-contains w ↦
          rw (w.eyes-is, w.seen-is)
          (gather_skip g c.args.colour s _ _ _ c.loop-number.invariant (λ empty.
          elim w.else-contains.branch [
            | else-contains-via-then-contains+else-not-contains w' ↦
                rw c.label_of-region.ensures at (w'.contains-then-contains.ensures.0 w'.if-not-contains.false)
            | else-contains-via-else-contains w' ↦ absurd (both_ways _ w'.if-contains.false (c.contains.ensures.1 ((is.empties _).1 empty)))
          ]))
    ]

pub returns : goal.returns
returns c =
    gather_end c.args.board.now c.args.colour c.args.survey.now c.loop-number.eyes.items c.loop-number.seen c.loop-number.number
    c.requires.survey c.requires.settled c.loop-number.invariant (omega (arith, c.size.ensures.area))
