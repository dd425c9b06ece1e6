use Rattle.std.proofs.Common.{arith, refl, sym, subst}
use Rattle.std.proofs.lemmas.Bool.{both_ways}
use Rattle.go_grid.specs.Marks.{IsMarked}
use Rattle.go_grid.proofs.PointsLemmas.{noted_start, noted_one, noted_skip}
use Rattle.benson_life.proofs.EyeListLemmas.{KeptAt, eye_item, kept_end}
use Rattle.benson_life.proofs.counted_points.eyes_of.Goals as goal
use Rattle.benson_life.proofs.counted_points.eyes_of.Goals.{then-not-contains+then-contains, else-not-contains, else-not-contains-via-then-not-contains+else-contains, else-not-contains-via-else-not-contains}

pub loop-eye-init : goal.loop-eye-init
loop-eye-init c = noted_start _ _ c.new-found.ensures

pub loop-eye-preserved : goal.loop-eye-preserved
loop-eye-preserved c =
    let at = eye_item c.args.eyes.now _ _ c.loop-eye-test.true c.eye-item.is in
    let walled = rw at at c.contains.ensures in
    let Q = KeptAt c.args.eyes.now c.args.breached.now c.args.kept.now in
    elim c.if-not-contains.branch [
      | then-not-contains+then-contains w ↦
          rw w.found-is
          (noted_one Q _ _ _ _ c.loop-eye.invariant
          (refl, λ m. both_ways _ w.if-not-contains.true (walled.1 m), (rw at at w.contains-then-not-contains.ensures).0 w.if-contains.true)
          (λ k h. sym h.0) (rw at at w.insert.ensures.marks))
      | else-not-contains w ↦
          rw w.found-is
          (noted_skip Q _ _ c.loop-eye.invariant (λ k h.
          elim w.else-not-contains.branch [
            | else-not-contains-via-then-not-contains+else-contains w' ↦
                both_ways _ w'.if-contains.false ((rw at at w'.contains-then-not-contains.ensures).1 h.2)
            | else-not-contains-via-else-not-contains w' ↦
                h.1 (subst (IsMarked c.args.breached.now) h.0 (walled.0 w'.if-not-contains.false))
          ]))
    ]

pub returns : goal.returns
returns c = kept_end c.args.eyes.now c.args.breached.now c.args.kept.now c.loop-eye.found _ c.loop-eye.invariant (omega arith) (omega arith)
