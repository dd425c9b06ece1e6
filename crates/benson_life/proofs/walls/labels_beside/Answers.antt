use Rattle.std.proofs.Common.{◌≡◌, ℕ, refl, sym}
use Rattle.std.proofs.lemmas.Bool.{both_ways}
use Rattle.go_grid.specs.Marks.{IsMarked, Touches}
use Rattle.go_grid.specs.Parts.{label}
use Rattle.go_grid.proofs.PointsLemmas.{noted_start, noted_one, noted_skip}
use Rattle.benson_life.proofs.walls.labels_beside.Goals as goal
use Rattle.benson_life.proofs.walls.labels_beside.Goals.{then-contains+then-touches, else-contains, else-contains-via-then-contains+else-touches, else-contains-via-else-contains}

pub loop-number-init : goal.loop-number-init
loop-number-init c = noted_start _ _ c.new-found.ensures

pub loop-number-preserved : goal.loop-number-preserved
loop-number-preserved c =
    let Q = λ (p r : ℕ). IsMarked c.args.within.now p × (label c.args.labels.now p ≡ r) × Touches c.args.size.columns c.args.points.now p in
    elim c.if-contains.branch [
      | then-contains+then-touches w ↦
          rw w.found-is
          (noted_one Q _ _ _ _ c.loop-number.invariant (c.contains.ensures.0 w.if-contains.true, refl, w.touches.ensures.0 w.if-touches.true)
          (λ k h. sym h.1) (rw w.label_of.ensures at w.insert.ensures.marks))
      | else-contains w ↦
          rw w.found-is
          (noted_skip Q _ _ c.loop-number.invariant (λ k h.
          elim w.else-contains.branch [
            | else-contains-via-then-contains+else-touches w' ↦ both_ways _ w'.if-touches.false (w'.touches.ensures.1 h.2)
            | else-contains-via-else-contains w' ↦ both_ways _ w'.if-contains.false (c.contains.ensures.1 h.0)
          ]))
    ]
