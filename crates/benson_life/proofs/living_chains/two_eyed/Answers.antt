use Rattle.std.proofs.Common.{◌≡◌, ◌∙◌, arith, refl, subst, sym}
use Rattle.std.proofs.lemmas.Bool.{both_ways}
use Rattle.go_grid.specs.Parts.{label}
use Rattle.go_grid.proofs.PointsLemmas.{noted_start, noted_one, noted_skip}
use Rattle.benson_life.proofs.EyeListLemmas.{SecondAt, eye_at, eye_item, two_end}
use Rattle.benson_life.proofs.living_chains.two_eyed.Goals as goal
use Rattle.benson_life.proofs.living_chains.two_eyed.Goals.{then-not-contains+then-not-is, else-not-contains, else-not-contains-via-then-not-contains+else-not-is, else-not-contains-via-else-not-contains}

pub loop-eye-init : goal.loop-eye-init
loop-eye-init c = noted_start _ _ c.new-found.ensures

pub loop-eye-preserved : goal.loop-eye-preserved
loop-eye-preserved c =
    let at = eye_item c.args.eyes.now _ _ c.loop-eye-test.true c.eye-item.is in
    let walled = rw at at c.contains.ensures in
    let Q = SecondAt c.args.eyes.now c.args.breached.now c.some_eyes-one.result in
    elim c.if-not-contains.branch [
      | then-not-contains+then-not-is w ↦
          rw w.found-is
          (noted_one Q _ _ _ _ c.loop-eye.invariant (
            refl,
            λ m. both_ways _ w.if-not-contains.true (walled.1 m),
            λ e. both_ways _ w.if-not-is.true ((rw at at w.is.ensures).1 (rw at at w.label_of.ensures ∙ e)),
          ) (λ k h. sym h.0)
          (rw at at w.insert.ensures.marks))
      | else-not-contains w ↦
          rw w.found-is
          (noted_skip Q _ _ c.loop-eye.invariant (λ k h.
          elim w.else-not-contains.branch [
            | else-not-contains-via-then-not-contains+else-not-is w' ↦
                h.2 (subst (λ x. label c.some_eyes-one.result x ≡ (eye_at c.args.eyes.now c.loop-eye.eye-index).region) h.0
                (sym (rw at at w'.label_of.ensures) ∙ (rw at at w'.is.ensures).0 w'.if-not-is.false))
            | else-not-contains-via-else-not-contains w' ↦ h.1 (walled.0 w'.if-not-contains.false)
          ]))
    ]

pub returns : goal.returns
returns c =
    two_end c.args.eyes.now c.args.breached.now c.loop-eye.found c.some_eyes-one.result _ c.some_eyes-one.ensures c.loop-eye.invariant
    (omega arith) (omega arith)
