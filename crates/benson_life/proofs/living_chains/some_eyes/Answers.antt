use Rattle.std.proofs.Common.{◌≡◌, ◌∙◌, arith, refl}
use Rattle.std.proofs.lemmas.Bool.{both_ways}
use Rattle.benson_life.proofs.EyeListLemmas.{eye_item, some_set, some_skip, some_end}
use Rattle.benson_life.proofs.living_chains.some_eyes.Goals as goal
use Rattle.benson_life.proofs.living_chains.some_eyes.Goals.{then-not-contains, else-not-contains}

pub loop-eye-preserved : goal.loop-eye-preserved
loop-eye-preserved c =
    let at = eye_item c.args.eyes.now _ _ c.loop-eye-test.true c.eye-item.is in
    let walled = rw at at c.contains.ensures in
    elim c.if-not-contains.branch [
      | then-not-contains w ↦
          let key : w.from.result ≡ c.eye-item.result.chain = w.from.ensures ∙ w.chain.view_is in
          rw (w.regions-is, key, at)
          (some_set c.args.eyes.now c.args.breached.now _ _ _ _ c.loop-eye.invariant c.loop-eye-test.true refl refl
          (c.requires c.loop-eye.eye-index _ c.loop-eye-test.true).1 (λ m. both_ways _ w.if-not-contains.true (walled.1 m)))
      | else-not-contains w ↦
          rw w.regions-is (some_skip c.args.eyes.now c.args.breached.now _ _ c.loop-eye.invariant (walled.0 w.if-not-contains.false))
    ]

pub returns : goal.returns
returns c = some_end c.args.eyes.now c.args.breached.now c.loop-eye.regions _ c.loop-eye.invariant (omega arith)
