use Rattle.std.proofs.Common.{arith}
use Rattle.std.proofs.lemmas.Bool.{both_ways}
use Rattle.go_grid.proofs.PartsLemmas.{parts_start, parts_skip, parts_one, parts_end}
use Rattle.go_grid.proofs.parts.components.Goals as goal
use Rattle.go_grid.proofs.parts.components.Goals.{then-contains+then-not-contains, else-contains, else-contains-via-then-contains+else-not-contains, else-contains-via-else-contains}

pub loop-number-init : goal.loop-number-init
loop-number-init c = parts_start _ _ _ _ c.idle-work.ensures.empty c.idle-work.ensures.none (c.idle-work.ensures.filled _ _)

pub loop-number-preserved : goal.loop-number-preserved
loop-number-preserved c =
    let s = c.loop-number.invariant in
    elim c.if-contains.branch [
      | then-contains+then-not-contains w ↦
          rw (w.labels-is, w.work-is)
          (parts_one _ _ c.loop-number.labels _ c.loop-number.work _ _ s (c.contains.ensures.0 w.if-contains.true)
          (λ m. both_ways _ w.if-not-contains.true (w.contains-then-contains.ensures.1 m)) w.spread.ensures.filled w.spread.ensures.met w.spread.ensures.listed w.put_label.ensures.put
          w.put_label.ensures.other)
      | else-contains w ↦
          rw (w.labels-is, w.work-is)
          (parts_skip _ _ _ _ _ s (λ on.
          elim w.else-contains.branch [
            | else-contains-via-then-contains+else-not-contains w' ↦ w'.contains-then-contains.ensures.0 w'.if-not-contains.false
            | else-contains-via-else-contains w' ↦ absurd (both_ways _ w'.if-contains.false (c.contains.ensures.1 on))
          ]))
    ]

pub returns : goal.returns
returns c =
    parts_end _ _ _ c.loop-number.work c.loop-number.number c.loop-number.invariant
    (λ p m. let lt = c.requires p m in omega arith)
