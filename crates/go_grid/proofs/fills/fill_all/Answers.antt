use Rattle.std.proofs.Common.{arith}
use Rattle.std.proofs.lemmas.Bool.{both_ways}
use Rattle.go_grid.proofs.FillLemmas.{all_start, all_skip, all_one, all_end}
use Rattle.go_grid.proofs.fills.fill_all.Goals as goal
use Rattle.go_grid.proofs.fills.fill_all.Goals.{then-contains+then-not-contains, else-contains, else-contains-via-then-contains+else-not-contains, else-contains-via-else-contains}

pub loop-number-init : goal.loop-number-init
loop-number-init c = all_start _ _ _ _ c.idle-work.ensures.empty (c.idle-work.ensures.filled _ _)

pub returns : goal.returns
returns c =
    all_end c.args.size.columns c.args.within.now c.args.starts.now c.loop-number.work c.loop-number.number c.loop-number.invariant
    (λ p m. let h = c.requires.starts p m in let lt = c.requires.within p h in (omega arith, h))

pub loop-number-preserved : goal.loop-number-preserved
loop-number-preserved c =
    let s = c.loop-number.invariant in
    elim c.if-contains.branch [
      | then-contains+then-not-contains w ↦
          let on = c.contains.ensures.0 w.if-contains.true in
          rw w.work-is (all_one _ _ _ _ _ _ s on (c.requires.starts _ on) w.spread.ensures.filled w.spread.ensures.met)
      | else-contains w ↦
          rw w.work-is
          (all_skip _ _ _ _ _ s (λ on.
          elim w.else-contains.branch [
            | else-contains-via-then-contains+else-not-contains w' ↦ w'.contains-then-contains.ensures.0 w'.if-not-contains.false
            | else-contains-via-else-contains w' ↦ absurd (both_ways _ w'.if-contains.false (c.contains.ensures.1 on))
          ]))
    ]
