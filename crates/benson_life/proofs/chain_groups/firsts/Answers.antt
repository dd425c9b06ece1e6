use Rattle.std.proofs.lemmas.Bool.{both_ways}
use Rattle.benson_life.proofs.FirstLemmas.{firsts_one, firsts_skip}
use Rattle.benson_life.proofs.chain_groups.firsts.Goals as goal
use Rattle.benson_life.proofs.chain_groups.firsts.Goals.{then-contains+then-not-contains, else-contains, else-contains-via-then-contains+else-not-contains, else-contains-via-else-contains}

pub loop-number-preserved : goal.loop-number-preserved
loop-number-preserved c =
    elim c.if-contains.branch [
      | then-contains+then-not-contains w ↦
          rw (w.seen-is, w.found-is)
          (firsts_one _ _ _ _ _ _ _ c.loop-number.invariant (c.contains.ensures.0 w.if-contains.true)
          (λ m. both_ways _ w.if-not-contains.true (w.contains-then-contains.ensures.1 (rw c.label_of-part.ensures m)))
          (rw c.label_of-part.ensures at w.insert.ensures.marks) w.insert-then-not-contains.ensures.marks)
      | else-contains w ↦
          rw (w.seen-is, w.found-is)
          (firsts_skip _ _ _ _ _ c.loop-number.invariant (λ m.
          elim w.else-contains.branch [
            | else-contains-via-then-contains+else-not-contains w' ↦
                rw c.label_of-part.ensures at (w'.contains-then-contains.ensures.0 w'.if-not-contains.false)
            | else-contains-via-else-contains w' ↦ absurd (both_ways _ w'.if-contains.false (c.contains.ensures.1 m))
          ]))
    ]
