use Rattle.std.proofs.Common.{ℕ, false, get_or, inl, inr}
use Rattle.std.proofs.lemmas.Bool.{OnTrue_from, OnTrue_at, OnFalse_from, OnFalse_at, both_ways, cases_Bool, not-true, not-false}
use Rattle.go_grid.specs.Marks.{IsMarked}
use Rattle.benson_life.proofs.CountLemmas.{fewer}
use Rattle.benson_life.proofs.living_chains.lost_some.Goals as goal

pub returns-clause-fewer : goal.returns-clause-fewer
returns-clause-fewer c =
    OnTrue_from _ _ (λ t.
    let (p, m) = OnFalse_at {P = (p : ℕ) × IsMarked c.difference.result p} (not-true _ t) c.is_empty.ensures.some in
    let lost = (c.difference.ensures p).0 m in
    fewer c.args.left.now c.args.«of».now p c.requires lost.0 lost.1)

pub returns-clause-all : goal.returns-clause-all
returns-clause-all c =
    OnFalse_from _ ((p : ℕ) → IsMarked c.args.«of».now p → IsMarked c.args.left.now p) (λ f p m.
    elim (cases_Bool (get_or c.args.left.now p false)) as (λ _. IsMarked c.args.left.now p) [
      | inl on ↦ on
      | inr off ↦ absurd (OnTrue_at {P = (p : ℕ) → ¬ IsMarked c.difference.result p} (not-false _ f) c.is_empty.ensures.none p ((c.difference.ensures p).1 (m, both_ways _ off)))
    ])
