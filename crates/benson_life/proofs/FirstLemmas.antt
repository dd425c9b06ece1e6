-- The lowest points with each label.
use Rattle.std.proofs.Common.{◌≡◌, ℕ, ◌+◌, ◌<◌, ◌⊎◌, inl, inr, List, Bool, refl, sym, subst}
use Rattle.go_grid.specs.Marks.{IsMarked, Marks}
use Rattle.go_grid.specs.Parts.{label}
use Rattle.go_grid.proofs.PointsLemmas.{Noted, noted_next, noted_one, noted_skip}

module _ (of' : List Bool) (labels : List ℕ) where
  abbrev HasLabel : ℕ → ℕ → Type 0
  HasLabel p r = IsMarked of' p × (label labels p ≡ r)

  -- no lower point of the set has its label
  abbrev IsFirst : ℕ → ℕ → Type 0
  IsFirst p k = (k ≡ p) × IsMarked of' p × ((q : ℕ) → q < p → IsMarked of' q → label labels q ≡ label labels p → ⊥)

  -- the labels of the points below `n`, and the first points among these
  pub record AreFirsts (n : ℕ) (labelled lowest : List Bool) : Type 0 where
    pub seen : Marks labelled (Noted HasLabel n)
    pub found : Marks lowest (Noted IsFirst n)

  pub firsts_skip : (n : ℕ) (seen found : List Bool) → AreFirsts n seen found
      → (IsMarked of' n → IsMarked seen (label labels n)) → AreFirsts (n + 1) seen found
  firsts_skip n seen found w known = record {
    seen = noted_next HasLabel n seen seen w.seen (λ k. (
      inl,
      λ h. elim h as (λ _. IsMarked seen k) [ inl m ↦ m | inr q ↦ subst (IsMarked seen) q.1 (known q.0) ],
    ));
    found = noted_skip IsFirst n found w.found (λ k r.
        let (j, lt, (m, e)) = (w.seen (label labels n)).0 (known r.1) in r.2 j lt m e);
  }

  pub firsts_one : (n : ℕ) (seen found seen' found' : List Bool) → AreFirsts n seen found
      → IsMarked of' n → ¬ IsMarked seen (label labels n) → Marks seen' (λ k. IsMarked seen k ⊎ (k ≡ label labels n))
      → Marks found' (λ k. IsMarked found k ⊎ (k ≡ n)) → AreFirsts (n + 1) seen' found'
  firsts_one n seen found seen' found' w m none more more' = record {
    seen = noted_one HasLabel n (label labels n) seen seen' w.seen (m, refl) (λ k q. sym q.1) more;
    found = noted_one IsFirst n n found found' w.found
        (refl, m, λ q lt h e. none ((w.seen (label labels n)).1 (q, lt, (h, e)))) (λ k r. r.0) more';
  }
