-- Labels of parts, part by part.
use Rattle.std.proofs.Common.{◌≡◌, ℕ, ◌+◌, ◌<◌, ◌≤◌, ◌⊎◌, inl, inr, arith, List, Bool, sym, ◌∙◌, below_more}
use Rattle.std.proofs.lemmas.Bool.{cases_lt}
use Rattle.go_grid.specs.declared.fills.Work.{Work}
use Rattle.go_grid.specs.Walk.{Joined}
use Rattle.go_grid.specs.Marks.{IsMarked, Marks}
use Rattle.go_grid.specs.inner.Work.{IsListed, IsFilled}
use Rattle.go_grid.specs.Parts.{ArePartLabels, label}
use Rattle.go_grid.proofs.FillLemmas.{closed_all}
use Rattle.go_grid.proofs.WalkLemmas.{joined_here, joined_back, joined_join, joined_start, joined_end}

-- the parts of the points below `number` are labelled
pub record PartsBelow (c : ℕ) (within : List Bool) (labels : List ℕ) (w : Work) (number : ℕ) : Type 0 where
  pub filled : IsFilled c within w
  pub all : (p : ℕ) → p < number → IsMarked within p → IsMarked w.marks p
  pub joined : (p : ℕ) → IsMarked w.marks p → Joined c (IsMarked within) p (label labels p)
  pub same : (p q : ℕ) → IsMarked w.marks p → Joined c (IsMarked within) p q → label labels p ≡ label labels q
  pub lowest : (p : ℕ) → IsMarked w.marks p → label labels p ≤ p

pub parts_start : (c : ℕ) (within : List Bool) (labels : List ℕ) (w : Work) → Marks w.marks (λ _. ⊥) → w.count ≡ 0
    → IsFilled c within w → PartsBelow c within labels w 0
parts_start c within labels w e z f = record {
  filled = f;
  all = λ p lt _. absurd (omega arith);
  joined = λ p m. absurd ((e p).0 m);
  same = λ p q m _. absurd ((e p).0 m);
  lowest = λ p m. absurd ((e p).0 m);
}

pub parts_skip : (c : ℕ) (within : List Bool) (labels : List ℕ) (w : Work) (n : ℕ) → PartsBelow c within labels w n
    → (IsMarked within n → IsMarked w.marks n) → PartsBelow c within labels w (n + 1)
parts_skip c within labels w n s here = record {
  filled = s.filled;
  all = below_more (λ p. IsMarked within p → IsMarked w.marks p) n s.all here;
  joined = s.joined;
  same = s.same;
  lowest = s.lowest;
}

pub parts_one : (c : ℕ) (within : List Bool) (labels more : List ℕ) (w v : Work) (n : ℕ) → PartsBelow c within labels w n
    → IsMarked within n → ¬ IsMarked w.marks n → IsFilled c within v
    → Marks v.marks (λ p. IsMarked w.marks p ⊎ Joined c (IsMarked within) n p)
    → ((p : ℕ) → (Joined c (IsMarked within) n p → IsListed w.count v p) × (IsListed w.count v p → Joined c (IsMarked within) n p))
    → ((p : ℕ) → IsListed w.count v p → label more p ≡ n) → ((p : ℕ) → ¬ IsListed w.count v p → label more p ≡ label labels p)
    → PartsBelow c within more v (n + 1)
parts_one c within labels more w v n s on fresh f is listed new old = record {
  filled = f;
  all = below_more (λ p. IsMarked within p → IsMarked v.marks p) n (λ p lt h. (is p).1 (inl (s.all p lt h)))
      (λ h. (is n).1 (inr (joined_here c (IsMarked within) n on)));
  joined = λ p m. elim ((is p).0 m) as (λ _. Joined c (IsMarked within) p (label more p)) [
    | inl b ↦ rw (kept p b) (s.joined p b)
    | inr j ↦ rw (named p j) (joined_back c (IsMarked within) n p j)
  ];
  same = λ p q m j. elim ((is p).0 m) as (λ _. label more p ≡ label more q) [
    | inl b ↦ kept p b ∙ s.same p q b j ∙ sym (kept q (closed_all c within w.marks s.filled.closed p q b j))
    | inr k ↦ named p k ∙ sym (named q (joined_join c (IsMarked within) n p q k j))
  ];
  lowest = λ p m. elim ((is p).0 m) as (λ _. label more p ≤ p) [
    | inl b ↦ rw (kept p b) (s.lowest p b)
    | inr j ↦ rw (named p j) (elim (cases_lt p n) as (λ _. n ≤ p) [
      | inl lt ↦ absurd (apart p j (s.all p lt (joined_end c (IsMarked within) n p j)))
      | inr le ↦ le
    ])
  ];
}
  where
    -- no point of the new part was met before
    apart : (p : ℕ) → Joined c (IsMarked within) n p → ¬ IsMarked w.marks p
    apart p j b = fresh (closed_all c within w.marks s.filled.closed p n b (joined_back c (IsMarked within) n p j))

    named : (p : ℕ) → Joined c (IsMarked within) n p → label more p ≡ n
    named p j = new p ((listed p).0 j)

    kept : (p : ℕ) → IsMarked w.marks p → label more p ≡ label labels p
    kept p b = old p (λ l. apart p ((listed p).1 l) b)

pub parts_end : (c : ℕ) (within : List Bool) (labels : List ℕ) (w : Work) (n : ℕ) → PartsBelow c within labels w n
    → ((p : ℕ) → IsMarked within p → p < n) → ArePartLabels c (IsMarked within) labels
parts_end c within labels w n s inside = record {
  joined = λ p h. s.joined p (s.all p (inside p h) h);
  same = λ p q j. let h = joined_start c (IsMarked within) p q j in s.same p q (s.all p (inside p h) h) j;
  lowest = λ p h. s.lowest p (s.all p (inside p h) h);
}

-- points of the set have the same label exactly where a walk over it joins them
pub same_part : (c : ℕ) (In : ℕ → Type 0) (labels : List ℕ) → ArePartLabels c In labels → (p q : ℕ) → In p → In q
    → (label labels p ≡ label labels q → Joined c In p q) × (Joined c In p q → label labels p ≡ label labels q)
same_part c In labels s p q hp hq = (
  λ e. joined_join c In p (label labels p) q (s.joined p hp) (rw e (joined_back c In q (label labels q) (s.joined q hq))),
  s.same p q,
)

-- a label is a point of the set, and its own label
pub label_in : (c : ℕ) (In : ℕ → Type 0) (labels : List ℕ) → ArePartLabels c In labels → (p : ℕ) → In p
    → In (label labels p) × (label labels (label labels p) ≡ label labels p)
label_in c In labels s p h = (
  joined_end c In p (label labels p) (s.joined p h),
  sym (s.same p (label labels p) (s.joined p h)),
)
