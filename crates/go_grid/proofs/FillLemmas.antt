-- One fill: a point is met, a point's neighbours are met, and what is met when none waits.
use Rattle.std.proofs.Common.{◌≡◌, ◌≢◌, ℕ, ◌+◌, ◌<◌, ◌≤◌, ◌⊎◌, inl, inr, arith, refl, List, Bool, Option, Some, None, length, get_or, ◌∙◌, set, below_more, sym}
use Rattle.std.specs.List.{count_by}
use Rattle.std.specs.Option.{IfSome}
use Rattle.std.proofs.lemmas.Bool.{cases_eq}
use Rattle.std.proofs.lemmas.List.{get_or-set_same, get_or-set_other}
use Rattle.go_grid.specs.declared.fills.Work.{Work}
use Rattle.go_grid.specs.Board.{NextTo}
use Rattle.go_grid.specs.Walk.{Joined}
use Rattle.go_grid.specs.Marks.{IsMarked, Touches, Marks}
use Rattle.go_grid.specs.inner.Marks.{IsClosed}
use Rattle.go_grid.specs.inner.Work.{IsListed, IsFilled, IsFilling}
use Rattle.go_grid.proofs.NearLemmas.{next_back}
use Rattle.go_grid.proofs.PointsLemmas.{no_mark}
use Rattle.go_grid.proofs.WalkLemmas.{joined_here, joined_back, carried}

-- marks that are closed have each point that a walk reaches
pub closed_all : (c : ℕ) (within marks : List Bool) → IsClosed c within marks → (start p : ℕ)
    → IsMarked marks start → Joined c (IsMarked within) start p → IsMarked marks p
closed_all c within marks closed start p first j =
    carried c (IsMarked within) (IsMarked marks) (λ x y m n h. closed y h (x, next_back c x y n, m)) start p first j

-- the work with one more point
abbrev with_point : Work → List Bool → ℕ → Work
with_point w marks p = record { marks = marks; points = set w.points w.count p; count = w.count + 1 }

listed_more : (from p q : ℕ) (new : List Bool) (w : Work) → IsListed from w q → IsListed from (with_point w new p) q
listed_more from p q new w l = let other : l.0 ≢ w.count = omega (arith, l.2) in (l.0, l.1, omega (arith, l.2), rw (get_or-set_other w.points w.count l.0 p 0 other) l.3)

-- a point of the set is met
pub filling_add : (c start from done p : ℕ) (within before new : List Bool) (w : Work) → w.count < length w.points → IsMarked within p
    → Marks new (λ q. IsMarked w.marks q ⊎ (q ≡ p)) → count_by (λ m. m) new ≡ count_by (λ m. m) w.marks + 1 → w.count + 1 ≤ 625
    → Joined c (IsMarked within) start p → from ≤ w.count → done ≤ w.count
    → IsFilling c within before start from done w → IsFilling c within before start from done (with_point w new p)
filling_add c start from done p within before new w fits in' is more most j lf ld s =
    let last : get_or (set w.points w.count p) w.count 0 ≡ p = get_or-set_same w.points w.count p 0 fits in
    record {
      inside = λ q m. elim ((is q).0 m) as (λ _. IsMarked within q) [ inl old ↦ s.inside q old | inr e ↦ rw e in' ];
      listed = λ i lt. elim (cases_eq i w.count) as (λ _. IsMarked new (get_or (set w.points w.count p) i 0)) [
        | inl e ↦ rw (e, last) ((is p).1 (inr refl))
        | inr ne ↦ rw (get_or-set_other w.points w.count i p 0 ne) ((is (get_or w.points i 0)).1 (inl (s.listed i (omega arith))))
      ];
      counted = omega (arith, more, s.counted);
      most = most;
      kept = λ q m. (is q).1 (inl (s.kept q m));
      met = λ q m. elim ((is q).0 m) as (λ _. IsMarked before q ⊎ (Joined c (IsMarked within) start q × IsListed from (with_point w new p) q)) [
        | inl old ↦ elim (s.met q old) as (λ _. IsMarked before q ⊎ (Joined c (IsMarked within) start q × IsListed from (with_point w new p) q)) [
          | inl b ↦ inl b
          | inr l ↦ inr (l.0, listed_more from p q new w l.1)
        ]
        | inr e ↦ inr (rw e j, (w.count, lf, omega arith, last ∙ sym e))
      ];
      earlier = λ i le lt. elim (cases_eq i w.count) as (λ _. Joined c (IsMarked within) start (get_or (set w.points w.count p) i 0)) [
        | inl e ↦ rw (e, last) j
        | inr ne ↦ rw (get_or-set_other w.points w.count i p 0 ne) (s.earlier i le (omega arith))
      ];
      spread = λ q r m not next here. elim ((is q).0 m) as (λ _. IsMarked new r) [
        | inl old ↦ (is r).1 (inl (s.spread q r old (λ l. not (listed_more done p q new w l)) next here))
        | inr e ↦ absurd (not (w.count, ld, omega arith, last ∙ sym e))
      ];
    }

-- what a fill keeps while it goes on, from the work `old`
pub record Spreading (c : ℕ) (within : List Bool) (start : ℕ) (old w : Work) (done : ℕ) : Type 0 where
  pub filling : IsFilling c within old.marks start old.count done w
  pub first : IsMarked w.marks start
  pub begun : old.count ≤ done
  pub reached : done ≤ w.count

pub filling_start : (c start : ℕ) (within : List Bool) (w : Work) → IsFilled c within w
    → IsFilling c within w.marks start w.count w.count w
filling_start c start within w s = record {
  inside = s.inside;
  listed = s.listed;
  counted = s.counted;
  most = s.most;
  kept = λ p m. m;
  met = λ p m. inl m;
  earlier = λ i le lt. absurd (omega arith);
  spread = λ p q m _ next here. s.closed q here (p, next_back c p q next, m);
}

-- all neighbours of the next point are met
pub filling_next : (c start from done : ℕ) (within before : List Bool) (w : Work) → IsFilling c within before start from done w
    → ((q : ℕ) → NextTo c (get_or w.points done 0) q → IsMarked within q → IsMarked w.marks q)
    → IsFilling c within before start from (done + 1) w
filling_next c start from done within before w s near = record {
  inside = s.inside;
  listed = s.listed;
  counted = s.counted;
  most = s.most;
  kept = s.kept;
  met = s.met;
  earlier = s.earlier;
  spread = λ p q m not next here. elim (cases_eq p (get_or w.points done 0)) as (λ _. IsMarked w.marks q) [
    | inl e ↦ near q (rw e at next) here
    | inr ne ↦ s.spread p q m (λ l. elim (cases_eq l.0 done) as (λ _. ⊥) [
      | inl e ↦ ne (sym (rw e at l.3))
      | inr other ↦ not (l.0, omega (arith, l.1), l.2, l.3)
    ]) next here
  ];
}

-- no point waits
pub filling_end : (c start from done : ℕ) (within before : List Bool) (w : Work) → IsFilling c within before start from done w
    → w.count ≤ done → IsFilled c within w
filling_end c start from done within before w s le = record {
  inside = s.inside;
  listed = s.listed;
  counted = s.counted;
  most = s.most;
  closed = λ p here t. s.spread t.0 p t.2 (λ l. absurd (omega (arith, l.1, l.2))) (next_back c p t.0 t.1) here;
}

pub spread_met : (c start done : ℕ) (within : List Bool) (old w : Work) → Spreading c within start old w done → w.count ≤ done
    → Marks w.marks (λ p. IsMarked old.marks p ⊎ Joined c (IsMarked within) start p)
spread_met c start done within old w s le p = (
  λ m. elim (s.filling.met p m) as (λ _. IsMarked old.marks p ⊎ Joined c (IsMarked within) start p) [ inl b ↦ inl b | inr l ↦ inr l.0 ],
  λ h. elim h as (λ _. IsMarked w.marks p) [
    | inl b ↦ s.filling.kept p b
    | inr j ↦ closed_all c within w.marks (filling_end c start old.count done within old.marks w s.filling le).closed start p s.first j
  ],
)

pub spread_listed : (c start done : ℕ) (within : List Bool) (old w : Work) → Spreading c within start old w done → w.count ≤ done
    → IsClosed c within old.marks → ¬ IsMarked old.marks start → (p : ℕ)
    → (Joined c (IsMarked within) start p → IsListed old.count w p) × (IsListed old.count w p → Joined c (IsMarked within) start p)
spread_listed c start done within old w s le closed fresh p = (
  λ j. elim (s.filling.met p ((spread_met c start done within old w s le p).1 (inr j))) as (λ _. IsListed old.count w p) [
    | inl b ↦ absurd (fresh (closed_all c within old.marks closed p start b (joined_back c (IsMarked within) start p j)))
    | inr l ↦ l.1
  ],
  λ l. rw l.3 at (s.filling.earlier l.0 l.1 l.2),
)

-- nothing is met yet
pub idle_filled : (c : ℕ) (within : List Bool) (w : Work) → Marks w.marks (λ _. ⊥) → w.count ≡ 0 → IsFilled c within w
idle_filled c within w e z = record {
  inside = λ p m. absurd ((e p).0 m);
  listed = λ i lt. absurd (omega arith);
  counted = no_mark w.marks (λ p. (e p).0) ∙ sym z;
  most = omega arith;
  closed = λ p _ t. absurd ((e t.0).0 t.2);
}

-- a fill from each start below `number`
pub record FillingAll (c : ℕ) (within starts : List Bool) (w : Work) (number : ℕ) : Type 0 where
  pub filled : IsFilled c within w
  pub met : (p : ℕ) → IsMarked w.marks p → (s : ℕ) × IsMarked starts s × Joined c (IsMarked within) s p
  pub all : (s : ℕ) → s < number → IsMarked starts s → IsMarked w.marks s

pub all_start : (c : ℕ) (within starts : List Bool) (w : Work) → Marks w.marks (λ _. ⊥) → IsFilled c within w
    → FillingAll c within starts w 0
all_start c within starts w e f = record {
  filled = f;
  met = λ p m. absurd ((e p).0 m);
  all = λ s lt _. absurd (omega arith);
}

pub all_skip : (c : ℕ) (within starts : List Bool) (w : Work) (n : ℕ) → FillingAll c within starts w n
    → (IsMarked starts n → IsMarked w.marks n) → FillingAll c within starts w (n + 1)
all_skip c within starts w n s here = record {
  filled = s.filled;
  met = s.met;
  all = below_more (λ p. IsMarked starts p → IsMarked w.marks p) n s.all here;
}

pub all_one : (c : ℕ) (within starts : List Bool) (w v : Work) (n : ℕ) → FillingAll c within starts w n → IsMarked starts n
    → IsMarked within n → IsFilled c within v → Marks v.marks (λ p. IsMarked w.marks p ⊎ Joined c (IsMarked within) n p)
    → FillingAll c within starts v (n + 1)
all_one c within starts w v n s start here f is = record {
  filled = f;
  met = λ p m. elim ((is p).0 m) as (λ _. (s : ℕ) × IsMarked starts s × Joined c (IsMarked within) s p) [
    | inl old ↦ s.met p old
    | inr j ↦ (n, start, j)
  ];
  all = below_more (λ p. IsMarked starts p → IsMarked v.marks p) n (λ p lt t. (is p).1 (inl (s.all p lt t)))
      (λ _. (is n).1 (inr (joined_here c (IsMarked within) n here)));
}

pub all_end : (c : ℕ) (within starts : List Bool) (w : Work) (n : ℕ) → FillingAll c within starts w n
    → ((p : ℕ) → IsMarked starts p → (p < n) × IsMarked within p)
    → Marks w.marks (λ p. (s : ℕ) × IsMarked starts s × Joined c (IsMarked within) s p)
all_end c within starts w n s inside p = (
  s.met p,
  λ h. let i = inside h.0 h.1 in closed_all c within w.marks s.filled.closed h.0 p (s.all h.0 i.0 h.1) h.2,
)

-- one start
pub part_marks : (c start : ℕ) (within : List Bool) (old w : Work) → Marks old.marks (λ _. ⊥)
    → Marks w.marks (λ p. IsMarked old.marks p ⊎ Joined c (IsMarked within) start p) → Marks w.marks (Joined c (IsMarked within) start)
part_marks c start within old w e is p = (
  λ m. elim ((is p).0 m) as (λ _. Joined c (IsMarked within) start p) [
    | inl b ↦ absurd ((e p).0 b)
    | inr j ↦ j
  ],
  λ j. (is p).1 (inr j),
)

-- what holds of the value, if there is one
pub if_some : (o : Option ℕ) (P : ℕ → Type 0) → ((q : ℕ) → o ≡ Some q → P q) → IfSome o P
if_some None P h = cc
if_some (Some q) P h = h q refl
