-- All points of a board are a region.
use Rattle.std.proofs.Common.{◌≡◌, ℕ, ◌+◌, ◌-◌, ◌*◌, ◌%◌, ◌<◌, inl, inr, zero, suc, arith, sym, ◌∙◌, List, [], ◌∷◌, ◌++◌, length, get_or, subst, below_more, Option, Some, None}
use Rattle.std.specs.List.{Contains}
use Rattle.std.proofs.Math.Nat.{mod-eq_of_lt}
use Rattle.std.proofs.lemmas.Bool.{cases_eq, cases_lt}
use Rattle.std.proofs.lemmas.List.{get_or_append_left, get_or_default, get_or_push}
use Rattle.go_grid.specs.declared.grid.Cell.{Cell}
use Rattle.go_grid.specs.declared.region.Touch.{Touch}
use Rattle.go_grid.specs.Board.{AreNear, IsThe}
use Rattle.go_grid.specs.Region.{AreLinks, IsLink, IsRegion, nothing_near, touch_at}
use Rattle.go_grid.specs.Walk.{Joined}
use Rattle.go_grid.proofs.NearLemmas.{next_back, next_left, next_up}
use Rattle.go_grid.proofs.WalkLemmas.{joined_back, joined_here, joined_join, joined_step}

-- the links of a place are those of its point
abbrev pub HasNeighbours : ℕ → ℕ → ℕ → Touch → Type 0
HasNeighbours c area k t = AreNear c area k t.up t.left t.right t.down

pub near_push : (c area n : ℕ) (touch : List Touch) (t : Touch) → length touch ≡ n
    → ((k : ℕ) → k < n → HasNeighbours c area k (touch_at touch k)) → HasNeighbours c area n t
    → (k : ℕ) → k < n + 1 → HasNeighbours c area k (touch_at (touch ++ t ∷ []) k)
near_push c area n touch t long old new =
    below_more (λ k. HasNeighbours c area k (touch_at (touch ++ t ∷ []) k)) n
    (λ k lt. subst (HasNeighbours c area k) (sym (get_or_append_left touch (t ∷ []) nothing_near k (omega (arith, long)))) (old k lt))
    (subst (HasNeighbours c area n) (sym (get_or_push touch t nothing_near n long)) new)

module _ (c r : ℕ) (points : List ℕ) (cells : List Cell) (touch : List Touch) (wide : 0 < c) (high : 0 < c * r)
    (long : length points ≡ c * r) (each : (k : ℕ) → k < c * r → get_or points k 0 ≡ k) (full : length cells ≡ c * r)
    (beside : length touch ≡ c * r)
    (near : (k : ℕ) → k < c * r → HasNeighbours c (c * r) k (touch_at touch k)) where
  among : (q : ℕ) → q < c * r → Contains points q
  among q lt = (q, omega (arith, long), get_or_default points q q 0 (omega (arith, long)) ∙ each q lt)

  inside : (q : ℕ) → Contains points q → q < c * r
  inside q (k, lt, at) =
      let is : k ≡ q = sym (each k (omega (arith, long))) ∙ get_or_default points k 0 q lt ∙ at in omega (arith, long)

  to_first : (n p : ℕ) → p < n → p < c * r → Joined c (Contains points) 0 p
  to_first zero p lt on = absurd (omega arith)
  to_first (suc n) p lt on = elim (cases_eq p 0) [
    | inl e ↦ subst (Joined c (Contains points) 0) (sym e) (joined_here c (Contains points) 0 (among 0 (omega arith)))
    | inr ne ↦ elim (cases_lt 0 (p % c)) [
      | inl column ↦
          joined_step c (Contains points) 0 (p - 1) p (to_first n (p - 1) (omega arith) (omega arith))
          (next_back c p (p - 1) (next_left c p wide column)) (among p on)
      | inr first ↦ elim (cases_lt p c) [
        | inl row ↦ absurd (let e = mod-eq_of_lt row in omega arith)
        | inr below ↦
            joined_step c (Contains points) 0 (p - c) p (to_first n (p - c) (omega arith) (omega arith))
            (next_back c p (p - c) (next_up c p wide below)) (among p on)
      ]
    ]
  ]

  link : (Near : ℕ → Type 0) (o : Option ℕ) → IsThe (c * r) Near o → IsLink points Near o
  link Near None the = λ q there h. the q (inside q there) h
  link Near (Some j) the = (omega (arith, long, the.0), subst Near (sym (each j the.0)) the.1)

  links : (i : ℕ) → i < c * r → AreLinks c points (get_or points i 0) (touch_at touch i)
  links i lt = let w = near i lt in subst (λ p. AreLinks c points p (touch_at touch i)) (sym (each i lt)) record {
    up = link _ (touch_at touch i).up w.above;
    left = link _ (touch_at touch i).left w.before;
    right = link _ (touch_at touch i).right w.after;
    down = link _ (touch_at touch i).down w.below;
  }

  pub whole_board : IsRegion c r points cells touch
  whole_board = record {
    some = omega (arith, long);
    full = full ∙ sym long;
    beside = beside ∙ sym long;
    ascending = λ k lt. let a = each k (omega (arith, long)) in let b = each (k + 1) (omega (arith, long)) in omega arith;
    on_board = inside;
    joined = λ p q there here.
        joined_join c (Contains points) p 0 q
        (joined_back c (Contains points) 0 p (to_first (p + 1) p (omega arith) (inside p there)))
        (to_first (q + 1) q (omega arith) (inside q here));
    links = λ i lt. links i (omega (arith, long));
  }
