-- A number is a multiple of 2 ^ k parts exactly where it is a fraction over 2 ^ (60 - k).
use Rattle.std.proofs.Common.{ℕ, zero, suc, ◌+◌, ◌-◌, ◌*◌, ◌^◌, ◌<◌, ◌≤◌, ◌≡◌, inl, inr, arith, refl, sym, ◌∙◌, ap, subst, ℤ, pos, negsuc, ◌+ℤ◌, Option}
use Rattle.std.specs.Prelude.{unsigned_abs, neg_ℤ}
use Rattle.std.proofs.lemmas.Int.{ints}
use Rattle.std.proofs.lemmas.Bool.{cases_lt}
use Rattle.std.proofs.lemmas.Nat.{pow-add, pow_pos}
use Rattle.std.proofs.Math.Nat.{mul_assoc, mul-le-mul_right}
use Rattle.dyadic_num.specs.Units.{IsOver, IsMultiple, IsSimplest, IsSimplestBetween, IsBetween}
use Rattle.dyadic_num.proofs.FractionLemmas.{sizes, doubled}

less : (a b d : ℕ) → 0 < d → a * d ≡ b * d → a < b → ⊥
less a b d p e g = (let q = mul-le-mul_right d (let r : suc a ≤ b = omega (arith, g) in r) in
    let r : suc a * d ≡ a * d + d = grind arith in omega (arith, p, e, q, r))

cancel : (a b d : ℕ) → 0 < d → a * d ≡ b * d → a ≡ b
cancel a b d p e = elim (cases_lt a b) [
  | inl g ↦ absurd (less a b d p e g)
  | inr g ↦ elim (cases_lt b a) [
    | inl h ↦ absurd (less b a d p (sym e) h)
    | inr h ↦ omega (arith, g, h)
  ]
]

powers : (d k : ℕ) → d + k ≡ 60 → 2 ^ 60 ≡ 2 ^ k * 2 ^ d
powers d k e = ap (λ x. 2 ^ x) (let s : 60 ≡ k + d = omega (arith, e) in s) ∙ pow-add 2 k d

multiple : (v : ℤ) (d k : ℕ) → d + k ≡ 60 → IsOver d v → IsMultiple (2 ^ k) v
multiple v d k e o = (
  unsigned_abs o.0,
  cancel _ _ (2 ^ d) (pow_pos d)
      (sizes v o.0 d o.1 ∙ ap (λ x. unsigned_abs o.0 * x) (powers d k e) ∙ sym (mul_assoc (unsigned_abs o.0) (2 ^ k) (2 ^ d))),
)

-- the fraction of a multiple, by its sign
over : (v : ℤ) (d k : ℕ) → d + k ≡ 60 → IsMultiple (2 ^ k) v → IsOver d v
over (pos a) d k e m = (pos m.0, ap pos (ap (λ x. x * 2 ^ d) m.1 ∙ mul_assoc m.0 (2 ^ k) (2 ^ d) ∙ ap (λ x. m.0 * x) (sym (powers d k e))))
over (negsuc a) d k e m = (
  neg_ℤ (pos m.0),
  (let h : suc a * 2 ^ d ≡ m.0 * 2 ^ 60 = ap (λ x. x * 2 ^ d) m.1 ∙ mul_assoc m.0 (2 ^ k) (2 ^ d) ∙ ap (λ x. m.0 * x) (sym (powers d k e)) in
      omega (arith, ints, h)),
)

-- each number is over 2 ^ 60, and so over more
fine : (v : ℤ) (j : ℕ) → IsOver (j + 60) v
fine v zero = (v, refl)
fine v (suc j) = subst (λ e. IsOver e v) (let e : suc (j + 60) ≡ suc j + 60 = omega arith in e) (let r = fine v j in (r.0 +ℤ r.0, doubled v r.0 (j + 60) r.1))

pub by_exponents : (low high : Option ℤ) (u : ℤ) → IsSimplest 60 (λ v. IsBetween low high v) u → IsSimplestBetween low high u
by_exponents low high u s = record {
  between = s.passes;
  least_exponent = λ v b e o. elim (cases_lt 60 e) [
    | inl g ↦ subst (λ x. IsOver x u) (let p : (e - 60) + 60 ≡ e = omega (arith, g) in p) (fine u (e - 60))
    | inr l ↦ (let p : e + (60 - e) ≡ 60 = omega (arith, l) in
        over u e (60 - e) p (s.least_exponent v b (60 - e) (omega arith) (multiple v e (60 - e) p o)))
  ];
  least_size = λ v b f. s.least_size v b (λ k l m. (let p : (60 - k) + k ≡ 60 = omega (arith, l) in
      multiple v (60 - k) k p (f (60 - k) (over u (60 - k) k p m))));
}
