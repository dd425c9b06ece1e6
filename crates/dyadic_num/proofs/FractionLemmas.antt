-- Fractions: to halve or to double both parts of one changes nothing.
use Rattle.std.proofs.Common.{ℕ, suc, ◌+◌, ◌-◌, ◌*◌, ◌^◌, ◌<◌, ◌≤◌, ◌≡◌, ◌⊎◌, inl, inr, arith, sym, ◌∙◌, ap, subst, ℤ, pos, negsuc, ◌+ℤ◌, ◌*ℤ◌}
use Rattle.std.specs.Prelude.{unsigned_abs, neg_ℤ}
use Rattle.std.proofs.lemmas.Int.{ints, unsigned_abs-mul}
use Rattle.std.proofs.lemmas.Bool.{cases_lt}
use Rattle.std.proofs.lemmas.Nat.{pow-add}
use Rattle.std.proofs.Math.Nat.{mul-le-mul_left}
use Rattle.std.proofs.Math.Pow.{pow-lt}
use Rattle.dyadic_num.specs.Units.{IsFraction, IsInBounds, IsLowest}

twice : (u : ℤ) (p : ℕ) → u *ℤ pos (p + p) ≡ (u *ℤ pos p) +ℤ (u *ℤ pos p)
twice u p = omega (arith, ints)

power : (u : ℤ) (e : ℕ) → u *ℤ pos (2 ^ suc e) ≡ (u *ℤ pos (2 ^ e)) +ℤ (u *ℤ pos (2 ^ e))
power u e = ap (λ p. u *ℤ pos p) (let s : 2 ^ suc e ≡ 2 ^ e + 2 ^ e = omega arith in s) ∙ twice u (2 ^ e)

pub doubled : (u n : ℤ) (e : ℕ) → IsFraction u n e → IsFraction u (n +ℤ n) (suc e)
doubled u n e f = power u e ∙ omega (arith, ints, f)

pub halved : (u n : ℤ) (e : ℕ) → IsFraction u (n +ℤ n) (suc e) → IsFraction u n e
halved u n e f = omega (arith, ints, f, power u e)

pub halving : (u n half : ℤ) (e next : ℕ) → half +ℤ half ≡ n → suc next ≡ e → IsFraction u n e → IsFraction u half next
halving u n half e next p q f = halved u half next (subst (λ k. IsFraction u (half +ℤ half) k) (sym q) (subst (λ x. IsFraction u x e) (sym p) f))

pub sizes : (u n : ℤ) (e : ℕ) → IsFraction u n e → unsigned_abs u * 2 ^ e ≡ unsigned_abs n * 2 ^ 60
sizes u n e f = sym (unsigned_abs-mul u (pos (2 ^ e))) ∙ ap unsigned_abs f ∙ unsigned_abs-mul n (pos (2 ^ 60))

-- a number whose size is even is no odd one
even : (n : ℤ) (k : ℕ) → unsigned_abs n ≡ k + k → (h : ℤ) × (h +ℤ h ≡ n)
even (pos a) k e = (pos k, omega (arith, ints, e))
even (negsuc a) k e = (neg_ℤ (pos k), omega (arith, ints, e))

power-twice : (k : ℕ) → 2 ^ suc k ≡ 2 ^ k + 2 ^ k
power-twice k = omega arith

products : (u n m p q : ℕ) → u * ((p + p) * q) ≡ n * 2 ^ 60 → (u * q) * p ≡ (m * 2 ^ 60) * p → n ≡ m * p + m * p
products u n m p q a b = (let c : u * ((p + p) * q) ≡ (u * q) * p + (u * q) * p = grind arith in
    let d : (m * 2 ^ 60) * p ≡ (m * p) * 2 ^ 60 = grind arith in omega (arith, a, b, c, d))

pub lowest : (u n : ℤ) (e : ℕ) → IsFraction u n e → (e ≡ 0) ⊎ ((h : ℤ) → h +ℤ h ≡ n → ⊥) → IsLowest u n e
lowest u n e f odd = record {
  fraction = f;
  lowest = λ m d g. elim (cases_lt d e) [
    | inr l ↦ omega (arith, l)
    | inl l ↦ elim odd [
      | inl z ↦ omega (arith, z, l)
      | inr o ↦ absurd (let r = even n (unsigned_abs m * 2 ^ (e - suc d)) (size m d g l) in o r.0 r.1)
    ]
  ];
}
  where
    size : (m : ℤ) (d : ℕ) → IsFraction u m d → d < e → unsigned_abs n ≡ unsigned_abs m * 2 ^ (e - suc d) + unsigned_abs m * 2 ^ (e - suc d)
    size m d g l = (let k = e - suc d in
        let p : 2 ^ e ≡ (2 ^ k + 2 ^ k) * 2 ^ d = ap (λ x. 2 ^ x) (let s : e ≡ suc k + d = omega (arith, l) in s) ∙ pow-add 2 (suc k) d ∙ ap (λ x. x * 2 ^ d) (power-twice k) in
        let a : unsigned_abs u * ((2 ^ k + 2 ^ k) * 2 ^ d) ≡ unsigned_abs n * 2 ^ 60 = ap (λ x. unsigned_abs u * x) (sym p) ∙ sizes u n e f in
        let b : (unsigned_abs u * 2 ^ d) * 2 ^ k ≡ (unsigned_abs m * 2 ^ 60) * 2 ^ k = ap (λ x. x * 2 ^ k) (sizes u m d g) in
        products (unsigned_abs u) (unsigned_abs n) (unsigned_abs m) (2 ^ k) (2 ^ d) a b)

-- units / 2 ^ at is the same as n / 2 ^ e
pub record Scaled (n : ℤ) (e : ℕ) (units : ℤ) (at : ℕ) : Type 0 where
  pub from : (u : ℤ) → IsFraction u n e → IsFraction u units at
  pub back : (u : ℤ) → IsFraction u units at → IsFraction u n e

pub scaled-halved : (n : ℤ) (e : ℕ) (units half : ℤ) (at next : ℕ) → half +ℤ half ≡ units → suc next ≡ at → Scaled n e units at → Scaled n e half next
scaled-halved n e units half at next p q s = record {
  from = λ u f. halving u units half at next p q (s.from u f);
  back = λ u f. s.back u (subst (λ k. IsFraction u units k) q (subst (λ x. IsFraction u x (suc next)) p (doubled u half next f)));
}

pub scaled-doubled : (n : ℤ) (e : ℕ) (units double : ℤ) (at next : ℕ) → double ≡ units +ℤ units → next ≡ suc at → Scaled n e units at → Scaled n e double next
scaled-doubled n e units double at next p q s = record {
  from = λ u f. subst (λ k. IsFraction u double k) (sym q) (subst (λ x. IsFraction u x (suc at)) (sym p) (doubled u units at (s.from u f)));
  back = λ u f. s.back u (halved u units at (subst (λ k. IsFraction u (units +ℤ units) k) q (subst (λ x. IsFraction u x next) p f)));
}

-- an odd number over more than 2 ^ 60 is past the bounds
pub too_fine : (n : ℤ) (e : ℕ) (units : ℤ) (at : ℕ) → 60 < at → ((h : ℤ) → h +ℤ h ≡ units → ⊥) → Scaled n e units at → (u : ℤ) → IsFraction u n e → ⊥
too_fine n e units at l o s u f = (let r = even units (unsigned_abs u * 2 ^ (at - 61)) size in o r.0 r.1)
  where
    size : unsigned_abs units ≡ unsigned_abs u * 2 ^ (at - 61) + unsigned_abs u * 2 ^ (at - 61)
    size = (let k = at - 61 in
        let p : 2 ^ at ≡ (2 ^ k + 2 ^ k) * 2 ^ 60 = ap (λ x. 2 ^ x) (let s : at ≡ suc k + 60 = omega (arith, l) in s) ∙ pow-add 2 (suc k) 60 ∙ ap (λ x. x * 2 ^ 60) (power-twice k) in
        let a : unsigned_abs u * ((2 ^ k + 2 ^ k) * 2 ^ 60) ≡ unsigned_abs units * 2 ^ 60 = ap (λ x. unsigned_abs u * x) (sym p) ∙ sizes u units at (s.from u f) in
        omega (arith, a))

shorter : (at : ℕ) → at ≤ 60 → 2 ^ at ≤ 2 ^ 60
shorter at l = elim (cases_lt at 60) [
  | inl g ↦ (let p = pow-lt {i = at} {j = 60} g in omega (arith, p))
  | inr g ↦ subst (λ n. 2 ^ n ≤ 2 ^ 60) (let e : 60 ≡ at = omega (arith, l, g) in e) (omega arith)
]

-- so is one of size 2 ^ 120 over at most 2 ^ 60
pub too_great : (n : ℤ) (e : ℕ) (units : ℤ) (at : ℕ) → at ≤ 60 → (IsInBounds units → ⊥) → Scaled n e units at → (u : ℤ) → IsInBounds u → IsFraction u n e → ⊥
too_great n e units at l big s u b f = big (let p = mul-le-mul_left (unsigned_abs u) (shorter at l) in omega (arith, sizes u units at (s.from u f), p, b))

pub scaled-along : (n n' : ℤ) (e : ℕ) (units : ℤ) (at : ℕ) → n ≡ n' → Scaled n e units at → Scaled n' e units at
scaled-along n n' e units at p s = subst (λ x. Scaled x e units at) p s
