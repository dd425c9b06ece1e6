-- The search for the simplest number between two: the coarsest step of which a multiple lies between.
use Rattle.std.proofs.Common.{ℕ, ◌+◌, ◌-◌, ◌*◌, ◌/◌, ◌%◌, ◌^◌, ◌<◌, ◌≤◌, ◌≡◌, arith, inl, inr, sym, ◌∙◌, ap, subst, ℤ, pos}
use Rattle.std.specs.Prelude.{unsigned_abs, neg_ℤ}
use Rattle.std.proofs.lemmas.Int.{ints}
use Rattle.std.proofs.lemmas.Bool.{cases_lt}
use Rattle.std.proofs.lemmas.Nat.{pow-add, pow_pos}
use Rattle.std.proofs.Math.Pow.{pow-lt}
use Rattle.std.proofs.Math.Nat.{lt-div-mul-add, div-lt_iff_lt-mul, mul-le-mul_right, mul_assoc, mod-eq_of_lt}
use Rattle.std.specs.Prelude.{Option, Some, None}
use Rattle.dyadic_num.specs.Units.{IsInside, IsSimplest, IsBetween}
use Rattle.dyadic_num.specs.inner.Units.{low_end, high_end, IsSmall}

-- no multiple of a step past this shift lies between
pub record Searched (low high exponent shift : ℕ) : Type 0 where
  pub within : shift ≤ exponent
  pub none : (k j : ℕ) → shift < k → k ≤ exponent → low < j * 2 ^ k → j * 2 ^ k < high → ⊥

multiple-of : (x k shift : ℕ) → k ≤ shift → (j : ℕ) × (x * 2 ^ shift ≡ j * 2 ^ k)
multiple-of x k shift l = (x * 2 ^ (shift - k), ap (λ n. x * 2 ^ n) split ∙ ap (λ n. x * n) (pow-add 2 (shift - k) k) ∙ sym (mul_assoc x (2 ^ (shift - k)) (2 ^ k)))
  where
    split : shift ≡ (shift - k) + k
    split = omega (arith, l)

-- the multiple after low
pub after : (low d : ℕ) → 0 < d → low < (low / d + 1) * d
after low d p = omega (arith, lt-div-mul-add {a = low} {b = d} p)

pub least : (low d j : ℕ) → 0 < d → low < j * d → (low / d + 1) * d ≤ j * d
least low d j p l = mul-le-mul_right d (let b : low / d < j = (div-lt_iff_lt-mul {k = d} {x = low} {y = j} p).1 l in omega (arith, b))

pub found : (low high exponent shift d : ℕ) → d ≡ 2 ^ shift → Searched low high exponent shift → (low / d + 1) * d < high → IsSimplest exponent (λ u. IsInside (pos low) (pos high) u) (pos ((low / d + 1) * d))
found low high exponent shift d is s l = record {
  passes = (let a = after low d positive in omega (arith, ints, a), omega (arith, ints, l));
  least_exponent = λ v p k b m. elim (cases_lt shift k) [
    | inl g ↦ absurd (s.none k m.0 g b (omega (arith, ints, p.0, m.1)) (omega (arith, ints, p.0, p.1, m.1)))
    | inr g ↦ (let r = multiple-of (low / d + 1) k shift g in (r.0, ap (λ n. (low / d + 1) * n) is ∙ r.1))
  ];
  least_size = λ v p f. (let m = f shift s.within (low / d + 1, ap (λ n. (low / d + 1) * n) is) in
      let g = least low d m.0 positive (subst (λ n. low < m.0 * n) (sym is) (omega (arith, ints, p.0, m.1))) in
      let e : m.0 * d ≡ m.0 * 2 ^ shift = ap (λ n. m.0 * n) is in
      omega (arith, ints, g, e, m.1));
}
  where
    positive : 0 < d
    positive = subst (λ n. 0 < n) (sym is) (pow_pos shift)

pub shifted : (shift : ℕ) → shift ≤ 61 → 1 * 2 ^ shift % 340282366920938463463374607431768211456 ≡ 2 ^ shift
shifted shift h = ap (λ n. n % 340282366920938463463374607431768211456) (let e : 1 * 2 ^ shift ≡ 2 ^ shift = omega arith in e) ∙ mod-eq_of_lt (pow-lt {i = shift} {j = 128} (omega arith))

-- the same with the sides exchanged
negated : (v : ℤ) → unsigned_abs (neg_ℤ v) ≡ unsigned_abs v
negated v = omega (arith, ints)

pub mirrored : (e : ℕ) (low high low' high' u : ℤ) → low' ≡ neg_ℤ high → high' ≡ neg_ℤ low → IsSimplest e (λ u. IsInside low' high' u) u → IsSimplest e (λ u. IsInside low high u) (neg_ℤ u)
mirrored e low high low' high' u p q s = record {
  passes = (omega (arith, ints, s.passes.0, s.passes.1), omega (arith, ints, s.passes.0, s.passes.1));
  least_exponent = λ v i k b m. (let r = s.least_exponent (neg_ℤ v) (omega (arith, ints, i.0, i.1), omega (arith, ints, i.0, i.1)) k b (m.0, negated v ∙ m.1) in (r.0, negated u ∙ r.1));
  least_size = λ v i f. (let l = s.least_size (neg_ℤ v) (omega (arith, ints, i.0, i.1), omega (arith, ints, i.0, i.1)) (λ k b m. (let r = f k b (m.0, negated u ∙ m.1) in (r.0, negated v ∙ r.1))) in omega (arith, negated u, negated v, l));
}

pub along : (e : ℕ) (a b u a' b' u' : ℤ) → a ≡ a' → b ≡ b' → u ≡ u' → IsSimplest e (λ u. IsInside a b u) u → IsSimplest e (λ u. IsInside a' b' u) u'
along e a b u a' b' u' p q r s = subst (λ x. IsSimplest e (λ u. IsInside x b' u) u') p (subst (λ x. IsSimplest e (λ u. IsInside a x u) u') q (subst (λ x. IsSimplest e (λ u. IsInside a b u) x) r s))

-- where the same numbers pass
pub passed_same : (e : ℕ) (P Q : ℤ → Type 0) (u : ℤ) → ((v : ℤ) → P v → Q v) → ((v : ℤ) → Q v → P v) → IsSimplest e P u → IsSimplest e Q u
passed_same e P Q u f g s = record {
  passes = f u s.passes;
  least_exponent = λ v q k b m. s.least_exponent v (g v q) k b m;
  least_size = λ v q h. s.least_size v (g v q) h;
}

pub ends : (low high : Option ℤ) → IsSmall low → IsSmall high → (v : ℤ) → IsInside (low_end low) (high_end high) v → IsBetween low high v
ends None None a b v i = (omega (arith, ints, i.0, i.1), tt, tt)
ends None (Some y) a b v i = (omega (arith, ints, i.0, i.1, b), tt, i.1)
ends (Some x) None a b v i = (omega (arith, ints, i.0, i.1, a), i.0, tt)
ends (Some x) (Some y) a b v i = (omega (arith, ints, i.0, i.1, a, b), i.0, i.1)

pub ends-back : (low high : Option ℤ) (v : ℤ) → IsBetween low high v → IsInside (low_end low) (high_end high) v
ends-back None None v i = (omega (arith, ints, i.0), omega (arith, ints, i.0))
ends-back None (Some y) v i = (omega (arith, ints, i.0), i.2)
ends-back (Some x) None v i = (i.1, omega (arith, ints, i.0))
ends-back (Some x) (Some y) v i = (i.1, i.2)

pub between-from : (low high : Option ℤ) (u : ℤ) → IsSmall low → IsSmall high → IsSimplest 60 (λ u. IsInside (low_end low) (high_end high) u) u → IsSimplest 60 (λ v. IsBetween low high v) u
between-from low high u a b = passed_same 60 _ _ u (ends low high a b) (ends-back low high)
