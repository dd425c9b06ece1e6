-- Sets of places.
use Rattle.std.proofs.Common.{◌≡◌, ◌≢◌, ℕ, ◌*◌, ◌%◌, ◌^◌, ◌<◌, ◌⊎◌, ◌↔◌, inl, inr, arith, sym, subst, bit_and, bit_or}
use Rattle.std.specs.Int.{bit_at, bit_not, w64}
use Rattle.std.proofs.lemmas.Bool.{cases_eq, cases_lt}
use Rattle.std.proofs.lemmas.Nat.{one_shl, le_or_l, and_le_l}
use Rattle.std.proofs.lemmas.Nat.Bits.{bit_at-lt, bit_at_and, bit_at_or, bit_at_not, bit_at-zero, bit_at_above, bit_at-pow_same, bit_at-pow_other}
use Rattle.local_play.specs.Places.{HasBit}

pub bit_cases : (n i : ℕ) → (bit_at n i ≡ 1) ⊎ (bit_at n i ≡ 0)
bit_cases n i = let small = bit_at-lt n i in elim (cases_eq (bit_at n i) 1) [ inl e ↦ inl e | inr ne ↦ inr (omega arith) ]

pub has_or_not : (set q : ℕ) → HasBit set q ⊎ ¬ HasBit set q
unfolding HasBit
has_or_not set q = elim (bit_cases set (2 * q)) [ inl e ↦ inl e | inr e ↦ inr (λ h. absurd (omega (arith, e, h))) ]

pub has_zero : (q : ℕ) → HasBit 0 q → ⊥
unfolding HasBit
has_zero q h = let e = bit_at-zero (2 * q) in absurd (omega (arith, e, h))

pub has_pow : (p q : ℕ) → HasBit (2 ^ (2 * p)) q ↔ (q ≡ p)
unfolding HasBit
has_pow p q = (
  λ h. elim (cases_eq q p) [
    | inl e ↦ e
    | inr ne ↦ let off = bit_at-pow_other (2 * p) (2 * q) (λ e. ne (omega (arith, e))) in absurd (omega (arith, h, off))
  ],
  λ e. rw e (bit_at-pow_same (2 * p)),
)

pub has_shifted : (p q : ℕ) → p < 32 → HasBit (1 * 2 ^ (2 * p) % 2 ^ 64) q ↔ (q ≡ p)
has_shifted p q lt = let e = one_shl (2 * p) 64 (omega arith) in rw e (has_pow p q)

pub has_union : (a b q : ℕ) → HasBit (bit_or a b) q ↔ (HasBit a q ⊎ HasBit b q)
unfolding HasBit
has_union a b q =
    let both = bit_at_or a b (2 * q) in
    let sa = bit_at-lt a (2 * q) in
    let sb = bit_at-lt b (2 * q) in (
      λ h. elim (bit_cases a (2 * q)) [ inl e ↦ inl e | inr e ↦ inr (omega (arith, both, h, e)) ],
      λ h. elim h [ inl e ↦ omega (arith, both, e, sb) | inr e ↦ omega (arith, both, e, sa) ],
    )

pub has_intersection : (a b q : ℕ) → HasBit (bit_and a b) q ↔ (HasBit a q × HasBit b q)
unfolding HasBit
has_intersection a b q =
    let both = bit_at_and a b (2 * q) in
    let sa = bit_at-lt a (2 * q) in
    let sb = bit_at-lt b (2 * q) in (
      λ h. (omega (arith, both, h, sa, sb), omega (arith, both, h, sa, sb)),
      λ h. omega (arith, both, h.0, h.1),
    )

pub has_small : (a q : ℕ) → a < 2 ^ 64 → HasBit a q → q < 32
unfolding HasBit
has_small a q fits h = elim (cases_lt q 32) [
  | inl lt ↦ lt
  | inr le ↦ let off = bit_at_above a 64 (2 * q) fits (omega arith) in absurd (omega (arith, off, h))
]

not_off : (b q : ℕ) → b < 2 ^ 64 → q < 32 → HasBit b q → HasBit (bit_not w64 b) q → ⊥
unfolding HasBit
not_off b q fb lt h n = let e = bit_at_not w64 b (2 * q) fb (omega arith) in omega (arith, e, h, n)

not_on : (b q : ℕ) → b < 2 ^ 64 → q < 32 → ¬ HasBit b q → HasBit (bit_not w64 b) q
unfolding HasBit
not_on b q fb lt none = elim (bit_cases b (2 * q)) [
  | inl h ↦ absurd (none h)
  | inr h ↦ let e = bit_at_not w64 b (2 * q) fb (omega arith) in omega (arith, e, h)
]

pub has_without : (a b q : ℕ) → a < 2 ^ 64 → b < 2 ^ 64 → HasBit (bit_and a (bit_not w64 b)) q ↔ (HasBit a q × ¬ HasBit b q)
has_without a b q fa fb = (
  λ h. let w = (has_intersection a (bit_not w64 b) q).0 h in (w.0, λ on. not_off b q fb (has_small a q fa w.0) on w.1),
  λ h. (has_intersection a (bit_not w64 b) q).1 (h.0, not_on b q fb (has_small a q fa h.0) h.1),
)

-- a set with a place more is a greater number, and one with a place fewer a smaller one
pub union_more : (a b q : ℕ) → HasBit b q → ¬ HasBit a q → a < bit_or a b
union_more a b q new none =
    let le = le_or_l a b in
    let apart : a ≢ bit_or a b = λ e. none (subst (λ n. HasBit n q) (sym e) ((has_union a b q).1 (inr new))) in
    omega (arith, le, apart)

pub without_less : (a b q : ℕ) → a < 2 ^ 64 → b < 2 ^ 64 → HasBit a q → HasBit b q → bit_and a (bit_not w64 b) < a
without_less a b q fa fb here gone =
    let le = and_le_l a (bit_not w64 b) in
    let apart : bit_and a (bit_not w64 b) ≢ a = λ e. ((has_without a b q fa fb).0 (subst (λ n. HasBit n q) (sym e) here)).1 gone in
    omega (arith, le, apart)
