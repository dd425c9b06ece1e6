-- What is asked of sets of places.
use Rattle.std.proofs.Common.{◌≡◌, ◌≢◌, ℕ, ◌+◌, ◌*◌, ◌/◌, ◌%◌, ◌^◌, ◌<◌, ◌↔◌, inl, inr, suc, zero, arith, refl, sym, ap, ◌∙◌, subst, bit_and, bit_or, List, length, replicate, Some, add-one}
use Rattle.std.proofs.Math.Nat.{pow-suc}
use Rattle.std.specs.Int.{bit_at, bit_not, w64, trailing_zeros}
use Rattle.std.proofs.lemmas.Bool.{cases_eq, cases_lt}
use Rattle.std.proofs.lemmas.List.{get_or_past, get_or-replicate, length-replicate}
use Rattle.std.proofs.lemmas.Nat.{one_shl, shl_whole}
use Rattle.std.proofs.lemmas.Nat.Bits.{bit_at_and, bit_at-suc, bit_at-trailing_zeros, bit_at_lowest}
use Rattle.go_grid.specs.declared.grid.Cell.{Cell}
use Rattle.go_grid.specs.declared.grid.Cell.TheVariants as cell
use Rattle.go_grid.specs.declared.grid.Colour.{Colour}
use Rattle.go_grid.specs.declared.grid.Colour.TheVariants as colour
use Rattle.go_grid.specs.Board.{stone}
use Rattle.local_play.specs.LocalPlay.{held_at, Holds, with_stone}
use Rattle.local_play.specs.Packed.{code, pack}
use Rattle.local_play.specs.inner.Packed.{cleared}
use Rattle.local_play.specs.declared.places.Places.{Places}
use Rattle.local_play.specs.Places.{HasBit, Has}
use Rattle.local_play.specs.inner.Places.{IsAlone, IsFirst, HasTwo}
use Rattle.local_play.proofs.BitLemmas.{bit_cases, has_zero, has_intersection, has_small}
use Rattle.local_play.proofs.PackBitLemmas.{pack_bit, stone_bit, cleared_bits}

-- the bits of all places are those of a position full of black stones
all_black : 6148914691236517205 ≡ pack (replicate 32 cell.Black)
unfolding pack
all_black = refl

all_even : (p : ℕ) → p < 32 → bit_at 6148914691236517205 (2 * p) ≡ 1
all_even p lt =
    let up : 2 * p ≡ 2 * p + 0 = omega arith in
    ap (bit_at 6148914691236517205) up ∙ ap (λ n. bit_at n (2 * p + 0)) all_black ∙ pack_bit (replicate 32 cell.Black) p 0 (omega arith)
    ∙ ap (λ x. bit_at (code x) 0) (get_or-replicate 32 p cell.Black cell.Empty lt)

all_odd : (p : ℕ) → bit_at 6148914691236517205 (2 * p + 1) ≡ 0
all_odd p =
    ap (λ n. bit_at n (2 * p + 1)) all_black ∙ pack_bit (replicate 32 cell.Black) p 1 (omega arith) ∙ elim (cases_lt p 32) [
      | inl lt ↦ ap (λ x. bit_at (code x) 1) (get_or-replicate 32 p cell.Black cell.Empty lt)
      | inr le ↦ ap (λ x. bit_at (code x) 1) (get_or_past (replicate 32 cell.Black) p cell.Empty (omega (arith, length-replicate 32 cell.Black)))
    ]

full : (p : ℕ) → p < 32 → HasBit 6148914691236517205 p
unfolding HasBit
full p lt = all_even p lt

pub is_alone : (set : Places) → set.0 < 2 ^ 64 → IsAlone set (bit_and set.0 6148914691236517205)
is_alone set fits = record {
  same = λ p. (
    λ h. ((has_intersection set.0 6148914691236517205 p).0 h).0,
    λ h. (has_intersection set.0 6148914691236517205 p).1 (h, full p (has_small set.0 p fits h)),
  );
  between = λ p.
      let both = bit_at_and set.0 6148914691236517205 (2 * p + 1) in
      let none = all_odd p in
      omega (arith, both, none);
}

pub no_first : (set : Places) (n : ℕ) → IsAlone set n → n ≡ 0 → (q : ℕ) → ¬ Has set q
no_first set n alone none q h = has_zero q (subst (λ m. HasBit m q) none ((alone.same q).1 h))

pub first_is : (set : Places) (n : ℕ) → IsAlone set n → n ≢ 0 → n < 2 ^ 64 → IsFirst set (Some (trailing_zeros w64 n / 2))
unfolding HasBit
first_is set n alone some fits =
    let w = bit_at-trailing_zeros w64 n (omega (arith, some)) fits in
    let t = trailing_zeros w64 n in
    let even : 2 * (t / 2) ≡ t = elim (cases_eq (t % 2) 1) as (λ _. 2 * (t / 2) ≡ t) [
      | inl odd ↦
          let at : 2 * (t / 2) + 1 ≡ t = omega arith in
          let none : bit_at n t ≡ 0 = sym (ap (bit_at n) at) ∙ alone.between (t / 2) in
          absurd (omega (arith, none, w.1))
      | inr ne ↦ omega arith
    ] in (
      omega (arith, w.0),
      (alone.same (t / 2)).0 (ap (bit_at n) even ∙ w.1),
      λ q lt h.
          let none = w.2 (2 * q) (omega (arith, even, lt)) in
          let set' : bit_at n (2 * q) ≡ 1 = (alone.same q).1 h in
          absurd (omega (arith, none, set')),
    )

pub are_two : (set one rest : Places) (p q : ℕ) → ((q : ℕ) → Has one q ↔ (q ≡ p)) → ((q : ℕ) → Has rest q ↔ (Has set q × ¬ Has one q))
    → Has set p → Has rest q → HasTwo set
are_two set one rest p q is_one is_rest first second = record {
  one = p;
  other = q;
  apart = λ e. ((is_rest q).0 second).1 ((is_one q).1 (sym e));
  has_one = first;
  has_other = ((is_rest q).0 second).0;
}

-- the next position's number
pub black_added : (n : ℕ) (cells : List Cell) (p : ℕ) (c : Colour) → c ≡ colour.Black → n ≡ pack cells → p < 32 → p < length cells
    → held_at cells p ≡ cell.Empty → bit_or n (1 * 2 ^ (2 * p) % 2 ^ 64) ≡ pack (with_stone cells p c)
black_added n cells p c e is few lt empty =
    let whole : 1 * 2 ^ (2 * p) % 2 ^ 64 ≡ 2 ^ (2 * p + 0) = one_shl (2 * p) 64 (omega arith) ∙ ap (λ k. 2 ^ k) (zero_more (2 * p)) in
    ap (bit_or n) whole ∙ subst (λ x. bit_or n (2 ^ (2 * p + 0)) ≡ pack (with_stone cells p x)) (sym e)
    (stone_bit n cells p 0 cell.Black is lt empty (omega arith) refl)
  where
    zero_more : (k : ℕ) → k ≡ k + 0
    zero_more k = omega arith

pub white_added : (n : ℕ) (cells : List Cell) (p : ℕ) (c : Colour) → c ≡ colour.White → n ≡ pack cells → p < 32 → p < length cells
    → held_at cells p ≡ cell.Empty → bit_or n (2 * 2 ^ (2 * p) % 2 ^ 64) ≡ pack (with_stone cells p c)
white_added n cells p c e is few lt empty =
    let whole : 2 * 2 ^ (2 * p) % 2 ^ 64 ≡ 2 ^ (2 * p + 1) = shl_whole 2 2 (2 * p) 64 (omega arith) (omega arith) ∙ twice (2 * p) in
    ap (bit_or n) whole ∙ subst (λ x. bit_or n (2 ^ (2 * p + 1)) ≡ pack (with_stone cells p x)) (sym e)
    (stone_bit n cells p 1 cell.White is lt empty (omega arith) refl)
  where
    twice : (k : ℕ) → 2 * 2 ^ k ≡ 2 ^ (k + 1)
    twice k = rw (add-one, pow-suc) (omega arith)

pub alone_bit : (set : Places) (a : ℕ) → IsAlone set a → (i : ℕ) → bit_at a (2 * i) ≡ bit_at set.0 (2 * i)
unfolding HasBit
alone_bit set a alone i = elim (bit_cases a (2 * i)) [
  | inl on ↦ on ∙ sym ((alone.same i).0 on)
  | inr off ↦ elim (bit_cases set.0 (2 * i)) [
    | inl on ↦ let on' = (alone.same i).1 on in absurd (omega (arith, off, on'))
    | inr off' ↦ off ∙ sym off'
  ]
]

pub black_gone : (n : ℕ) (cells : List Cell) (gone : Places) (a : ℕ) (c : Colour) → c ≡ colour.Black → n ≡ pack cells → n < 2 ^ 64
    → IsAlone gone a → a < 2 ^ 63 → ((q : ℕ) → Has gone q → Holds cells c q) → bit_and n (bit_not w64 a) ≡ pack (cleared gone.0 cells)
black_gone n cells gone a c e is fits alone small stones =
    cleared_bits n cells gone.0 a 0 cell.Black is fits (omega (arith, small)) (omega arith) refl record {
      here = λ i. let at : 2 * i + 0 ≡ 2 * i = omega arith in ap (bit_at a) at ∙ alone_bit gone a alone i;
      between = λ i d less ne. let at : 2 * i + d ≡ 2 * i + 1 = omega arith in ap (bit_at a) at ∙ alone.between i;
    } (λ q h. stones q h ∙ ap stone e)

pub white_gone : (n : ℕ) (cells : List Cell) (gone : Places) (a : ℕ) (c : Colour) → c ≡ colour.White → n ≡ pack cells → n < 2 ^ 64
    → IsAlone gone a → a < 2 ^ 63 → ((q : ℕ) → Has gone q → Holds cells c q)
    → bit_and n (bit_not w64 (a * 2 % 2 ^ 64)) ≡ pack (cleared gone.0 cells)
white_gone n cells gone a c e is fits alone small stones =
    let whole : a * 2 % 2 ^ 64 ≡ a * 2 = omega (arith, small) in
    ap (λ m. bit_and n (bit_not w64 m)) whole
    ∙ cleared_bits n cells gone.0 (a * 2) 1 cell.White is fits (omega (arith, small)) (omega arith) refl record {
      here = λ i. let at : 2 * i + 1 ≡ suc (2 * i) = omega arith in ap (bit_at (a * 2)) at ∙ up (2 * i) ∙ alone_bit gone a alone i;
      between = λ i d less ne. let at : 2 * i + d ≡ 2 * i = omega arith in ap (bit_at (a * 2)) at ∙ even i;
    } (λ q h. stones q h ∙ ap stone e)
  where
    up : (k : ℕ) → bit_at (a * 2) (suc k) ≡ bit_at a k
    up k = let half : a * 2 / 2 ≡ a = omega arith in bit_at-suc (a * 2) k ∙ ap (λ m. bit_at m k) half

    twice : (b : ℕ) → b * 2 % 2 ≡ 0
    twice b = omega arith

    even : (i : ℕ) → bit_at (a * 2) (2 * i) ≡ 0
    even zero = bit_at_lowest (a * 2) ∙ twice a
    even (suc i) = let at : 2 * suc i ≡ suc (2 * i + 1) = omega arith in ap (bit_at (a * 2)) at ∙ up (2 * i + 1) ∙ alone.between i
