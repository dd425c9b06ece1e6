-- The bits of a position's number.
use Rattle.std.proofs.Common.{◌≡◌, ◌≢◌, ℕ, true, ◌+◌, ◌*◌, ◌/◌, ◌%◌, ◌^◌, ◌<◌, ◌⊎◌, ◌↔◌, inl, inr, suc, zero, arith, refl, sym, ap, ◌∙◌, subst, bit_and, bit_or, count_ones, List, [], ◌∷◌, length, set, cond, eqb}
use Rattle.std.specs.Int.{bit_at, bit_not, w64}
use Rattle.std.specs.List.{count_by}
use Rattle.std.proofs.lemmas.Bool.{cases_eq, cases_lt}
use Rattle.std.proofs.lemmas.List.{get_or_past, get_or-set_same, get_or-set_other}
use Rattle.std.proofs.lemmas.List.Sums.{sum_by-cons}
use Rattle.std.proofs.lemmas.Nat.{ones_cat}
use Rattle.std.proofs.lemmas.Nat.Bits.{bit_at-lt, bit_at_and, bit_at_or, bit_at_not, bit_at-zero, bit_at-suc, bit_at_above, bit_at-pow_same, bit_at-pow_other, bit_at_cat_low, same_from_bits}
use Rattle.go_grid.specs.declared.grid.Cell.{Cell}
use Rattle.go_grid.specs.declared.grid.Cell.TheVariants.{Empty, Black, White}
use Rattle.go_grid.specs.declared.grid.Colour.{Colour}
use Rattle.go_grid.specs.declared.grid.Colour.TheVariants as colour
use Rattle.go_grid.specs.Stones.{is_of}
use Rattle.local_play.specs.LocalPlay.{held_at, is_stone, Holds}
use Rattle.local_play.specs.Packed.{code, pack}
use Rattle.local_play.specs.inner.Packed.{cleared}
use Rattle.local_play.specs.Places.{HasBit}
use Rattle.local_play.proofs.PackLemmas.{pack_nil, pack_cons}
use Rattle.local_play.proofs.BitLemmas.{bit_cases}

-- two bits further up are the bits of a fourth
pub two_up : (n k : ℕ) → bit_at n (k + 2) ≡ bit_at (n / 4) k
two_up n k =
    let e : k + 2 ≡ suc (suc k) = omega arith in
    let quarter : n / 2 / 2 ≡ n / 4 = omega arith in
    ap (bit_at n) e ∙ bit_at-suc n (suc k) ∙ bit_at-suc (n / 2) k ∙ ap (λ m. bit_at m k) quarter

next_place : (n i d : ℕ) → bit_at n (2 * suc i + d) ≡ bit_at (n / 4) (2 * i + d)
next_place n i d = let e : 2 * suc i + d ≡ (2 * i + d) + 2 = omega arith in ap (bit_at n) e ∙ two_up n (2 * i + d)

pub pack_bit : (cells : List Cell) (i d : ℕ) → d < 2 → bit_at (pack cells) (2 * i + d) ≡ bit_at (code (held_at cells i)) d
pack_bit [] i d lt =
    ap (λ n. bit_at n (2 * i + d)) pack_nil ∙ bit_at-zero (2 * i + d)
    ∙ sym (ap (λ x. bit_at (code x) d) (get_or_past [] i Empty (omega arith)) ∙ bit_at-zero d)
pack_bit (c ∷ cs) zero d lt =
    let e : pack (c ∷ cs) ≡ pack cs * 2 ^ 2 + code c = omega (arith, pack_cons c cs) in
    let at : 2 * 0 + d ≡ d = omega arith in
    ap (bit_at (pack (c ∷ cs))) at ∙ ap (λ n. bit_at n d) e ∙ bit_at_cat_low (pack cs) 2 (code c) d lt
pack_bit (c ∷ cs) (suc i) d lt =
    let e : pack (c ∷ cs) / 4 ≡ pack cs = omega (arith, pack_cons c cs, small c) in
    next_place (pack (c ∷ cs)) i d ∙ ap (λ n. bit_at n (2 * i + d)) e ∙ pack_bit cs i d lt
  where
    small : (x : Cell) → code x < 4
    small Empty = omega arith
    small Black = omega arith
    small White = omega arith

pub pack_from_bits : (n : ℕ) (cells : List Cell)
    → ((i d : ℕ) → d < 2 → bit_at n (2 * i + d) ≡ bit_at (code (held_at cells i)) d) → n ≡ pack cells
pack_from_bits n cells same = same_from_bits n (pack cells) (λ j.
    let whole : 2 * (j / 2) + j % 2 ≡ j = omega arith in
    subst (λ k. bit_at n k ≡ bit_at (pack cells) k) whole
    (same (j / 2) (j % 2) (omega arith) ∙ sym (pack_bit cells (j / 2) (j % 2) (omega arith))))

-- which stone stands there
black_bit : (x : Cell) → (bit_at (code x) 0 ≡ 1) ↔ (x ≡ Black)
black_bit Empty = (λ e. absurd (omega (arith, e)), λ e. cc)
black_bit Black = (λ _. refl, λ _. refl)
black_bit White = (λ e. absurd (omega (arith, e)), λ e. cc)

white_bit : (x : Cell) → (bit_at (code x) 1 ≡ 1) ↔ (x ≡ White)
white_bit Empty = (λ e. absurd (omega (arith, e)), λ e. cc)
white_bit Black = (λ e. absurd (omega (arith, e)), λ e. cc)
white_bit White = (λ _. refl, λ _. refl)

pub black_stones : (n : ℕ) (cells : List Cell) (q : ℕ) → n ≡ pack cells → HasBit n q ↔ (held_at cells q ≡ Black)
unfolding HasBit
black_stones n cells q e =
    let up : 2 * q ≡ 2 * q + 0 = omega arith in
    let at : bit_at n (2 * q) ≡ bit_at (code (held_at cells q)) 0 = ap (bit_at n) up ∙ rw e (pack_bit cells q 0 (omega arith)) in (
      λ h. (black_bit (held_at cells q)).0 (sym at ∙ h),
      λ h. at ∙ (black_bit (held_at cells q)).1 h,
    )

pub white_stones : (n : ℕ) (cells : List Cell) (q : ℕ) → n ≡ pack cells → HasBit (n / 2) q ↔ (held_at cells q ≡ White)
unfolding HasBit
white_stones n cells q e =
    let up : 2 * q + 1 ≡ suc (2 * q) = omega arith in
    let at : bit_at (n / 2) (2 * q) ≡ bit_at (code (held_at cells q)) 1 =
    sym (bit_at-suc n (2 * q)) ∙ ap (bit_at n) (sym up) ∙ rw e (pack_bit cells q 1 (omega arith)) in (
      λ h. (white_bit (held_at cells q)).0 (sym at ∙ h),
      λ h. at ∙ (white_bit (held_at cells q)).1 h,
    )

-- a bit more is a stone more
pub stone_bit : (n : ℕ) (cells : List Cell) (p e : ℕ) (s : Cell) → n ≡ pack cells → p < length cells → held_at cells p ≡ Empty
    → e < 2 → code s ≡ 2 ^ e → bit_or n (2 ^ (2 * p + e)) ≡ pack (set cells p s)
stone_bit n cells p e s is lt empty small one = pack_from_bits _ (set cells p s) (λ i d less.
    let old : bit_at n (2 * i + d) ≡ bit_at (code (held_at cells i)) d = rw is (pack_bit cells i d less) in
    let both = bit_at_or n (2 ^ (2 * p + e)) (2 * i + d) in
    elim (cases_eq i p) [
      | inl same ↦
          let none : bit_at n (2 * i + d) ≡ 0 = old ∙ ap (λ x. bit_at (code x) d) (ap (held_at cells) same ∙ empty) ∙ bit_at-zero d in
          let here : code (held_at (set cells p s) i) ≡ 2 ^ e =
          ap code (ap (held_at (set cells p s)) same ∙ get_or-set_same cells p s Empty lt) ∙ one in
          let new : bit_at (2 ^ (2 * p + e)) (2 * i + d) ≡ bit_at (2 ^ e) d = power i d same in
          let want : bit_at (code (held_at (set cells p s) i)) d ≡ bit_at (2 ^ e) d = ap (λ m. bit_at m d) here in
          omega (arith, both, none, new, want)
      | inr ne ↦
          let none : bit_at (2 ^ (2 * p + e)) (2 * i + d) ≡ 0 = bit_at-pow_other (2 * p + e) (2 * i + d) (λ x. ne (omega (arith, x))) in
          let kept : held_at (set cells p s) i ≡ held_at cells i = rw get_or-set_other refl in
          let want : bit_at (code (held_at (set cells p s) i)) d ≡ bit_at (code (held_at cells i)) d = ap (λ x. bit_at (code x) d) kept in
          omega (arith, both, none, old, want)
    ])
  where
    power : (i d : ℕ) → i ≡ p → bit_at (2 ^ (2 * p + e)) (2 * i + d) ≡ bit_at (2 ^ e) d
    power i d same = elim (cases_eq d e) [
      | inl k ↦
          let at : 2 * i + d ≡ 2 * p + e = omega arith in
          ap (bit_at (2 ^ (2 * p + e))) at ∙ bit_at-pow_same (2 * p + e) ∙ sym (ap (bit_at (2 ^ e)) k ∙ bit_at-pow_same e)
      | inr ne ↦
          bit_at-pow_other (2 * p + e) (2 * i + d) (λ x. ne (omega (arith, x))) ∙ sym (bit_at-pow_other e d ne)
    ]

-- the set without its first place
pub has_first : (g : ℕ) → HasBit g 0 ↔ (g % 2 ≡ 1)
unfolding HasBit
has_first g = (λ h. omega (arith, h), λ h. omega (arith, h))

pub has_next : (g i : ℕ) → HasBit g (suc i) ↔ HasBit (g / 4) i
unfolding HasBit
has_next g i =
    let up : 2 * suc i ≡ 2 * i + 2 = omega arith in
    let e : bit_at g (2 * suc i) ≡ bit_at (g / 4) (2 * i) = ap (bit_at g) up ∙ two_up g (2 * i) in
    (λ h. sym e ∙ h, λ h. e ∙ h)

cleared_nil : (g : ℕ) → cleared g [] ≡ []
unfolding cleared
cleared_nil g = refl

cleared_cons : (g : ℕ) (c : Cell) (cs : List Cell) → cleared g (c ∷ cs) ≡ cond (eqb (g % 2) 1) Empty c ∷ cleared (g / 4) cs
unfolding cleared
cleared_cons g c cs = refl

cleared_on : (g : ℕ) (c : Cell) (cs : List Cell) → g % 2 ≡ 1 → cleared g (c ∷ cs) ≡ Empty ∷ cleared (g / 4) cs
cleared_on g c cs e = cleared_cons g c cs ∙ ap (λ n. cond (eqb n 1) Empty c ∷ cleared (g / 4) cs) e

cleared_off : (g : ℕ) (c : Cell) (cs : List Cell) → g % 2 ≡ 0 → cleared g (c ∷ cs) ≡ c ∷ cleared (g / 4) cs
cleared_off g c cs e = cleared_cons g c cs ∙ ap (λ n. cond (eqb n 1) Empty c ∷ cleared (g / 4) cs) e

parity : (g : ℕ) → (g % 2 ≡ 1) ⊎ (g % 2 ≡ 0)
parity g = elim (cases_eq (g % 2) 1) [ inl e ↦ inl e | inr ne ↦ inr (omega arith) ]

pub length-cleared : (g : ℕ) (cells : List Cell) → length (cleared g cells) ≡ length cells
length-cleared g [] = ap length (cleared_nil g)
length-cleared g (c ∷ cs) = ap length (cleared_cons g c cs) ∙ ap suc (length-cleared (g / 4) cs)

pub cleared_gone : (g : ℕ) (cells : List Cell) (i : ℕ) → HasBit g i → held_at (cleared g cells) i ≡ Empty
cleared_gone g [] i h = ap (λ l. held_at l i) (cleared_nil g) ∙ get_or_past [] i Empty (omega arith)
cleared_gone g (c ∷ cs) zero h = ap (λ l. held_at l 0) (cleared_on g c cs ((has_first g).0 h))
cleared_gone g (c ∷ cs) (suc i) h = ap (λ l. held_at l (suc i)) (cleared_cons g c cs) ∙ cleared_gone (g / 4) cs i ((has_next g i).0 h)

pub cleared_kept : (g : ℕ) (cells : List Cell) (i : ℕ) → ¬ HasBit g i → held_at (cleared g cells) i ≡ held_at cells i
cleared_kept g [] i h = ap (λ l. held_at l i) (cleared_nil g)
cleared_kept g (c ∷ cs) zero h = elim (parity g) [
  | inl on ↦ absurd (h ((has_first g).1 on))
  | inr off ↦ ap (λ l. held_at l 0) (cleared_off g c cs off)
]
cleared_kept g (c ∷ cs) (suc i) h =
    ap (λ l. held_at l (suc i)) (cleared_cons g c cs) ∙ cleared_kept (g / 4) cs i (λ on. h ((has_next g i).1 on))

-- the bits that go with the places of a set: those at `e` of the two
pub record IsMask (g m e : ℕ) : Type 0 where
  pub here : (i : ℕ) → bit_at m (2 * i + e) ≡ bit_at g (2 * i)
  pub between : (i d : ℕ) → d < 2 → d ≢ e → bit_at m (2 * i + d) ≡ 0

-- bits fewer are stones fewer
pub cleared_bits : (n : ℕ) (cells : List Cell) (g m e : ℕ) (s : Cell) → n ≡ pack cells → n < 2 ^ 64 → m < 2 ^ 64 → e < 2
    → code s ≡ 2 ^ e → IsMask g m e → ((q : ℕ) → HasBit g q → held_at cells q ≡ s) → bit_and n (bit_not w64 m) ≡ pack (cleared g cells)
unfolding HasBit
cleared_bits n cells g m e s is fits fits' small one mask stones = pack_from_bits _ (cleared g cells) (λ i d less.
    let old : bit_at n (2 * i + d) ≡ bit_at (code (held_at cells i)) d = rw is (pack_bit cells i d less) in
    let both = bit_at_and n (bit_not w64 m) (2 * i + d) in
    elim (cases_lt i 32) [
      | inl lt ↦
          let other = bit_at_not w64 m (2 * i + d) fits' (omega arith) in
          elim (bit_cases g (2 * i)) [
            | inl on ↦
                let none : bit_at (code (held_at (cleared g cells) i)) d ≡ 0 =
                ap (λ x. bit_at (code x) d) (cleared_gone g cells i on) ∙ bit_at-zero d in
                let stone : bit_at n (2 * i + d) ≡ bit_at (2 ^ e) d = old ∙ ap (λ x. bit_at x d) (ap code (stones i on) ∙ one) in
                elim (cases_eq d e) [
                  | inl k ↦
                      let set : bit_at m (2 * i + d) ≡ 1 = ap (λ x. bit_at m (2 * i + x)) k ∙ mask.here i ∙ on in
                      omega (arith, both, other, set, none)
                  | inr ne ↦
                      let zero' : bit_at (2 ^ e) d ≡ 0 = bit_at-pow_other e d ne in
                      omega (arith, both, stone, zero', none)
                ]
            | inr off ↦
                let kept : bit_at (code (held_at (cleared g cells) i)) d ≡ bit_at (code (held_at cells i)) d =
                ap (λ x. bit_at (code x) d) (cleared_kept g cells i (λ on. absurd (omega (arith, on, off)))) in
                let unset : bit_at m (2 * i + d) ≡ 0 = elim (cases_eq d e) [
                  | inl k ↦ ap (λ x. bit_at m (2 * i + x)) k ∙ mask.here i ∙ off
                  | inr ne ↦ mask.between i d less ne
                ] in
                let small' = bit_at-lt n (2 * i + d) in
                omega (arith, both, other, unset, kept, old, small')
          ]
      | inr le ↦
          let none : bit_at n (2 * i + d) ≡ 0 = bit_at_above n 64 (2 * i + d) fits (omega arith) in
          let off : bit_at g (2 * i) ≡ 0 = sym (mask.here i) ∙ bit_at_above m 64 (2 * i + e) fits' (omega arith) in
          let kept : bit_at (code (held_at (cleared g cells) i)) d ≡ bit_at (code (held_at cells i)) d =
          ap (λ x. bit_at (code x) d) (cleared_kept g cells i (λ on. absurd (omega (arith, on, off)))) in
          omega (arith, both, none, kept, old)
    ])

count_cons : (c : Cell) (cs : List Cell) → count_by is_stone (c ∷ cs) ≡ cond (is_stone c) 1 0 + count_by is_stone cs
count_cons c cs = sum_by-cons (λ x. cond (is_stone x) 1 0) c cs

-- with no bits between, the first place is what is left by four
first_of_four : (a : ℕ) → bit_at a 1 ≡ 0 → count_ones a ≡ count_ones (a / 4) + a % 2
unfolding lib.Count.ones
first_of_four a none =
    let whole : a / 4 * 2 ^ 2 + a % 2 ≡ a = omega (arith, none) in
    ap count_ones (sym whole) ∙ ones_cat 2 (a / 4) (a % 2) (omega arith) ∙ ap (λ n. count_ones (a / 4) + n) (one (a % 2) (omega arith))
  where
    one : (r : ℕ) → r < 2 → count_ones r ≡ r
    one zero lt = refl
    one (suc zero) lt = refl
    one (suc (suc r)) lt = absurd (omega arith)

no_bits : (a : ℕ) → ((i : ℕ) → bit_at a (2 * i) ≡ 0) → ((i : ℕ) → bit_at a (2 * i + 1) ≡ 0) → a ≡ 0
no_bits a even odd = same_from_bits a 0 (λ j.
    let whole : 2 * (j / 2) + j % 2 ≡ j = omega arith in
    elim (parity j) [
      | inl one ↦ let at : 2 * (j / 2) + 1 ≡ j = omega arith in sym (ap (bit_at a) at) ∙ odd (j / 2) ∙ sym (bit_at-zero j)
      | inr none ↦ let at : 2 * (j / 2) ≡ j = omega arith in sym (ap (bit_at a) at) ∙ even (j / 2) ∙ sym (bit_at-zero j)
    ])

fourth_even : (g i : ℕ) → bit_at (g / 4) (2 * i) ≡ bit_at g (2 * suc i)
fourth_even g i = let up : 2 * suc i ≡ 2 * i + 2 = omega arith in sym (ap (bit_at g) up ∙ two_up g (2 * i))

fourth_odd : (g i : ℕ) → bit_at (g / 4) (2 * i + 1) ≡ bit_at g (2 * suc i + 1)
fourth_odd g i = sym (next_place g i 1)

-- as many stones fewer as the set has places
pub cleared_count : (cells : List Cell) (g a : ℕ) → ((i : ℕ) → bit_at a (2 * i) ≡ bit_at g (2 * i)) → ((i : ℕ) → bit_at a (2 * i + 1) ≡ 0)
    → ((q : ℕ) → HasBit g q → is_stone (held_at cells q) ≡ true) → count_by is_stone (cleared g cells) + count_ones a ≡ count_by is_stone cells
unfolding HasBit lib.Count.ones
cleared_count [] g a same between stones =
    let none : a ≡ 0 = no_bits a (λ i. same i ∙ elim (bit_cases g (2 * i)) [
      | inl on ↦ absurd (no_stone i (stones i on))
      | inr off ↦ off
    ]) between in
    let ones : count_ones a ≡ 0 = ap count_ones none in
    omega (arith, ones, ap (count_by is_stone) (cleared_nil g))
  where
    no_stone : (i : ℕ) → is_stone (held_at [] i) ≡ true → ⊥
    no_stone i h = let past = get_or_past [] i Empty (omega arith) in let e = sym (ap is_stone past) ∙ h in cc
cleared_count (c ∷ cs) g a same between stones =
    let rest = cleared_count cs (g / 4) (a / 4)
    (λ i. fourth_even a i ∙ same (suc i) ∙ sym (fourth_even g i)) (λ i. fourth_odd a i ∙ between (suc i))
    (λ q h. stones (suc q) (sym (fourth_even g q) ∙ h)) in
    let ones = first_of_four a (between 0) in
    let first : a % 2 ≡ g % 2 = omega (arith, same 0) in
    elim (parity g) [
      | inl on ↦
          let stood : is_stone c ≡ true = stones 0 (omega (arith, on)) in
          let one : cond {A = ℕ} (is_stone c) 1 0 ≡ 1 = ap (λ b. cond b 1 0) stood in
          omega (arith, rest, ones, first, on, one, count_cons c cs, ap (count_by is_stone) (cleared_on g c cs on), count_cons Empty (cleared (g / 4) cs))
      | inr off ↦
          omega (arith, rest, ones, first, off, count_cons c cs, ap (count_by is_stone) (cleared_off g c cs off), count_cons c (cleared (g / 4) cs))
    ]

-- how many stones of a colour a list has with one cell more
count_of_cons : (player : Colour) (c : Cell) (cs : List Cell) → count_by (is_of player) (c ∷ cs) ≡ cond (is_of player c) 1 0 + count_by (is_of player) cs
count_of_cons player c cs = sum_by-cons (λ x. cond (is_of player x) 1 0) c cs

-- whether the first cell is the colour's stone, as a bit
first_stone : (player : Colour) (c : Cell) (cs : List Cell) (r : ℕ) → r < 2 → (r ≡ 1) ↔ Holds (c ∷ cs) player 0 → r ≡ cond (is_of player c) 1 0
first_stone colour.Black Empty cs r lt h = let no : r ≢ 1 = λ e. (let x = h.0 e in cc) in omega (arith, no, lt)
first_stone colour.Black Black cs r lt h = h.1 refl
first_stone colour.Black White cs r lt h = let no : r ≢ 1 = λ e. (let x = h.0 e in cc) in omega (arith, no, lt)
first_stone colour.White Empty cs r lt h = let no : r ≢ 1 = λ e. (let x = h.0 e in cc) in omega (arith, no, lt)
first_stone colour.White Black cs r lt h = let no : r ≢ 1 = λ e. (let x = h.0 e in cc) in omega (arith, no, lt)
first_stone colour.White White cs r lt h = h.1 refl

-- a set of the places of a colour's stones has as many places as there are such stones
pub stones_counted : (player : Colour) (cells : List Cell) (a : ℕ) → ((q : ℕ) → HasBit a q ↔ Holds cells player q)
    → ((p : ℕ) → bit_at a (2 * p + 1) ≡ 0) → count_ones a ≡ count_by (is_of player) cells
unfolding HasBit lib.Count.ones
stones_counted player [] a has between = ap count_ones (no_bits a (λ i. elim (bit_cases a (2 * i)) [
  | inl on ↦ absurd (nothing player i ((has i).0 on))
  | inr off ↦ off
]) between)
  where
    nothing : (player : Colour) (i : ℕ) → Holds [] player i → ⊥
    nothing colour.Black i h = let past = get_or_past [] i Empty (omega arith) in let e = sym past ∙ h in cc
    nothing colour.White i h = let past = get_or_past [] i Empty (omega arith) in let e = sym past ∙ h in cc
stones_counted player (c ∷ cs) a has between =
    let rest = stones_counted player cs (a / 4)
    (λ q. (λ on. (has (suc q)).0 ((has_next a q).1 on), λ held. (has_next a q).0 ((has (suc q)).1 held)))
    (λ p. fourth_odd a p ∙ between (suc p)) in
    let first = first_stone player c cs (a % 2) (omega arith)
    (λ e. (has 0).0 ((has_first a).1 e), λ held. (has_first a).0 ((has 0).1 held)) in
    omega (arith, rest, first_of_four a (between 0), first, count_of_cons player c cs)
