-- The number of a position in base 3, folded from the one in base 4.
use Rattle.std.proofs.Common.{◌≡◌, ℕ, ◌+◌, ◌-◌, ◌*◌, ◌/◌, ◌%◌, ◌^◌, ◌<◌, ◌≤◌, suc, zero, arith, refl, sym, ap, ◌∙◌, subst, bit_and, List, [], ◌∷◌, length}
use Rattle.std.specs.Int.Bits.{and_zero_l}
use Rattle.std.proofs.lemmas.Nat.{pow_pos, pow-add, and_block, and_mask, div-mul-add, mod-mul-add, mul-add-lt, mod_below, div-add-mod'}
use Rattle.std.proofs.Math.Nat.{pow-le-pow_right}
use Rattle.go_grid.specs.declared.grid.Cell.{Cell}
use Rattle.local_play.specs.Packed.{code, pack}
use Rattle.local_play.proofs.PackLemmas.{code_small, pack_nil, pack_cons, pack_small}
use Rattle.local_graph.specs.inner.PlaceTable.{folded, threes}
use Rattle.local_graph.proofs.FiniteLemmas.{ternary}

-- the number with the digits, the lowest first
number : ℕ → List ℕ → ℕ
number base [] = 0
number base (d ∷ ds) = number base ds * base + d

-- digits in twos
twos : ℕ → List ℕ → List ℕ
twos base [] = []
twos base (d ∷ []) = d ∷ []
twos base (d ∷ e ∷ ds) = (e * base + d) ∷ twos base ds

-- the upper ones of digits in twos
uppers : List ℕ → List ℕ
uppers [] = []
uppers (d ∷ []) = []
uppers (d ∷ e ∷ ds) = e ∷ uppers ds

-- the lower half of each of so many groups of bits
lower_halves : ℕ → ℕ → ℕ
lower_halves bits zero = 0
lower_halves bits (suc groups) = lower_halves bits groups * 2 ^ (bits + bits) + (2 ^ bits - 1)

-- the digits are less than the base
abbrev AreDigits : ℕ → List ℕ → Type 0
AreDigits base [] = Unit {0}
AreDigits base (d ∷ ds) = (d < base) × AreDigits base ds

more_digits : (base larger : ℕ) (ds : List ℕ) → base ≤ larger → AreDigits base ds → AreDigits larger ds
more_digits base larger [] le are = tt
more_digits base larger (d ∷ ds) le are = (omega (arith, are.0, le), more_digits base larger ds le are.1)

regroup : (q b r e : ℕ) → (q * b + r) * b + e ≡ q * (b * b) + (r * b + e)
regroup q b r e = grind arith

-- shifted by half a group and without the upper halves, a number has the upper digits
upper_part : (bits groups : ℕ) (ds : List ℕ) → AreDigits (2 ^ bits) ds → length ds ≤ groups + groups
    → bit_and (number (2 ^ bits) ds / 2 ^ bits) (lower_halves bits groups) ≡ number (2 ^ (bits + bits)) (uppers ds)
unfolding number uppers lower_halves
upper_part bits groups [] are few =
    let same : 0 ≡ 0 * 2 ^ bits + 0 = omega arith in
    let none : 0 / 2 ^ bits ≡ 0 = ap (λ n. n / 2 ^ bits) same ∙ div-mul-add 0 (2 ^ bits) 0 (pow_pos bits) in
    ap (λ n. bit_and n (lower_halves bits groups)) none ∙ and_zero_l (lower_halves bits groups)
upper_part bits groups (d ∷ []) are few =
    ap (λ n. bit_and n (lower_halves bits groups)) (div-mul-add 0 (2 ^ bits) d are.0) ∙ and_zero_l (lower_halves bits groups)
upper_part bits zero (d ∷ e ∷ ds) are few = absurd (omega arith)
upper_part bits (suc groups) (d ∷ e ∷ ds) are few =
    let base = 2 ^ bits in
    let rest = number base ds in
    let low : ℕ = rest % base * base + e in
    let wide : 2 ^ (bits + bits) ≡ base * base = pow-add 2 bits bits in
    let small : rest % base < base = mod_below rest base (pow_pos bits) in
    let low_small : low < 2 ^ (bits + bits) = rw wide (mul-add-lt (rest % base) base e base small are.1.0) in
    let ones_small : base - 1 < 2 ^ (bits + bits) = rw wide (omega (arith, mul-add-lt 0 base (base - 1) base (pow_pos bits) (omega (arith, pow_pos bits)))) in
    let split : rest * base + e ≡ rest / base * 2 ^ (bits + bits) + low =
    ap (λ n. n * base + e) (sym (div-add-mod' rest base)) ∙ regroup (rest / base) base (rest % base) e ∙ ap (λ n. rest / base * n + low) (sym wide) in
    let again : bit_and (rest / base) (lower_halves bits groups) ≡ number (2 ^ (bits + bits)) (uppers ds) =
    upper_part bits groups ds are.1.1 (omega (arith, few)) in
    let lowest : bit_and low (base - 1) ≡ e = and_mask low bits ∙ mod-mul-add (rest % base) base e are.1.0 in
    ap (λ n. bit_and n (lower_halves bits groups * 2 ^ (bits + bits) + (base - 1))) (div-mul-add (rest * base + e) base d are.0 ∙ split)
    ∙ and_block (bits + bits) (rest / base) (lower_halves bits groups) low (base - 1) low_small ones_small
    ∙ ap (λ n. n * 2 ^ (bits + bits) + bit_and low (base - 1)) again
    ∙ ap (λ n. number (2 ^ (bits + bits)) (uppers ds) * 2 ^ (bits + bits) + n) lowest

-- in twos, with the upper digit counted less
less_each : (wide b c x d e joined upper whole : ℕ) → b ≡ c + x → joined + upper * x ≡ whole → wide ≡ b * b
    → (joined * wide + (e * c + d)) + (upper * wide + e) * x ≡ (whole * b + e) * b + d
less_each wide b c x d e joined upper whole eb ew wb =
    let there : (joined * wide + (e * c + d)) + (upper * wide + e) * x ≡ (joined + upper * x) * wide + (e * (c + x) + d) = grind arith in
    there ∙ ap (λ n. n * wide + (e * (c + x) + d)) ew ∙ ap (λ n. whole * wide + (e * n + d)) (sym eb)
    ∙ ap (λ n. whole * n + (e * b + d)) wb ∙ sym (regroup whole b e d)

counted_less : (bits c x : ℕ) (ds : List ℕ) → 2 ^ bits ≡ c + x
    → number (2 ^ (bits + bits)) (twos c ds) + number (2 ^ (bits + bits)) (uppers ds) * x ≡ number (2 ^ bits) ds
unfolding number uppers twos
counted_less bits c x [] e = omega arith
counted_less bits c x (d ∷ []) e = omega arith
counted_less bits c x (d ∷ f ∷ ds) e =
    less_each (2 ^ (bits + bits)) (2 ^ bits) c x d f _ _ _ e (counted_less bits c x ds e) (pow-add 2 bits bits)

-- digits in twos are digits of the base's square, with the same number
two_digits : (c : ℕ) (ds : List ℕ) → AreDigits c ds → AreDigits (c * c) (twos c ds)
unfolding twos
two_digits c [] are = tt
two_digits c (d ∷ []) are = (omega (arith, mul-add-lt 0 c d c (omega (arith, are.0)) are.0), tt)
two_digits c (d ∷ e ∷ ds) are = (mul-add-lt e c d c are.1.0 are.0, two_digits c ds are.1.1)

same_number : (c : ℕ) (ds : List ℕ) → number (c * c) (twos c ds) ≡ number c ds
unfolding number twos
same_number c [] = refl
same_number c (d ∷ []) = omega arith
same_number c (d ∷ e ∷ ds) = ap (λ n. n * (c * c) + (e * c + d)) (same_number c ds) ∙ sym (regroup (number c ds) c e d)

half_as_many : (c groups : ℕ) (ds : List ℕ) → length ds ≤ groups + groups → length (twos c ds) ≤ groups
unfolding twos
half_as_many c groups [] few = omega arith
half_as_many c zero (d ∷ []) few = absurd (omega arith)
half_as_many c (suc groups) (d ∷ []) few = omega arith
half_as_many c zero (d ∷ e ∷ ds) few = absurd (omega arith)
half_as_many c (suc groups) (d ∷ e ∷ ds) few = let less = half_as_many c groups ds (omega (arith, few)) in omega (arith, less)

-- one step of folding
fold_step : (bits groups c x mask n : ℕ) (ds : List ℕ) → AreDigits c ds → length ds ≤ groups + groups → 2 ^ bits ≡ c + x
    → mask ≡ lower_halves bits groups → n ≡ number (2 ^ bits) ds → n < 2 ^ 64
    → (folded n bits mask x ≡ number (2 ^ (bits + bits)) (twos c ds)) × (number (2 ^ (bits + bits)) (twos c ds) < 2 ^ 64)
fold_step bits groups c x mask n ds are few base em en small =
    let digits = more_digits c (2 ^ bits) ds (omega (arith, base)) are in
    let upper : bit_and (n / 2 ^ bits) mask ≡ number (2 ^ (bits + bits)) (uppers ds) = rw (em, en) (upper_part bits groups ds digits few) in
    let less : number (2 ^ (bits + bits)) (twos c ds) + bit_and (n / 2 ^ bits) mask * x ≡ n =
    ap (λ m. number (2 ^ (bits + bits)) (twos c ds) + m * x) upper ∙ counted_less bits c x ds base ∙ sym en in
    (folds _ _ _ less small, omega (arith, less, small))
  where
    folds : (joined n t : ℕ) → joined + t ≡ n → n < 2 ^ 64 → (n + (2 ^ 64 - t % 2 ^ 64)) % 2 ^ 64 ≡ joined
    folds joined n t e lt = omega arith

codes : List Cell → List ℕ
codes [] = []
codes (c ∷ cs) = code c ∷ codes cs

codes_digits : (cells : List Cell) → AreDigits 3 (codes cells)
unfolding codes
codes_digits [] = tt
codes_digits (c ∷ cs) = (code_small c, codes_digits cs)

codes_long : (cells : List Cell) → length (codes cells) ≡ length cells
unfolding codes
codes_long [] = refl
codes_long (c ∷ cs) = ap suc (codes_long cs)

pack_number : (cells : List Cell) → pack cells ≡ number 4 (codes cells)
unfolding codes number
pack_number [] = pack_nil
pack_number (c ∷ cs) = let again = pack_number cs in omega (arith, pack_cons c cs, again)

ternary_number : (cells : List Cell) → ternary cells ≡ number 3 (codes cells)
unfolding codes number ternary
ternary_number [] = refl
ternary_number (c ∷ cs) = let again = ternary_number cs in omega (arith, again)

alone : (base : ℕ) (ds : List ℕ) → length ds ≤ 1 → (other : ℕ) → number base ds ≡ number other ds
unfolding number
alone base [] few other = refl
alone base (d ∷ []) few other = omega arith
alone base (d ∷ e ∷ ds) few other = absurd (omega (arith, few))

lower_2 : 3689348814741910323 ≡ lower_halves 2 16
unfolding lower_halves
lower_2 = refl

lower_4 : 1085102592571150095 ≡ lower_halves 4 8
unfolding lower_halves
lower_4 = refl

lower_8 : 71777214294589695 ≡ lower_halves 8 4
unfolding lower_halves
lower_8 = refl

lower_16 : 281470681808895 ≡ lower_halves 16 2
unfolding lower_halves
lower_16 = refl

lower_32 : 4294967295 ≡ lower_halves 32 1
unfolding lower_halves
lower_32 = refl

pub threes_is : (cells : List Cell) → length cells ≤ 32 → threes (pack cells) ≡ ternary cells
unfolding threes
threes_is cells few =
    let ones = codes cells in
    let pairs = twos 3 ones in
    let fours = twos 9 pairs in
    let eights = twos 81 fours in
    let halves = twos 6561 eights in
    let small : pack cells < 2 ^ 64 = omega (arith, pack_small cells, pow-le-pow_right {n = 4} (omega arith) few) in
    let ones_few : length ones ≤ 16 + 16 = omega (arith, codes_long cells, few) in
    let one = fold_step 2 16 3 1 3689348814741910323 _ ones (codes_digits cells) ones_few refl lower_2 (pack_number cells) small in
    let pairs_are = two_digits 3 ones (codes_digits cells) in
    let pairs_few = half_as_many 3 16 ones ones_few in
    let two = fold_step 4 8 9 7 1085102592571150095 _ pairs pairs_are pairs_few refl lower_4 one.0 (subst (λ n. n < 2 ^ 64) (sym one.0) one.1) in
    let fours_are = two_digits 9 pairs pairs_are in
    let fours_few = half_as_many 9 8 pairs pairs_few in
    let three = fold_step 8 4 81 175 71777214294589695 _ fours fours_are fours_few refl lower_8 two.0 (subst (λ n. n < 2 ^ 64) (sym two.0) two.1) in
    let eights_are = two_digits 81 fours fours_are in
    let eights_few = half_as_many 81 4 fours fours_few in
    let four = fold_step 16 2 6561 58975 281470681808895 _ eights eights_are eights_few refl lower_16 three.0 (subst (λ n. n < 2 ^ 64) (sym three.0) three.1) in
    let halves_are = two_digits 6561 eights eights_are in
    let halves_few = half_as_many 6561 2 eights eights_few in
    let five = fold_step 32 1 43046721 4251920575 4294967295 _ halves halves_are halves_few refl lower_32 four.0 (subst (λ n. n < 2 ^ 64) (sym four.0) four.1) in
    let last_few = half_as_many 43046721 1 halves halves_few in
    five.0 ∙ alone _ (twos 43046721 halves) last_few (43046721 * 43046721) ∙ same_number 43046721 halves ∙ same_number 6561 eights ∙ same_number 81 fours
    ∙ same_number 9 pairs ∙ same_number 3 ones ∙ sym (ternary_number cells)

-- positions with one number in base 3 are the same
pub same_threes : (a b : List Cell) → ternary a ≡ ternary b → pack a ≡ pack b
unfolding ternary
same_threes [] [] e = refl
same_threes [] (d ∷ b) e =
    let again = same_threes [] b (omega (arith, e)) in
    omega (arith, again, pack_nil, pack_cons d b, e)
same_threes (c ∷ a) [] e =
    let again = same_threes a [] (omega (arith, e)) in
    omega (arith, again, pack_nil, pack_cons c a, e)
same_threes (c ∷ a) (d ∷ b) e =
    let small = code_small c in
    let small' = code_small d in
    let first : code c ≡ code d = omega arith in
    let again = same_threes a b (omega arith) in
    omega (arith, again, first, pack_cons c a, pack_cons d b)
