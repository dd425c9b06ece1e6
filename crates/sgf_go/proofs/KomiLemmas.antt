-- What the reading of a komi gives is by the grammar.
use Rattle.std.proofs.Common.{ℕ, ◌+◌, ◌*◌, ◌≤◌, ◌≡◌, ◌⊎◌, List, [], ◌∷◌, ◌++◌, length, arith, refl, inl, inr, sym, ◌∙◌, ap, ap₂, subst, Bool, true, false, ◌==◌, Some, None, if◌then◌else◌, ℤ, pos}
use Rattle.std.specs.Prelude.{Option, nat_le, neg_ℤ}
use Rattle.std.specs.Option.{option_map}
use Rattle.std.specs.Char.{is_ascii_digit, digit_value}
use Rattle.std.specs.Str.Parse.{digits_value_after}
use Rattle.sgf_go.specs.Komi.{IsKomi, unsigned, positive, negative, IsHalves, halves, IsKomiFraction, nothing, zeros, half, AreDigits, AreZeros, digit_0, digit_5}
use Rattle.std.specs.Float.Numeral.{dot, minus, plus}
use Rattle.sgf_go.specs.declared.komi.TheConstants.{MOST_KOMI}
use Rattle.sgf_go.specs.inner.Scan.{all_zeros, fraction, scan, scan_signed}

some-is : {A : Type 0} {x y : A} → Some x ≡ Some y → x ≡ y
some-is {A} {x} {y} e = ap (λ o. elim o as (λ _. A) [ None ↦ x | Some z ↦ z ]) e

none-some : {A : Type 0} {x : A} → None ≡ Some x → ⊥
none-some {A} {x} e = cc

zeros_out : (bs : List ℕ) → all_zeros bs ≡ true → AreZeros bs
unfolding all_zeros
zeros_out [] e = tt
zeros_out (b ∷ bs) e = by_test (λ f. zeros_out bs f) (b == digit_0) refl e
  where
    by_test : (all_zeros bs ≡ true → AreZeros bs) → (z : Bool) → (b == digit_0) ≡ z → (if z then all_zeros bs else false) ≡ true → AreZeros (b ∷ bs)
    by_test go true h f = let same : b ≡ digit_0 = grind (arith, h) in (same, go f)
    by_test go false h f = cc

zeros_in : (bs : List ℕ) → AreZeros bs → all_zeros bs ≡ true
unfolding all_zeros
zeros_in [] a = refl
zeros_in (b ∷ bs) a = ap (λ x. all_zeros (x ∷ bs)) a.0 ∙ zeros_in bs a.1

-- a digit has been read, or one is to come
abbrev HasDigit : Bool → ℕ → Type 0
HasDigit some n = (some ≡ true) ⊎ (1 ≤ n)

fraction_out : (some : Bool) (bs : List ℕ) (m : ℕ) → fraction some bs ≡ Some m → (digits : ℕ) × IsKomiFraction (dot ∷ bs) digits m × HasDigit some digits
fraction_out true [] m e = (0, subst (IsKomiFraction (dot ∷ []) 0) (some-is e) (zeros [] tt), inl refl)
fraction_out false [] m e = absurd (none-some e)
fraction_out some (b ∷ bs) m e = by_tests (all_zeros bs) refl (b == digit_0) refl (b == digit_5) refl e
  where
    by_tests : (z : Bool) → all_zeros bs ≡ z → (o : Bool) → (b == digit_0) ≡ o → (f : Bool) → (b == digit_5) ≡ f
        → (if z then (if o then Some 0 else (if f then Some 1 else None)) else None) ≡ Some m → (digits : ℕ) × IsKomiFraction (dot ∷ b ∷ bs) digits m × HasDigit some digits
    by_tests true g true h f i j =
        let same : b ≡ digit_0 = grind (arith, h) in
        (length (b ∷ bs), subst (IsKomiFraction (dot ∷ b ∷ bs) (length (b ∷ bs))) (some-is j) (zeros (b ∷ bs) (same, zeros_out bs g)), inr (omega arith))
    by_tests true g false h true i j =
        let same : b ≡ digit_5 = grind (arith, i) in
        (length bs + 1, subst (λ x. IsKomiFraction (dot ∷ x ∷ bs) (length bs + 1) m) (sym same) (subst (IsKomiFraction (dot ∷ digit_5 ∷ bs) (length bs + 1)) (some-is j) (half bs (zeros_out bs g))), inr (omega arith))
    by_tests true g false h false i j = absurd (none-some j)
    by_tests false g o h f i j = absurd (none-some j)

fraction_in : (some : Bool) (bs : List ℕ) (digits m : ℕ) → HasDigit some digits → IsKomiFraction (dot ∷ bs) digits m → fraction some bs ≡ Some m
fraction_in some _ _ _ (inl e) (zeros [] a) = ap (λ c. if c then Some 0 else None) e
fraction_in some _ _ _ (inr h) (zeros [] a) = absurd (omega (arith, h))
fraction_in some _ _ _ h (zeros (b ∷ bs) a) = ap₂ (λ x z. if z then (if x == digit_0 then Some 0 else (if x == digit_5 then Some 1 else None)) else None) a.0 (zeros_in bs a.1)
fraction_in some _ _ _ h (half bs a) = ap (λ z. if z then Some 1 else None) (zeros_in bs a)

none_before : (n : ℕ) → n ≡ 0 + n
none_before n = omega arith

-- what is read of a number without a sign, behind digits of the value `n`
record Reads (n : ℕ) (some : Bool) (bytes : List ℕ) (h : ℕ) : Type 0 where
  whole : List ℕ
  rest : List ℕ
  digits : ℕ
  more : ℕ
  same : bytes ≡ whole ++ rest
  are_digits : AreDigits whole
  most : digits_value_after 10 n whole ≤ MOST_KOMI
  is_fraction : IsKomiFraction rest digits more
  has_digit : HasDigit some (length whole + digits)
  value : h ≡ 2 * digits_value_after 10 n whole + more

scan_out : (bs : List ℕ) (n : ℕ) (some : Bool) (h : ℕ) → n ≤ MOST_KOMI → scan n some bs ≡ Some h → Reads n some bs h
unfolding scan
scan_out [] n true h l e = record { whole = []; rest = []; digits = 0; more = 0; same = refl; are_digits = tt; most = l; is_fraction = nothing; has_digit = inl refl; value = omega (arith, some-is e) }
scan_out [] n false h l e = absurd (none-some e)
scan_out (b ∷ bs) n some h l e = by_tests (λ m s. scan_out bs m true h s) (is_ascii_digit b) refl (nat_le (n * 10 + digit_value b) MOST_KOMI) refl (b == dot) refl e
  where
    by_fraction : (o : Option ℕ) → fraction some bs ≡ o → option_map (λ more. 2 * n + more) o ≡ Some h → b ≡ dot → Reads n some (b ∷ bs) h
    by_fraction None f g d = absurd (none-some g)
    by_fraction (Some m) f g d =
        let r = fraction_out some bs m f in
        record { whole = []; rest = b ∷ bs; digits = r.0; more = m; same = refl; are_digits = tt; most = l; is_fraction = subst (λ x. IsKomiFraction (x ∷ bs) r.0 m) (sym d) r.1; has_digit = subst (HasDigit some) (none_before r.0) r.2; value = sym (some-is g) }

    by_tests : ((m : ℕ) → m ≤ MOST_KOMI → scan m true bs ≡ Some h → Reads m true bs h) → (x : Bool) → is_ascii_digit b ≡ x → (y : Bool) → nat_le (n * 10 + digit_value b) MOST_KOMI ≡ y → (z : Bool) → (b == dot) ≡ z
        → (if x then (if y then scan (n * 10 + digit_value b) true bs else None) else (if z then option_map (λ more. 2 * n + more) (fraction some bs) else None)) ≡ Some h → Reads n some (b ∷ bs) h
    by_tests go true d true s z p f =
        let small : n * 10 + digit_value b ≤ MOST_KOMI = grind (arith, s) in
        let r = go (n * 10 + digit_value b) small f in
        record { whole = b ∷ r.whole; rest = r.rest; digits = r.digits; more = r.more; same = ap (λ x. b ∷ x) {y = r.whole ++ r.rest} r.same; are_digits = (d, r.are_digits); most = r.most; is_fraction = r.is_fraction; has_digit = inr (omega arith); value = r.value }
    by_tests go true d false s z p f = absurd (none-some f)
    by_tests go false d y s true p f = let same : b ≡ dot = grind (arith, p) in by_fraction (fraction some bs) refl f same
    by_tests go false d y s false p f = absurd (none-some f)

value_least : (n : ℕ) (bs : List ℕ) → n ≤ digits_value_after 10 n bs
value_least n [] = omega arith
value_least n (b ∷ bs) = let more = value_least (n * 10 + digit_value b) bs in omega (arith, more)

scan_in : (whole rest : List ℕ) (n : ℕ) (some : Bool) (digits more : ℕ) → AreDigits whole → digits_value_after 10 n whole ≤ MOST_KOMI → IsKomiFraction rest digits more → HasDigit some (length whole + digits)
    → scan n some (whole ++ rest) ≡ Some (2 * digits_value_after 10 n whole + more)
unfolding scan
scan_in [] _ n some _ _ a l nothing (inl e) =
    let same : 2 * n ≡ 2 * n + 0 = omega arith in
    ap (λ c. if c then Some (2 * n) else None) e ∙ ap Some same
scan_in [] _ n some _ _ a l nothing (inr h) = absurd (omega (arith, h))
scan_in [] _ n some _ _ a l (zeros bytes z) h = ap (option_map (λ more. 2 * n + more)) (fraction_in some bytes (length bytes) 0 (subst (HasDigit some) (sym (none_before (length bytes))) h) (zeros bytes z))
scan_in [] _ n some _ _ a l (half bytes z) h = ap (option_map (λ more. 2 * n + more)) (fraction_in some (digit_5 ∷ bytes) (length bytes + 1) 1 (subst (HasDigit some) (sym (none_before (length bytes + 1))) h) (half bytes z))
scan_in (b ∷ bs) rest n some digits more a l f h =
    let least = value_least (n * 10 + digit_value b) bs in
    let small : nat_le (n * 10 + digit_value b) MOST_KOMI ≡ true = grind (arith, least, l) in
    ap₂ (λ x y. if x then (if y then scan (n * 10 + digit_value b) true (bs ++ rest) else None) else (if b == dot then option_map (λ m. 2 * n + m) (fraction some (bs ++ rest)) else None)) a.0 small
    ∙ scan_in bs rest (n * 10 + digit_value b) true digits more a.1 l f (inl refl)

halves_out : (bs : List ℕ) (h : ℕ) → scan 0 false bs ≡ Some h → IsHalves bs h
halves_out bs h e =
    let r = scan_out bs 0 false h (omega arith) e in
    subst (λ x. IsHalves x h) (sym r.same) (subst (IsHalves (r.whole ++ r.rest)) (sym r.value) (halves r.whole r.rest r.digits r.more r.are_digits r.most r.is_fraction (some_digit r.has_digit)))
  where
    some_digit : {n : ℕ} → HasDigit false n → 1 ≤ n
    some_digit (inl f) = cc
    some_digit (inr g) = g

halves_in : (bs : List ℕ) (h : ℕ) → IsHalves bs h → scan 0 false bs ≡ Some h
halves_in _ _ (halves whole rest digits more a l f s) = scan_in whole rest 0 false digits more a l f (inr s)

mapped : (f : ℕ → ℤ) (o : Option ℕ) (k : ℤ) → option_map f o ≡ Some k → (n : ℕ) × (o ≡ Some n) × (f n ≡ k)
mapped f None k e = absurd (none-some e)
mapped f (Some n) k e = (n, refl, some-is e)

pub komi_some : (text : List ℕ) (k : ℤ) → scan_signed text ≡ Some k → IsKomi text k
komi_some [] k e = absurd (none-some e)
komi_some (b ∷ bs) k e = by_sign (b == plus) refl (b == minus) refl e
  where
    by_sign : (p : Bool) → (b == plus) ≡ p → (m : Bool) → (b == minus) ≡ m
        → (if p then option_map (λ n. pos n) (scan 0 false bs) else (if m then option_map (λ n. neg_ℤ (pos n)) (scan 0 false bs) else option_map (λ n. pos n) (scan 0 false (b ∷ bs)))) ≡ Some k → IsKomi (b ∷ bs) k
    by_sign true g m h f =
        let same : b ≡ plus = grind (arith, g) in
        let r = mapped (λ n. pos n) (scan 0 false bs) k f in
        subst (λ x. IsKomi (x ∷ bs) k) (sym same) (subst (IsKomi (plus ∷ bs)) r.2 (positive bs r.0 (halves_out bs r.0 r.1)))
    by_sign false g true h f =
        let same : b ≡ minus = grind (arith, h) in
        let r = mapped (λ n. neg_ℤ (pos n)) (scan 0 false bs) k f in
        subst (λ x. IsKomi (x ∷ bs) k) (sym same) (subst (IsKomi (minus ∷ bs)) r.2 (negative bs r.0 (halves_out bs r.0 r.1)))
    by_sign false g false h f =
        let r = mapped (λ n. pos n) (scan 0 false (b ∷ bs)) k f in
        subst (IsKomi (b ∷ bs)) r.2 (unsigned (b ∷ bs) r.0 (halves_out (b ∷ bs) r.0 r.1))

no_sign : (bs : List ℕ) (n : ℕ) → scan 0 false bs ≡ Some n → scan_signed bs ≡ Some (pos n)
unfolding scan
no_sign [] n e = absurd (none-some e)
no_sign (b ∷ bs) n e = by_sign (b == plus) refl (b == minus) refl
  where
    by_sign : (p : Bool) → (b == plus) ≡ p → (m : Bool) → (b == minus) ≡ m
        → (if p then option_map (λ n. pos n) (scan 0 false bs) else (if m then option_map (λ n. neg_ℤ (pos n)) (scan 0 false bs) else option_map (λ n. pos n) (scan 0 false (b ∷ bs)))) ≡ Some (pos n)
    by_sign true g m h = let same : b ≡ plus = grind (arith, g) in absurd (none-some (ap (λ x. scan 0 false (x ∷ bs)) (sym same) ∙ e))
    by_sign false g true h = let same : b ≡ minus = grind (arith, h) in absurd (none-some (ap (λ x. scan 0 false (x ∷ bs)) (sym same) ∙ e))
    by_sign false g false h = ap (option_map (λ n. pos n)) e

komi_in : (text : List ℕ) (k : ℤ) → IsKomi text k → scan_signed text ≡ Some k
komi_in _ _ (unsigned bs n h) = no_sign bs n (halves_in bs n h)
komi_in _ _ (positive bs n h) = ap (option_map (λ n. pos n)) (halves_in bs n h)
komi_in _ _ (negative bs n h) = ap (option_map (λ n. neg_ℤ (pos n))) (halves_in bs n h)

pub one_komi : (text : List ℕ) (j k : ℤ) → IsKomi text j → IsKomi text k → j ≡ k
one_komi text j k a b = some-is (sym (komi_in text j a) ∙ komi_in text k b)

pub komi_none : (text : List ℕ) (k : ℤ) → scan_signed text ≡ None → IsKomi text k → ⊥
komi_none text k e i = none-some (sym e ∙ komi_in text k i)
