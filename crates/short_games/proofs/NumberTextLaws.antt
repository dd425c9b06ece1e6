-- Numbers have texts of their own.
use Rattle.std.proofs.Common.{append_assoc, ℕ, zero, suc, ◌+◌, ◌-◌, ◌*◌, ◌/◌, ◌%◌, ◌^◌, ◌<◌, ◌≤◌, ◌≡◌, ◌⊎◌, inl, inr, List, [], ◌∷◌, ◌++◌, arith, refl, sym, ◌∙◌, ap, ap₂, subst, Some, None, ℤ, pos, negsuc, Bool, true, false, cond}
use Rattle.std.specs.Prelude.{Option, nat_lt}
use Rattle.std.proofs.lemmas.Bool.{true≢false, ltb-true, ltb-false, and_parts, and_from, cases_Bool}
use Rattle.short_games.specs.Tree.{Tree, Trees, node, none, more}
use Rattle.short_games.specs.Number.{num}
use Rattle.short_games.specs.NumberText.{same, same_each, Fraction, guess, number_of, digits_within, digits, integer_text, denominator_text, fraction_text, text_of_number, number_text}
use Rattle.short_games.proofs.TextLaws.{runs, AreDigits, IsMore, head-is, tail-is}

mutual
  unfolding same

  pub same-is : (G H : Tree) → same G H ≡ true → G ≡ H
  same-is (node ls rs) (node ms ns) e = let b = and_parts _ _ e in ap₂ node (same_each-is ls ms b.0) (same_each-is rs ns b.1)

  pub same_each-is : (Gs Hs : Trees) → same_each Gs Hs ≡ true → Gs ≡ Hs
  same_each-is none none e = refl
  same_each-is none (more H Hs) e = absurd (true≢false (sym e))
  same_each-is (more G Gs) none e = absurd (true≢false (sym e))
  same_each-is (more G Gs) (more H Hs) e = let b = and_parts _ _ e in ap₂ more (same-is G H b.0) (same_each-is Gs Hs b.1)

mutual
  unfolding same

  pub same-itself : (G : Tree) → same G G ≡ true
  same-itself (node ls rs) = and_from _ _ (same_each-itself ls) (same_each-itself rs)

  same_each-itself : (Gs : Trees) → same_each Gs Gs ≡ true
  same_each-itself none = refl
  same_each-itself (more G Gs) = and_from _ _ (same-itself G) (same_each-itself Gs)

pub same-or_not : (G H : Tree) → (G ≡ H) ⊎ (G ≡ H → ⊥)
same-or_not G H = elim (cases_Bool (same G H)) [
  | inl t ↦ inl (same-is G H t)
  | inr f ↦ inr (λ e. true≢false (sym (subst (λ K. same G K ≡ true) e (same-itself G)) ∙ f))
]

-- the tree is the number's
pub number_of-is : (G : Tree) (x : Fraction) → number_of G ≡ Some x → G ≡ num x.exponent x.numerator
unfolding number_of
number_of-is G x e = by_test (same (num (guess G).exponent (guess G).numerator) G) refl e
  where
    by_test : (b : Bool) → same (num (guess G).exponent (guess G).numerator) G ≡ b → cond b (Some (guess G)) None ≡ Some x → G ≡ num x.exponent x.numerator
    by_test true p e = let i : guess G ≡ x = cc in sym (same-is _ G p) ∙ ap (λ (y : Fraction). num y.exponent y.numerator) i
    by_test false p e = cc

-- the value of digits
value : ℕ → List ℕ → ℕ
value acc [] = acc
value acc (d ∷ ds) = value (acc * 10 + (d - 48)) ds

value-digits : (steps n : ℕ) (s : List ℕ) → n < steps → value 0 (digits_within steps n s) ≡ value n s
unfolding value digits_within
value-digits zero n s h = absurd (omega arith)
value-digits (suc steps) n s h = by_test (nat_lt n 10) refl (λ p. value-digits steps (n / 10) ((48 + n % 10) ∷ s) (omega (arith, ltb-false n 10 p)))
  where
    by_test : (b : Bool) → nat_lt n 10 ≡ b → (nat_lt n 10 ≡ false → value 0 (digits_within steps (n / 10) ((48 + n % 10) ∷ s)) ≡ value (n / 10) ((48 + n % 10) ∷ s)) → value 0 (cond b ((48 + n) ∷ s) (digits_within steps (n / 10) ((48 + n % 10) ∷ s))) ≡ value n s
    by_test true p f = ap (λ k. value k s) (omega arith)
    by_test false p f = f p ∙ ap (λ k. value k s) (omega arith)

pub digits-one_to_one : (m n : ℕ) → digits m [] ≡ digits n [] → m ≡ n
unfolding value
digits-one_to_one m n e = sym (value-digits (suc m) m [] (omega arith)) ∙ ap (value 0) e ∙ value-digits (suc n) n [] (omega arith)

abbrev AreDecimal : List ℕ → Type 0
AreDecimal [] = Unit {0}
AreDecimal (x ∷ xs) = (48 ≤ x) × (x < 58) × AreDecimal xs

-- digits stand in front of what is behind them
record AreInFront (steps n : ℕ) : Type 0 where
  bytes : List ℕ
  some : IsMore bytes
  decimal : AreDecimal bytes
  front : (s : List ℕ) → digits_within steps n s ≡ bytes ++ s

more_front : (bytes : List ℕ) (d : ℕ) → AreDecimal bytes → d < 10 → IsMore (bytes ++ (48 + d) ∷ []) × AreDecimal (bytes ++ (48 + d) ∷ [])
more_front [] d a l = (tt, (omega arith, omega arith, tt))
more_front (x ∷ xs) d a l = (tt, (a.0, a.1, (more_front xs d a.2 l).1))

in_front : (steps n : ℕ) → n < steps → AreInFront steps n
unfolding digits_within
in_front zero n h = absurd (omega arith)
in_front (suc steps) n h = by_test (nat_lt n 10) refl (λ p. in_front steps (n / 10) (omega (arith, ltb-false n 10 p)))
  where
    by_test : (b : Bool) → nat_lt n 10 ≡ b → (nat_lt n 10 ≡ false → AreInFront steps (n / 10)) → AreInFront (suc steps) n
    by_test true p f = record { bytes = (48 + n) ∷ []; some = tt; decimal = (omega arith, omega (arith, ltb-true n 10 p), tt); front = λ s. ap (λ b. cond b ((48 + n) ∷ s) (digits_within steps (n / 10) ((48 + n % 10) ∷ s))) p }
    by_test false p f = let r = f p in record {
      bytes = r.bytes ++ (48 + n % 10) ∷ [];
      some = (more_front r.bytes (n % 10) r.decimal (omega arith)).0;
      decimal = (more_front r.bytes (n % 10) r.decimal (omega arith)).1;
      front = λ s. ap (λ b. cond b ((48 + n) ∷ s) (digits_within steps (n / 10) ((48 + n % 10) ∷ s))) p ∙ r.front ((48 + n % 10) ∷ s) ∙ sym (append_assoc r.bytes ((48 + n % 10) ∷ []) s);
    }

-- what isn't a digit may stand behind digits
abbrev StopsDigits : List ℕ → Type 0
StopsDigits [] = Unit {0}
StopsDigits (x ∷ xs) = x < 48

digits-both : (m n : ℕ) (s t : List ℕ) → StopsDigits s → StopsDigits t → digits m s ≡ digits n t → (m ≡ n) × (s ≡ t)
digits-both m n s t u v e = let a = in_front (suc m) m (omega arith) in let b = in_front (suc n) n (omega arith) in
    let r = runs (λ x. (48 ≤ x) × (x < 58)) AreDecimal StopsDigits (λ x xs d. ((d.0, d.1), d.2)) (λ x xs u d. omega (arith, u, d.0))
    a.bytes b.bytes s t a.decimal b.decimal u v (sym (a.front s) ∙ e ∙ b.front t) in
    (digits-one_to_one m n (a.front [] ∙ ap (λ (x : List ℕ). x ++ []) r.0 ∙ sym (b.front [])), r.1)

-- the first byte of digits
digits-first : (m x : ℕ) (s xs : List ℕ) → digits m s ≡ x ∷ xs → 48 ≤ x
digits-first m x s xs e = let a = in_front (suc m) m (omega arith) in by_bytes a.bytes a.some a.decimal (sym (a.front s) ∙ e)
  where
    by_bytes : (b : List ℕ) → IsMore b → AreDecimal b → b ++ s ≡ x ∷ xs → 48 ≤ x
    by_bytes [] i d e = absurd i
    by_bytes (y ∷ ys) i d e = subst (λ k. 48 ≤ k) (head-is e) d.0

integer-both : (m n : ℤ) (s t : List ℕ) → StopsDigits s → StopsDigits t → integer_text m s ≡ integer_text n t → (m ≡ n) × (s ≡ t)
integer-both (pos m) (pos n) s t u v e = let r = digits-both m n s t u v e in (ap pos r.0, r.1)
integer-both (pos m) (negsuc n) s t u v e = absurd (omega (arith, digits-first m 45 s _ e))
integer-both (negsuc m) (pos n) s t u v e = absurd (omega (arith, digits-first n 45 t _ (sym e)))
integer-both (negsuc m) (negsuc n) s t u v e = let r = digits-both (suc m) (suc n) s t u v (tail-is e) in (ap negsuc (omega (arith, r.0)), r.1)

denominator-stops : (e : ℕ) → StopsDigits (denominator_text e)
denominator-stops zero = tt
denominator-stops (suc e) = omega arith

double-power : (e : ℕ) → 2 ^ suc e ≡ 2 ^ e + 2 ^ e
double-power e = omega arith

power-pos : (e : ℕ) → 0 < 2 ^ e
power-pos zero = omega arith
power-pos (suc e) = omega (arith, double-power e, power-pos e)

power-one_to_one : (e f : ℕ) → 2 ^ e ≡ 2 ^ f → e ≡ f
power-one_to_one zero zero p = refl
power-one_to_one zero (suc f) p = absurd (omega (arith, p, double-power f, power-pos f))
power-one_to_one (suc e) zero p = absurd (omega (arith, p, double-power e, power-pos e))
power-one_to_one (suc e) (suc f) p = ap suc (power-one_to_one e f (omega (arith, p, double-power e, double-power f)))

denominator-one_to_one : (e f : ℕ) → denominator_text e ≡ denominator_text f → e ≡ f
denominator-one_to_one zero zero p = refl
denominator-one_to_one zero (suc f) p = absurd (subst IsMore (sym p) tt)
denominator-one_to_one (suc e) zero p = absurd (subst IsMore p tt)
denominator-one_to_one (suc e) (suc f) p = power-one_to_one (suc e) (suc f) (digits-one_to_one (2 ^ suc e) (2 ^ suc f) (tail-is p))

pub fraction-one_to_one : (x y : Fraction) → fraction_text x ≡ fraction_text y → x ≡ y
fraction-one_to_one x y e = let r = integer-both x.numerator y.numerator _ _ (denominator-stops x.exponent) (denominator-stops y.exponent) e in
    let d = denominator-one_to_one x.exponent y.exponent r.1 in λ i. record { exponent = d i; numerator = r.0 i }

-- as bytes of numbers
decimal-digits : (b s : List ℕ) → AreDecimal b → AreDigits s → AreDigits (b ++ s)
decimal-digits [] s a d = d
decimal-digits (x ∷ xs) s a d = ((omega (arith, a.0), a.1), decimal-digits xs s a.2 d)

digits-bytes : (n : ℕ) (s : List ℕ) → AreDigits s → AreDigits (digits n s) × IsMore (digits n s)
digits-bytes n s d = let a = in_front (suc n) n (omega arith) in
    (subst AreDigits (sym (a.front s)) (decimal-digits a.bytes s a.decimal d), subst IsMore (sym (a.front s)) (by_bytes a.bytes a.some))
  where
    by_bytes : (b : List ℕ) → IsMore b → IsMore (b ++ s)
    by_bytes [] i = absurd i
    by_bytes (x ∷ xs) i = tt

denominator-bytes : (e : ℕ) → AreDigits (denominator_text e)
denominator-bytes zero = tt
denominator-bytes (suc e) = ((omega arith, omega arith), (digits-bytes (2 ^ suc e) [] tt).0)

integer-bytes : (m : ℤ) (s : List ℕ) → AreDigits s → AreDigits (integer_text m s) × IsMore (integer_text m s)
integer-bytes (pos n) s d = digits-bytes n s d
integer-bytes (negsuc n) s d = (((omega arith, omega arith), (digits-bytes (suc n) s d).0), tt)

pub number_text-is : (G : Tree) (t : List ℕ) → number_text G ≡ Some t → (x : Fraction) × (number_of G ≡ Some x) × (t ≡ fraction_text x)
number_text-is G t e = at (number_of G) refl e
  where
    at : (o : Option Fraction) → number_of G ≡ o → text_of_number o ≡ Some t → (x : Fraction) × (number_of G ≡ Some x) × (t ≡ fraction_text x)
    at (Some x) p e = (x, p, cc)
    at None p e = cc

pub number_text-bytes : (G : Tree) (t : List ℕ) → number_text G ≡ Some t → AreDigits t
number_text-bytes G t e = let r = number_text-is G t e in subst AreDigits (sym r.2) (integer-bytes r.0.numerator _ (denominator-bytes r.0.exponent)).0

pub number_text-some : (G : Tree) (t : List ℕ) → number_text G ≡ Some t → IsMore t
number_text-some G t e = let r = number_text-is G t e in subst IsMore (sym r.2) (integer-bytes r.0.numerator _ (denominator-bytes r.0.exponent)).1

pub number_text-one_to_one : (G H : Tree) (t : List ℕ) → number_text G ≡ Some t → number_text H ≡ Some t → G ≡ H
number_text-one_to_one G H t p q =
    let a = number_text-is G t p in
    let b = number_text-is H t q in
    let same : a.0 ≡ b.0 = fraction-one_to_one a.0 b.0 (sym a.2 ∙ b.2) in
    number_of-is G a.0 a.1 ∙ ap (λ (y : Fraction). num y.exponent y.numerator) same ∙ sym (number_of-is H b.0 b.1)
