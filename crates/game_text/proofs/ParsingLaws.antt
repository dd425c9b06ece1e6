-- What is read of the texts of numbers.
use Rattle.std.proofs.Common.{ℕ, zero, suc, ◌+◌, ◌*◌, ◌%◌, ◌^◌, ◌<◌, ◌≤◌, ◌≡◌, List, [], ◌∷◌, length, get_or, drop, arith, refl, inl, inr, sym, ◌∙◌, ap, subst, ℤ, pos, negsuc, Some, None}
use Rattle.std.specs.Prelude.{Option, Result, Ok, Err, MatchResult, unsigned_abs, neg_ℤ}
use Rattle.std.specs.Result.{result_ok, OkIff}
use Rattle.std.specs.Option.{SomeIff}
use Rattle.std.specs.Str.{IsUtf8}
use Rattle.std.specs.Fmt.{decimal, signed_decimal}
use Rattle.std.specs.Str.Parse.{ParsesUnsigned}
use Rattle.std.proofs.lemmas.Str.{IsUtf8-from_ascii}
use Rattle.std.proofs.lemmas.Fmt.{IsAscii-decimal_wide, parse-decimal_wide, decimal_by_steps_wide}
use Rattle.std.proofs.lemmas.Nat.{pow_below}
use Rattle.std.proofs.lemmas.Bool.{cases_order}
use Rattle.std.proofs.lemmas.Int.{to_z-of_z}
use Rattle.std.proofs.lemmas.List.{length-append, get_or_append_left}
use denote.Bor.{Bor}
use mir.Val.{SFits, to_z, of_z}
use mir.Syntax.{w128}

pub decimal-utf8 : (n : ℕ) (bytes : List ℕ) → n < 10 ^ 64 → bytes ≡ decimal n → IsUtf8 bytes
decimal-utf8 n bytes h e = subst IsUtf8 (sym e) (IsUtf8-from_ascii (decimal n) (IsAscii-decimal_wide n h))

pub utf8-fails : {E : Type 0} (r : Result (Bor (List ℕ)) E) (bytes : List ℕ) (Q : E → Type 0) → MatchResult r (λ s. (s.now ≡ bytes) × IsUtf8 bytes) (λ e. ¬ IsUtf8 bytes × Q e) → IsUtf8 bytes → (o : Option (Bor (List ℕ))) → o ≡ result_ok r → o ≡ None → ⊥
utf8-fails (Ok s) bytes Q m u o p q = cc
utf8-fails (Err e) bytes Q m u o p q = m.0 u

pub utf8-gives : {E : Type 0} (r : Result (Bor (List ℕ)) E) (bytes : List ℕ) (Q : E → Type 0) → MatchResult r (λ s. (s.now ≡ bytes) × IsUtf8 bytes) (λ e. ¬ IsUtf8 bytes × Q e) → IsUtf8 bytes → (o : Option (Bor (List ℕ))) (t : Bor (List ℕ)) → o ≡ result_ok r → o ≡ Some t → t.now ≡ bytes
utf8-gives (Ok s) bytes Q m u o t p q = let e : s ≡ t = cc in ap (λ (x : Bor (List ℕ)). x.now) (sym e) ∙ m.0
utf8-gives (Err e) bytes Q m u o t p q = absurd (m.0 u)

-- the digits of a number are read as the number
pub parsed-is : {E : Type 0} (k n : ℕ) (bytes digits : List ℕ) (r : Result ℕ E) (o : Option ℕ) → n < 2 ^ k → n < 10 ^ 64 → bytes ≡ digits → digits ≡ decimal n → ParsesUnsigned k 10 bytes r → o ≡ result_ok r → o ≡ Some n
parsed-is k n bytes digits r o h i e f p q = q ∙ ap result_ok (parse-decimal_wide k n bytes r h i (e ∙ f) p)

pub not-none : {A : Type 0} (x : A) (o : Option A) → o ≡ Some x → o ≡ None → ⊥
not-none x o p q = cc

pub some-is : {A : Type 0} (x y : A) (o : Option A) → o ≡ Some x → o ≡ Some y → x ≡ y
some-is x y o p q = cc

pub size-is : {E : Type 0} (m n : ℕ) (r : Result ℤ E) (o : Option ℤ) → m ≡ n → n < 2 ^ 127 → OkIff r (SFits w128 (pos m)) (pos m) → o ≡ result_ok r → o ≡ Some (pos n)
size-is m n (Ok z) o e h i q = q ∙ ap Some (i.1 ∙ ap pos e)
size-is m n (Err z) o e h i q = absurd (i (record { sfits = omega (arith, e, h) }))

-- powers of two
pub power-fits : (e : ℕ) → e ≤ 60 → 2 ^ e < 2 ^ 64
power-fits e l = pow_below e 64 (omega (arith, l))

pub power-wide : (e : ℕ) → e ≤ 60 → 2 ^ e < 10 ^ 64
power-wide e l = let small : 2 ^ e < 2 ^ 64 = power-fits e l in omega (arith, small)

power-pos : (e : ℕ) → 0 < 2 ^ e
power-pos zero = omega arith
power-pos (suc e) = let twice : 2 ^ suc e ≡ 2 ^ e + 2 ^ e = omega arith in omega (arith, twice, power-pos e)

pub power-some : (e m : ℕ) → m ≡ 2 ^ e → m ≡ 0 → ⊥
power-some e m p z = omega (arith, p, z, power-pos e)

pub exponent-is : (e m r : ℕ) → m ≡ 2 ^ e → 2 ^ r ≤ m → m < 2 * 2 ^ r → r ≡ e
exponent-is e m r p low high = elim (cases_order r e) [
  | inl s ↦ s
  | inr (inl l) ↦ elim (cases_order (suc r) e) [
    | inl s ↦ absurd (let twice : 2 ^ suc r ≡ 2 ^ r + 2 ^ r = omega arith in omega (arith, p, high, twice, ap (λ k. 2 ^ k) s))
    | inr (inl k) ↦ absurd (let twice : 2 ^ suc r ≡ 2 ^ r + 2 ^ r = omega arith in omega (arith, p, high, twice, pow_below (suc r) e k))
    | inr (inr k) ↦ absurd (omega (arith, l, k))
  ]
  | inr (inr l) ↦ absurd (omega (arith, p, low, pow_below e r l))
]

-- the sign
pub negated-is : (z : ℤ) (n : ℕ) (o : Option ℤ) → z ≡ pos (suc n) → suc n < 2 ^ 120 → SomeIff o (SFits w128 (neg_ℤ (to_z w128 (of_z w128 z)))) (neg_ℤ (to_z w128 (of_z w128 z))) → o ≡ Some (negsuc n)
negated-is z n o e h s = at o (subst (λ t. SomeIff o (SFits w128 (neg_ℤ t)) (neg_ℤ t)) (ap (λ t. to_z w128 (of_z w128 t)) e ∙ to_z-of_z w128 (pos (suc n)) (record { sfits = omega (arith, h) })) s)
  where
    at : (p : Option ℤ) → SomeIff p (SFits w128 (negsuc n)) (negsuc n) → p ≡ Some (negsuc n)
    at (Some x) q = ap Some q.1
    at None q = absurd (q (record { sfits = omega (arith, h) }))

first-digit : (n : ℕ) → n < 10 ^ 64 → (0 < length (decimal n)) × (48 ≤ get_or (decimal n) 0 0)
first-digit n h = decimal_by_steps_wide (λ n ds. (0 < length ds) × (48 ≤ get_or ds 0 0)) (λ n l. (omega arith, omega arith)) (λ n ds l p. (omega (arith, length-append ds ((48 + n % 10) ∷ []), p.0), subst (λ x. 48 ≤ x) (sym (get_or_append_left ds ((48 + n % 10) ∷ []) 0 0 p.0)) p.1)) n h

-- a minus is in front just of negative numbers
pub sign-is : (n : ℤ) (text : List ℕ) → unsigned_abs n < 2 ^ 120 → text ≡ signed_decimal n → 0 < length text → get_or text 0 0 ≡ 45 → (k : ℕ) × (n ≡ negsuc k) × (drop 1 text ≡ decimal (suc k))
sign-is (pos n) text h e l m = absurd (let d = first-digit n (omega (arith, h)) in omega (arith, m, ap (λ z. get_or z 0 0) e, d.1))
sign-is (negsuc k) text h e l m = (k, refl, ap (drop 1) e)

pub no-sign : (n : ℤ) (text : List ℕ) → text ≡ signed_decimal n → ((0 < length text) × (get_or text 0 0 ≡ 45) → ⊥) → (k : ℕ) × (n ≡ pos k) × (text ≡ decimal k)
no-sign (pos n) text e f = (n, refl, e)
no-sign (negsuc k) text e f = absurd (f (subst (λ z. 0 < length z) (sym e) (omega arith), ap (λ z. get_or z 0 0) e))

pub size-of-negative : (n : ℤ) (k : ℕ) → n ≡ negsuc k → unsigned_abs n < 2 ^ 120 → suc k < 2 ^ 127
size-of-negative n k e h = omega (arith, subst (λ z. unsigned_abs z < 2 ^ 120) e h)

pub negative-is : (n z : ℤ) (k : ℕ) (o : Option ℤ) → n ≡ negsuc k → unsigned_abs n < 2 ^ 120 → z ≡ pos (suc k) → SomeIff o (SFits w128 (neg_ℤ (to_z w128 (of_z w128 z)))) (neg_ℤ (to_z w128 (of_z w128 z))) → o ≡ Some n
negative-is n z k o e h p s = negated-is z k o p (omega (arith, subst (λ z. unsigned_abs z < 2 ^ 120) e h)) s ∙ ap Some (sym e)
