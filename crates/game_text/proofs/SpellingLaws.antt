-- How numbers within the bounds are spelled.
use Rattle.std.proofs.Common.{ℕ, zero, suc, ◌+◌, ◌*◌, ◌%◌, ◌^◌, ◌<◌, ◌≤◌, ◌≡◌, List, [], ◌∷◌, ◌++◌, length, get_or, take, drop, arith, refl, inl, inr, sym, ◌∙◌, ap, ap₂, subst, ℤ, pos, negsuc, ◌*ℤ◌, ◌+ℤ◌, Some, None}
use Rattle.std.specs.Prelude.{Option, MatchOption, unsigned_abs}
use Rattle.std.specs.Fmt.{decimal, signed_decimal}
use Rattle.std.proofs.lemmas.Bool.{cases_order}
use Rattle.std.proofs.lemmas.Fmt.{decimal_by_steps_wide}
use mir.Val.{to_z, of_z, SFits}
use mir.Syntax.{w128}
use Rattle.std.proofs.lemmas.Int.{ints, unsigned_abs-mul, to_z-of_z}
use Rattle.std.proofs.lemmas.List.{length-append, get_or_append_left, append-nil}
use Rattle.std.proofs.Math.Nat.{le-mul_of_pos_right}
use Rattle.std.proofs.Math.Pow.{pow_pos}
use Rattle.std.proofs.Math.Seq.{get_or-append_seam}
use Rattle.dyadic_num.specs.Units.{IsInBounds, IsFraction, IsLowest}
use Rattle.short_games.specs.TextOrder.{tree_text}
use Rattle.short_games.specs.Number.{number_tree}
use Rattle.game_text.specs.Reading.{AreNumberBytes, IsNumberText}
use Rattle.game_text.specs.inner.Slashes.{HasNoSlash, IsFirstSlash}
use Rattle.game_text.proofs.NumberTextLaws.{number_of-num, reduced-lowest}
use Rattle.game_text.proofs.DecimalLaws.{whole-text, part-text}
use Rattle.game_text.proofs.ParsingLaws.{power-wide}

-- digits
abbrev AreDecimal : List ℕ → Type 0
AreDecimal [] = Unit {0}
AreDecimal (x ∷ xs) = (48 ≤ x) × (x < 58) × AreDecimal xs

decimal-more : (ds : List ℕ) (d : ℕ) → AreDecimal ds → d < 10 → AreDecimal (ds ++ (48 + d) ∷ [])
decimal-more [] d a l = (omega arith, omega (arith, l), tt)
decimal-more (x ∷ xs) d a l = (a.0, a.1, decimal-more xs d a.2 l)

are-decimal : (n : ℕ) → n < 10 ^ 64 → (0 < length (decimal n)) × AreDecimal (decimal n)
are-decimal n h = decimal_by_steps_wide (λ n ds. (0 < length ds) × AreDecimal ds)
    (λ n l. (omega arith, (omega arith, omega (arith, l), tt)))
    (λ n ds l p. (omega (arith, length-append ds ((48 + n % 10) ∷ []), p.0), decimal-more ds (n % 10) p.1 (omega arith))) n h

decimal-no_slash : (ds : List ℕ) → AreDecimal ds → HasNoSlash ds (length ds)
decimal-no_slash [] a k l e = omega (arith, l)
decimal-no_slash (x ∷ xs) a zero l e = omega (arith, a.0, e)
decimal-no_slash (x ∷ xs) a (suc k) l e = decimal-no_slash xs a.2 k (omega (arith, l)) e

signed-no_slash : (n : ℤ) → unsigned_abs n < 2 ^ 120 → HasNoSlash (signed_decimal n) (length (signed_decimal n))
signed-no_slash (pos n) h k l e = decimal-no_slash (decimal n) (are-decimal n (omega (arith, h))).1 k l e
signed-no_slash (negsuc n) h zero l e = omega (arith, e)
signed-no_slash (negsuc n) h (suc k) l e = decimal-no_slash (decimal (suc n)) (are-decimal (suc n) (omega (arith, h))).1 k (omega (arith, l)) e

-- bytes of numbers
decimal-bytes : (ds s : List ℕ) → AreDecimal ds → AreNumberBytes s → AreNumberBytes (ds ++ s)
decimal-bytes [] s a b = b
decimal-bytes (x ∷ xs) s a b = (inr (omega (arith, a.0), a.1), decimal-bytes xs s a.2 b)

signed-bytes : (n : ℤ) (s : List ℕ) → unsigned_abs n < 2 ^ 120 → AreNumberBytes s → (0 < length (signed_decimal n ++ s)) × AreNumberBytes (signed_decimal n ++ s)
signed-bytes (pos n) s h b = let d = are-decimal n (omega (arith, h)) in (omega (arith, length-append (decimal n) s, d.0), decimal-bytes (decimal n) s d.1 b)
signed-bytes (negsuc n) s h b = (omega arith, (inl refl, decimal-bytes (decimal (suc n)) s (are-decimal (suc n) (omega (arith, h))).1 b))

-- the text of u
abbrev pub spelling : ℤ → ℕ → List ℕ
spelling n zero = signed_decimal n
spelling n (suc e) = signed_decimal n ++ (47 ∷ decimal (2 ^ suc e))

pub record IsSpelled (u : ℤ) : Type 0 where
  pub numerator : ℤ
  pub exponent : ℕ
  pub lowest : IsLowest u numerator exponent
  pub most : exponent ≤ 60
  pub small : unsigned_abs numerator < 2 ^ 120
  pub text : tree_text (number_tree u) ≡ spelling numerator exponent

pub spelled : (u : ℤ) → IsInBounds u → IsSpelled u
spelled u b =
    let x = number_of-num 60 u in
    let size : unsigned_abs x.0.numerator * 2 ^ x.1.spare ≡ unsigned_abs u = sym (unsigned_abs-mul x.0.numerator (pos (2 ^ x.1.spare))) ∙ ap unsigned_abs x.1.scaled in
    let less : unsigned_abs x.0.numerator ≤ unsigned_abs x.0.numerator * 2 ^ x.1.spare = le-mul_of_pos_right (unsigned_abs x.0.numerator) (pow_pos x.1.spare) in
    let most : x.0.exponent ≤ 60 = omega (arith, x.1.exponents) in
    let small : unsigned_abs x.0.numerator < 2 ^ 120 = omega (arith, size, less, b) in
    record {
      numerator = x.0.numerator;
      exponent = x.0.exponent;
      lowest = reduced-lowest u x.0 x.1;
      most = most;
      small = small;
      text = at x.0.numerator x.0.exponent (reduced-lowest u x.0 x.1) most small;
    }
  where
    at : (n : ℤ) (e : ℕ) → IsLowest u n e → e ≤ 60 → unsigned_abs n < 2 ^ 120 → tree_text (number_tree u) ≡ spelling n e
    at n zero l m s = sym (whole-text u n zero l (omega (arith, s)) refl)
    at n (suc e) l m s = sym (part-text u n (suc e) (2 ^ suc e) l (omega (arith, s)) (λ z. omega (arith, z)) refl (power-wide (suc e) m))

pub number-bytes : (u : ℤ) → IsInBounds u → (0 < length (tree_text (number_tree u))) × AreNumberBytes (tree_text (number_tree u))
number-bytes u b = let s = spelled u b in subst (λ (t : List ℕ). (0 < length t) × AreNumberBytes t) (sym s.text) (at s.numerator s.exponent s.most s.small)
  where
    at : (n : ℤ) (e : ℕ) → e ≤ 60 → unsigned_abs n < 2 ^ 120 → (0 < length (spelling n e)) × AreNumberBytes (spelling n e)
    at n zero m s = subst (λ (t : List ℕ). (0 < length t) × AreNumberBytes t) (append-nil (signed_decimal n)) (signed-bytes n [] s tt)
    at n (suc e) m s = signed-bytes n (47 ∷ decimal (2 ^ suc e)) s ((inr (omega arith, omega arith)), subst AreNumberBytes (append-nil (decimal (2 ^ suc e))) (decimal-bytes (decimal (2 ^ suc e)) [] (are-decimal (2 ^ suc e) (power-wide (suc e) m)).1 tt))

-- the first slash is behind the numerator
slash-place : (front back bytes : List ℕ) (i : ℕ) → HasNoSlash front (length front) → bytes ≡ front ++ (47 ∷ back) → IsFirstSlash bytes i → i ≡ length front
slash-place front back bytes i f e s = elim (cases_order i (length front)) [
  | inl p ↦ p
  | inr (inl l) ↦ absurd (f i l (sym (get_or_append_left front (47 ∷ back) 0 i l) ∙ ap (λ z. get_or z i 0) (sym e) ∙ s.is))
  | inr (inr l) ↦ absurd (s.first (length front) l (ap (λ z. get_or z (length front) 0) e ∙ get_or-append_seam front 47 back 0))
]

pub front-of : (xs ys : List ℕ) → take (length xs) (xs ++ ys) ≡ xs
front-of [] ys = refl
front-of (x ∷ xs) ys = ap (λ z. x ∷ z) (front-of xs ys)

behind-of : (xs ys : List ℕ) → drop (length xs + 1) (xs ++ (47 ∷ ys)) ≡ ys
behind-of [] ys = refl
behind-of (x ∷ xs) ys = ap (λ k. drop k (x ∷ (xs ++ (47 ∷ ys)))) (let e : suc (length xs) + 1 ≡ suc (length xs + 1) = omega arith in e) ∙ behind-of xs ys

-- a number with a slash, and one without
pub record IsPart (u : ℤ) (front back : List ℕ) : Type 0 where
  pub numerator : ℤ
  pub exponent : ℕ
  pub lowest : IsLowest u numerator exponent
  pub most : exponent ≤ 60
  pub small : unsigned_abs numerator < 2 ^ 120
  pub first : front ≡ signed_decimal numerator
  pub second : back ≡ decimal (2 ^ exponent)

pub part-spelled : (u : ℤ) (run : List ℕ) (i : ℕ) → IsNumberText u run → IsFirstSlash run i → IsPart u (take i run) (drop (i + 1) run)
part-spelled u run i t s = let p = spelled u t.0 in at p.numerator p.exponent p.lowest p.most p.small (t.1 ∙ p.text)
  where
    at : (n : ℤ) (e : ℕ) → IsLowest u n e → e ≤ 60 → unsigned_abs n < 2 ^ 120 → run ≡ spelling n e → IsPart u (take i run) (drop (i + 1) run)
    at n zero l m h q = absurd (signed-no_slash n h i (subst (λ z. i < length z) q s.within) (ap (λ z. get_or z i 0) (sym q) ∙ s.is))
    at n (suc e) l m h q =
        let place : i ≡ length (signed_decimal n) = slash-place (signed_decimal n) (decimal (2 ^ suc e)) run i (signed-no_slash n h) q s in record {
          numerator = n;
          exponent = suc e;
          lowest = l;
          most = m;
          small = h;
          first = ap₂ take place q ∙ front-of (signed_decimal n) (47 ∷ decimal (2 ^ suc e));
          second = ap₂ (λ k z. drop (k + 1) z) place q ∙ behind-of (signed_decimal n) (decimal (2 ^ suc e));
        }

pub record IsWholeNumber (u : ℤ) (run : List ℕ) : Type 0 where
  pub numerator : ℤ
  pub lowest : IsLowest u numerator 0
  pub small : unsigned_abs numerator < 2 ^ 120
  pub is : run ≡ signed_decimal numerator

pub whole-spelled : (u : ℤ) (run : List ℕ) → IsNumberText u run → HasNoSlash run (length run) → IsWholeNumber u run
whole-spelled u run t f = let p = spelled u t.0 in at p.numerator p.exponent p.lowest p.most p.small (t.1 ∙ p.text)
  where
    at : (n : ℤ) (e : ℕ) → IsLowest u n e → e ≤ 60 → unsigned_abs n < 2 ^ 120 → run ≡ spelling n e → IsWholeNumber u run
    at n zero l m h q = record { numerator = n; lowest = l; small = h; is = q }
    at n (suc e) l m h q = absurd (f (length (signed_decimal n)) (subst (λ z. length (signed_decimal n) < length z) (sym q) (omega (arith, length-append (signed_decimal n) (47 ∷ decimal (2 ^ suc e)))))
        (ap (λ z. get_or z (length (signed_decimal n)) 0) q ∙ get_or-append_seam (signed_decimal n) 47 (decimal (2 ^ suc e)) 0))

-- a fraction is one number
power-cancel : (e : ℕ) (u v : ℤ) → u *ℤ pos (2 ^ e) ≡ v *ℤ pos (2 ^ e) → u ≡ v
power-cancel zero u v h = omega (arith, ints, h)
power-cancel (suc e) u v h = power-cancel e u v (let p : 2 ^ suc e ≡ 2 ^ e + 2 ^ e = omega arith in let a : (u *ℤ pos (2 ^ e)) +ℤ (u *ℤ pos (2 ^ e)) ≡ (v *ℤ pos (2 ^ e)) +ℤ (v *ℤ pos (2 ^ e)) = sym (twice u (2 ^ e)) ∙ ap (λ k. u *ℤ pos k) (sym p) ∙ h ∙ ap (λ k. v *ℤ pos k) p ∙ twice v (2 ^ e) in omega (arith, ints, a))
  where
    twice : (w : ℤ) (k : ℕ) → w *ℤ pos (k + k) ≡ (w *ℤ pos k) +ℤ (w *ℤ pos k)
    twice w k = omega (arith, ints)

pub fraction-is : (u n : ℤ) (e : ℕ) (o : Option ℤ) → IsInBounds u → IsFraction u n e → MatchOption o ((v : ℤ) → IsInBounds v → IsFraction v n e → ⊥) (λ v. IsFraction v n e) → o ≡ Some u
fraction-is u n e (Some v) b f m = ap Some (power-cancel e v u (m ∙ sym f))
fraction-is u n e None b f m = absurd (m u b f)

pub part-is : (u n m : ℤ) (e d : ℕ) (o : Option ℤ) → IsInBounds u → IsFraction u n e → m ≡ n → d ≡ e → MatchOption o ((v : ℤ) → IsInBounds v → IsFraction v m d → ⊥) (λ v. IsFraction v m d) → o ≡ Some u
part-is u n m e d o b f p q s = fraction-is u m d o b (subst (λ z. IsFraction u z d) (sym p) (subst (λ z. IsFraction u n z) (sym q) f)) s

pub same-bits : (m n : ℤ) → m ≡ n → unsigned_abs n < 2 ^ 120 → to_z w128 (of_z w128 m) ≡ n
same-bits m n e h = ap (λ z. to_z w128 (of_z w128 z)) e ∙ to_z-of_z w128 n (fits n h)
  where
    fits : (z : ℤ) → unsigned_abs z < 2 ^ 120 → SFits w128 z
    fits (pos k) l = record { sfits = omega (arith, l) }
    fits (negsuc k) l = record { sfits = omega (arith, l) }
