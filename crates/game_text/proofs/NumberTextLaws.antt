-- The number that is read off a number's tree is the fraction in lowest terms.
use Rattle.std.proofs.Common.{ℕ, zero, suc, ◌+◌, ◌-◌, ◌^◌, ◌≡◌, ◌⊎◌, List, [], ◌∷◌, ◌++◌, arith, refl, inl, inr, sym, ◌∙◌, ap, ap₂, subst, Some, None, ℤ, pos, negsuc, ◌+ℤ◌, ◌*ℤ◌, true, false, cond, append-nil}
use Rattle.std.specs.Prelude.{max, ◌&&◌}
use Rattle.std.proofs.lemmas.Bool.{true≢false, cases_Bool, false_from_ne_true}
use Rattle.std.proofs.lemmas.Int.{ints}
use Rattle.dyadic_num.specs.Units.{IsLowest}
use Rattle.dyadic_num.proofs.FractionLemmas.{lowest}
use Rattle.short_games.specs.Tree.{Tree, Trees, node, none, more, neg}
use Rattle.short_games.specs.Number.{half, is_even, count_tree, whole, num, number_tree}
use Rattle.short_games.specs.NumberText.{same, same_each, Fraction, over, between, guess, number_of, fraction_text, text_of_number, number_text}
use Rattle.short_games.specs.Text.{text, texts, text_or, open_brace, bar, close_brace}
use Rattle.short_games.specs.TextOrder.{tree_text}
use Rattle.short_games.proofs.NumberLaws.{half-even, half-odd, is_even-double, num-even, num-odd}
use Rattle.short_games.proofs.StopLaws.{num-scaled}

abbrev pub fraction : ℕ → ℤ → Fraction
fraction e n = record { exponent = e; numerator = n }

-- x is m / 2 ^ e in lowest terms
pub record IsReduced (e : ℕ) (m : ℤ) (x : Fraction) : Type 0 where
  pub spare : ℕ
  pub exponents : spare + x.exponent ≡ e
  pub scaled : x.numerator *ℤ pos (2 ^ spare) ≡ m
  pub least : (x.exponent ≡ 0) ⊎ (is_even x.numerator ≡ false)

pub once : (m : ℤ) → m *ℤ pos (2 ^ 0) ≡ m
once m = omega (arith, ints)

doubled : (m : ℤ) (k : ℕ) → m *ℤ pos (2 ^ suc k) ≡ (m *ℤ pos (2 ^ k)) +ℤ (m *ℤ pos (2 ^ k))
doubled m k = ap (λ p. m *ℤ pos p) (let s : 2 ^ suc k ≡ 2 ^ k + 2 ^ k = omega arith in s) ∙ omega (arith, ints)

-- integers
guess-count : (n : ℕ) → guess (count_tree n) ≡ fraction 0 (pos n)
unfolding guess count_tree
guess-count zero = refl
guess-count (suc n) = ap (fraction 0) (ap (λ (y : Fraction). y.numerator +ℤ pos 1) (guess-count n) ∙ omega (arith, ints))

guess-negative : (n : ℕ) → guess (neg (count_tree (suc n))) ≡ fraction 0 (negsuc n)
unfolding guess count_tree neg
guess-negative zero = ap (fraction 0) (omega (arith, ints))
guess-negative (suc n) = ap (fraction 0) (ap (λ (y : Fraction). y.numerator +ℤ negsuc 0) (guess-negative n) ∙ omega (arith, ints))

guess-whole : (m : ℤ) → guess (whole m) ≡ fraction 0 m
unfolding whole
guess-whole (pos n) = guess-count n
guess-whole (negsuc n) = guess-negative n

-- an odd number is in lowest terms
pub no_spare : (e : ℕ) (m : ℤ) (x : Fraction) → IsReduced e m x → is_even m ≡ false → x.exponent ≡ e
no_spare e m x r f = at r.spare r.exponents r.scaled
  where
    at : (k : ℕ) → k + x.exponent ≡ e → x.numerator *ℤ pos (2 ^ k) ≡ m → x.exponent ≡ e
    at zero p q = omega (arith, p)
    at (suc k) p q = absurd (true≢false (sym (is_even-double (x.numerator *ℤ pos (2 ^ k))) ∙ ap is_even (sym (doubled x.numerator k) ∙ q) ∙ f))

-- of two neighbours one is odd
neighbour : (h : ℤ) → is_even h ≡ true → is_even (h +ℤ pos 1) ≡ false
neighbour h t = false_from_ne_true _ (λ e. omega (arith, ints, half-even h t, half-even (h +ℤ pos 1) e))

over-is : (e n : ℕ) (m : ℤ) (x : Fraction) → IsReduced e m x → n ≡ e → over n x ≡ m
over-is e n m x r p = ap (λ k. x.numerator *ℤ pos (2 ^ k)) (let s : n - x.exponent ≡ r.spare = omega (arith, r.exponents, p) in s) ∙ r.scaled

-- the number between two neighbours
between-is : (e : ℕ) (h m : ℤ) (x y : Fraction) → m ≡ h +ℤ h +ℤ pos 1 → is_even m ≡ false → IsReduced e h x → IsReduced e (h +ℤ pos 1) y → IsReduced (suc e) m (between x y)
between-is e h m x y p f r s =
    let e_is : max x.exponent y.exponent ≡ e = elim (cases_Bool (is_even h)) [
      | inl t ↦ omega (arith, r.exponents, s.exponents, no_spare e (h +ℤ pos 1) y s (neighbour h t))
      | inr o ↦ omega (arith, r.exponents, s.exponents, no_spare e h x r o)
    ] in
    let sum : over (max x.exponent y.exponent) x +ℤ over (max x.exponent y.exponent) y ≡ m = ap₂ ◌+ℤ◌ (over-is e _ h x r e_is) (over-is e _ (h +ℤ pos 1) y s e_is) ∙ omega (arith, ints, p) in
    record {
      spare = 0;
      exponents = omega (arith, e_is);
      scaled = once _ ∙ sum;
      least = inr (ap is_even sum ∙ f);
    }

pub guess-num : (e : ℕ) (m : ℤ) → IsReduced e m (guess (num e m))
unfolding num guess
guess-num zero m = subst (IsReduced 0 m) (sym (guess-whole m)) (record { spare = 0; exponents = refl; scaled = once m; least = inl refl })
guess-num (suc e) m = elim (cases_Bool (is_even m)) [
  | inl t ↦ subst (λ G. IsReduced (suc e) m (guess G)) (sym (num-even e m t)) (even t (guess-num e (half m)))
  | inr f ↦ subst (λ G. IsReduced (suc e) m (guess G)) (sym (num-odd e m f)) (odd f (guess-num e (half m)) (guess-num e (half m +ℤ pos 1)))
]
  where
    even : is_even m ≡ true → IsReduced e (half m) (guess (num e (half m))) → IsReduced (suc e) m (guess (num e (half m)))
    even t r = record {
      spare = suc r.spare;
      exponents = omega (arith, r.exponents);
      scaled = doubled _ r.spare ∙ ap₂ ◌+ℤ◌ r.scaled r.scaled ∙ sym (half-even m t);
      least = r.least;
    }

    odd : is_even m ≡ false → IsReduced e (half m) (guess (num e (half m))) → IsReduced e (half m +ℤ pos 1) (guess (num e (half m +ℤ pos 1))) → IsReduced (suc e) m (guess (node (more (num e (half m)) none) (more (num e (half m +ℤ pos 1)) none)))
    odd f r s = between-is e (half m) m _ _ (half-odd m f) f r s

mutual
  unfolding same

  pub same-refl : (G : Tree) → same G G ≡ true
  same-refl (node ls rs) = λ i. same_each-refl ls i && same_each-refl rs i

  pub same_each-refl : (Gs : Trees) → same_each Gs Gs ≡ true
  same_each-refl none = refl
  same_each-refl (more G Gs) = λ i. same-refl G i && same_each-refl Gs i

-- which number a number's tree is
pub number_of-num : (e : ℕ) (m : ℤ) → (x : Fraction) × IsReduced e m x × (number_of (num e m) ≡ Some x)
unfolding number_of
number_of-num e m =
    let x : Fraction = guess (num e m) in
    let r = guess-num e m in
    let one : num x.exponent x.numerator ≡ num e m = sym (num-scaled r.spare x.exponent x.numerator) ∙ ap₂ num r.exponents r.scaled in
    let test : same (num x.exponent x.numerator) (num e m) ≡ true = ap (λ G. same G (num e m)) one ∙ same-refl (num e m) in
    (x, r, ap (λ b. cond b (Some x) None) test)

-- two fractions in lowest terms of one number are one
one_lowest : (u m n : ℤ) (d e : ℕ) → IsLowest u m d → IsLowest u n e → fraction d m ≡ fraction e n
one_lowest u m n d e a b =
    let p : d ≡ e = omega (arith, a.lowest n e b.fraction, b.lowest m d a.fraction) in
    let q : m ≡ n = (let same : m *ℤ pos (2 ^ 60) ≡ n *ℤ pos (2 ^ 60) = sym a.fraction ∙ ap (λ k. u *ℤ pos (2 ^ k)) p ∙ b.fraction in omega (arith, ints, same)) in
    λ i. fraction (p i) (q i)

scaled-twice : (p : ℤ) (d a : ℕ) → (p *ℤ pos (2 ^ d)) *ℤ pos (2 ^ a) ≡ p *ℤ pos (2 ^ (d + a))
scaled-twice p d zero = once _ ∙ ap (λ k. p *ℤ pos (2 ^ k)) (omega arith)
scaled-twice p d (suc a) = doubled (p *ℤ pos (2 ^ d)) a ∙ ap₂ ◌+ℤ◌ (scaled-twice p d a) (scaled-twice p d a) ∙ sym (doubled p (d + a)) ∙ ap (λ k. p *ℤ pos (2 ^ k)) (omega arith)

pub reduced-lowest : (u : ℤ) (x : Fraction) → IsReduced 60 u x → IsLowest u x.numerator x.exponent
reduced-lowest u x r = lowest u x.numerator x.exponent
    (ap (λ v. v *ℤ pos (2 ^ x.exponent)) (sym r.scaled) ∙ scaled-twice x.numerator r.spare x.exponent ∙ ap (λ k. x.numerator *ℤ pos (2 ^ k)) r.exponents)
    (elim r.least [ inl z ↦ inl z | inr f ↦ inr (λ h e. true≢false (sym (is_even-double h) ∙ ap is_even e ∙ f)) ])

pub number_of-lowest : (u n : ℤ) (e : ℕ) → IsLowest u n e → number_of (number_tree u) ≡ Some (fraction e n)
number_of-lowest u n e l = let x = number_of-num 60 u in x.2 ∙ ap Some (one_lowest u x.0.numerator n x.0.exponent e (reduced-lowest u x.0 x.1) l)

-- the text of a tree that is a number's, with a text behind it
pub text-number : (G : Tree) (t s : List ℕ) → number_text G ≡ Some t → text number_text G s ≡ t ++ s
unfolding text
text-number (node ls rs) t s e = ap (λ o. text_or o (open_brace ∷ texts number_text ls (bar ∷ texts number_text rs (close_brace ∷ s))) s) e

pub text-braces : (ls rs : Trees) (s : List ℕ) → number_text (node ls rs) ≡ None → text number_text (node ls rs) s ≡ open_brace ∷ texts number_text ls (bar ∷ texts number_text rs (close_brace ∷ s))
unfolding text
text-braces ls rs s e = ap (λ o. text_or o (open_brace ∷ texts number_text ls (bar ∷ texts number_text rs (close_brace ∷ s))) s) e

pub lowest-text : (u n : ℤ) (e : ℕ) → IsLowest u n e → tree_text (number_tree u) ≡ fraction_text (fraction e n)
unfolding tree_text
lowest-text u n e l = text-number (number_tree u) (fraction_text (fraction e n)) [] (ap text_of_number (number_of-lowest u n e l)) ∙ append-nil _

-- a numerator and an exponent in lowest terms go together
pub lowest-both : (u m n : ℤ) (d e : ℕ) → IsLowest u m d → IsLowest u n e → IsLowest u m e
lowest-both u m n d e a b = subst (λ (x : Fraction). IsLowest u x.numerator e) (sym (one_lowest u m n d e a b)) b
