-- What a name says of its tree.
use Rattle.std.proofs.Common.{ℕ, zero, suc, ◌<◌, ◌≡◌, ◌⊎◌, List, [], ◌∷◌, arith, refl, inl, inr, sym, ◌∙◌, ap, subst, Some, None, ℤ, pos, negsuc, Bool, true, false, cond}
use Rattle.std.specs.Prelude.{Option, nat_lt, ◌&&◌, ◌/◌, ◌%◌, ◌+◌, ◌^◌}
use Rattle.std.proofs.lemmas.Bool.{ltb-true, ltb-false, and_parts}
use Rattle.short_games.specs.Tree.{Tree, left}
use Rattle.short_games.specs.Number.{num}
use Rattle.short_games.specs.NumberText.{same, Fraction, guess, number_of, digits_within, digits, integer_text, denominator_text, fraction_text, text_of_number, number_text}
use Rattle.short_games.specs.TextOrder.{sorted}
use Rattle.short_games.proofs.NumberLaws.{num-zero}
use Rattle.short_games.proofs.NumberTextLaws.{same-is, number_text-bytes, number_text-some, number_text-one_to_one, digits-one_to_one, fraction-one_to_one}
use Rattle.short_games.proofs.TextLaws.{IsDigit, AreDigits, IsMore, head-is, tail-is}
use Rattle.game_text.specs.NamedText.{nimbers_below, nimber, up, down, switch, count, nimber_of, is_positive, first_of, nimber_name, nimber_text, switch_text, text_where, first_text, name}
use Rattle.game_text.proofs.NumberTextLaws.{number_of-num}
use Rattle.game_text.proofs.SpelledTextLaws.{ArePlain}

-- t is a name of G
pub data IsNamed (G : Tree) (t : List ℕ) : Type 0 where
  a_number : (x : Fraction) → number_of G ≡ Some x → t ≡ fraction_text x → IsNamed G t
  a_nimber : (n : ℕ) → 0 < n → G ≡ nimber n → t ≡ nimber_name n → IsNamed G t
  an_up : G ≡ up → t ≡ 94 ∷ [] → IsNamed G t
  a_down : G ≡ down → t ≡ 118 ∷ [] → IsNamed G t
  a_switch : (x : Fraction) → is_positive x.numerator ≡ true → (G ≡ switch x) × (guess (num x.exponent x.numerator) ≡ x) → t ≡ 43 ∷ 45 ∷ fraction_text x → IsNamed G t

first-is : (o p : Option (List ℕ)) (t : List ℕ) → first_text o p ≡ Some t → (o ≡ Some t) ⊎ ((o ≡ None) × (p ≡ Some t))
first-is (Some u) p t e = inl e
first-is None p t e = inr (refl, e)

where-is : (b : Bool) (u t : List ℕ) → text_where b u ≡ Some t → (b ≡ true) × (t ≡ u)
where-is true u t e = (refl, cc)
where-is false u t e = absurd (cc)

nimber-is : (G : Tree) (c : ℕ) (b : Bool) (t : List ℕ) → same (nimber c) G ≡ b → nimber_text (cond b (Some c) None) ≡ Some t → (G ≡ nimber c) × (t ≡ nimber_name c)
nimber-is G c true t p e = (sym (same-is (nimber c) G p), cc)
nimber-is G c false t p e = absurd (cc)

switch-is : (G : Tree) (x : Fraction) (b : Bool) (t : List ℕ) → (is_positive x.numerator && same (switch x) G) ≡ b → switch_text (cond b (Some x) None) ≡ Some t → (is_positive x.numerator ≡ true) × (G ≡ switch x) × (t ≡ 43 ∷ 45 ∷ fraction_text x)
switch-is G x true t p e = let r = and_parts (is_positive x.numerator) (same (switch x) G) p in (r.0, sym (same-is (switch x) G r.1), cc)
switch-is G x false t p e = absurd (cc)

number-is : (o : Option Fraction) (t : List ℕ) → text_of_number o ≡ Some t → (x : Fraction) × (o ≡ Some x) × (t ≡ fraction_text x)
number-is (Some x) t e = (x, refl, cc)
number-is None t e = absurd (cc)

zero-text : number_text (nimber 0) ≡ None → ⊥
unfolding nimbers_below sorted
zero-text e = let r = number_of-num 0 (pos 0) in let f : number_of (nimber 0) ≡ Some r.0 = ap number_of (sym (num-zero 0)) ∙ r.2 in (let g : text_of_number (Some r.0) ≡ None = ap text_of_number (sym f) ∙ e in cc)

some-nimber : (n : ℕ) (G : Tree) → number_text G ≡ None → G ≡ nimber n → 0 < n
some-nimber zero G e p = absurd (zero-text (ap number_text (sym p) ∙ e))
some-nimber (suc n) G e p = omega arith

pub is-named : (G : Tree) (t : List ℕ) → name G ≡ Some t → IsNamed G t
unfolding name
is-named G t e = elim (first-is (number_text G) _ t e) [
  | inl a ↦ (let r = number-is (number_of G) t a in a_number r.0 r.1 r.2)
  | inr b ↦ elim (first-is (nimber_text (nimber_of G)) _ t b.1) [
    | inl a ↦ (let r = nimber-is G (count (left G)) _ t refl a in a_nimber (count (left G)) (some-nimber (count (left G)) G b.0 r.0) r.0 r.1)
    | inr c ↦ elim (first-is (text_where (same up G) (94 ∷ [])) _ t c.1) [
      | inl a ↦ (let r = where-is (same up G) (94 ∷ []) t a in an_up (sym (same-is up G r.0)) r.1)
      | inr d ↦ elim (first-is (text_where (same down G) (118 ∷ [])) _ t d.1) [
        | inl a ↦ (let r = where-is (same down G) (118 ∷ []) t a in a_down (sym (same-is down G r.0)) r.1)
        | inr f ↦ (let r = switch-is G (guess (first_of (left G))) _ t refl f.1 in a_switch (guess (first_of (left G))) r.0 (r.1, ap (λ z. guess (first_of (left z))) (sym r.1)) r.2)
      ]
    ]
  ]
]

-- the bytes of digits
digits-more : (steps n : ℕ) (s : List ℕ) → n < steps → AreDigits s → AreDigits (digits_within steps n s) × IsMore (digits_within steps n s)
unfolding digits_within
digits-more zero n s l d = absurd (omega (arith, l))
digits-more (suc steps) n s l d = at (nat_lt n 10) refl (λ p. digits-more steps (n / 10) ((48 + n % 10) ∷ s) (omega (arith, l, ltb-false n 10 p)) ((omega arith, omega arith), d))
  where
    at : (b : Bool) → nat_lt n 10 ≡ b → (nat_lt n 10 ≡ false → AreDigits (digits_within steps (n / 10) ((48 + n % 10) ∷ s)) × IsMore (digits_within steps (n / 10) ((48 + n % 10) ∷ s))) → AreDigits (cond b ((48 + n) ∷ s) (digits_within steps (n / 10) ((48 + n % 10) ∷ s))) × IsMore (cond b ((48 + n) ∷ s) (digits_within steps (n / 10) ((48 + n % 10) ∷ s)))
    at true p f = (((omega arith, omega (arith, ltb-true n 10 p)), d), tt)
    at false p f = f p

pub digits-bytes : (n : ℕ) (s : List ℕ) → AreDigits s → AreDigits (digits n s) × IsMore (digits n s)
digits-bytes n s d = digits-more (suc n) n s (omega arith) d

integer-bytes : (m : ℤ) (s : List ℕ) → AreDigits s → AreDigits (integer_text m s)
integer-bytes (pos n) s d = (digits-bytes n s d).0
integer-bytes (negsuc n) s d = ((omega arith, omega arith), (digits-bytes (suc n) s d).0)

denominator-bytes : (e : ℕ) → AreDigits (denominator_text e)
denominator-bytes zero = tt
denominator-bytes (suc e) = ((omega arith, omega arith), (digits-bytes (2 ^ suc e) [] tt).0)

-- how names begin
number-head : (G : Tree) (x : Fraction) (b : ℕ) (bs : List ℕ) → number_of G ≡ Some x → fraction_text x ≡ b ∷ bs → IsDigit b
number-head G x b bs e f = (subst AreDigits f (number_text-bytes G (fraction_text x) (ap text_of_number e))).0

nimber-one : (m n : ℕ) → 0 < m → 0 < n → nimber_name m ≡ nimber_name n → m ≡ n
nimber-one m n a b e = at (nat_lt m 2) refl (nat_lt n 2) refl (tail-is e)
  where
    some-digits : (k : ℕ) → [] ≡ digits k [] → ⊥
    some-digits k f = subst IsMore (sym f) (digits-bytes k [] tt).1

    at : (p : Bool) → nat_lt m 2 ≡ p → (q : Bool) → nat_lt n 2 ≡ q → cond p [] (digits m []) ≡ cond q [] (digits n []) → m ≡ n
    at true p true q f = (let x = ltb-true m 2 p in let y = ltb-true n 2 q in omega (arith, x, y, a, b))
    at true p false q f = absurd (some-digits n f)
    at false p true q f = absurd (some-digits m (sym f))
    at false p false q f = digits-one_to_one m n f

same-number : (G H : Tree) (x y : Fraction) → number_of G ≡ Some x → number_of H ≡ Some y → fraction_text x ≡ fraction_text y → G ≡ H
same-number G H x y p q e = number_text-one_to_one G H (fraction_text y) (ap text_of_number p ∙ ap (λ t. Some t) e) (ap text_of_number q)

-- trees of one name are one tree
pub one-named : (G H : Tree) (t : List ℕ) → IsNamed G t → IsNamed H t → G ≡ H
one-named G H t (a_number x p e) (a_number y q f) = same-number G H x y p q (sym e ∙ f)
one-named G H t (a_number x p e) (a_nimber n l q f) = absurd (omega (arith, number-head G x _ _ p (sym e ∙ f)))
one-named G H t (a_number x p e) (an_up q f) = absurd (omega (arith, number-head G x _ _ p (sym e ∙ f)))
one-named G H t (a_number x p e) (a_down q f) = absurd (omega (arith, number-head G x _ _ p (sym e ∙ f)))
one-named G H t (a_number x p e) (a_switch y l q f) = absurd (omega (arith, number-head G x _ _ p (sym e ∙ f)))
one-named G H t (a_nimber n l q f) (a_number x p e) = absurd (omega (arith, number-head H x _ _ p (sym e ∙ f)))
one-named G H t (a_nimber m k p e) (a_nimber n l q f) = p ∙ ap (λ i. nimber i) (nimber-one m n k l (sym e ∙ f)) ∙ sym q
one-named G H t (a_nimber m k p e) (an_up q f) = absurd (omega (arith, head-is (sym e ∙ f)))
one-named G H t (a_nimber m k p e) (a_down q f) = absurd (omega (arith, head-is (sym e ∙ f)))
one-named G H t (a_nimber m k p e) (a_switch y l q f) = absurd (omega (arith, head-is (sym e ∙ f)))
one-named G H t (an_up q f) (a_number x p e) = absurd (omega (arith, number-head H x _ _ p (sym e ∙ f)))
one-named G H t (an_up p e) (a_nimber n l q f) = absurd (omega (arith, head-is (sym e ∙ f)))
one-named G H t (an_up p e) (an_up q f) = p ∙ sym q
one-named G H t (an_up p e) (a_down q f) = absurd (omega (arith, head-is (sym e ∙ f)))
one-named G H t (an_up p e) (a_switch y l q f) = absurd (omega (arith, head-is (sym e ∙ f)))
one-named G H t (a_down q f) (a_number x p e) = absurd (omega (arith, number-head H x _ _ p (sym e ∙ f)))
one-named G H t (a_down p e) (a_nimber n l q f) = absurd (omega (arith, head-is (sym e ∙ f)))
one-named G H t (a_down p e) (an_up q f) = absurd (omega (arith, head-is (sym e ∙ f)))
one-named G H t (a_down p e) (a_down q f) = p ∙ sym q
one-named G H t (a_down p e) (a_switch y l q f) = absurd (omega (arith, head-is (sym e ∙ f)))
one-named G H t (a_switch y l q f) (a_number x p e) = absurd (omega (arith, number-head H x _ _ p (sym e ∙ f)))
one-named G H t (a_switch y l q f) (a_nimber n k p e) = absurd (omega (arith, head-is (sym e ∙ f)))
one-named G H t (a_switch y l q f) (an_up p e) = absurd (omega (arith, head-is (sym e ∙ f)))
one-named G H t (a_switch y l q f) (a_down p e) = absurd (omega (arith, head-is (sym e ∙ f)))
one-named G H t (a_switch x k p e) (a_switch y l q f) = p.0 ∙ ap (λ z. switch z) (fraction-one_to_one x y (tail-is (tail-is (sym e ∙ f)))) ∙ sym q.0

-- the bytes of names
digits-plain : (t : List ℕ) → AreDigits t → ArePlain t
digits-plain [] d = tt
digits-plain (x ∷ xs) d = ((omega (arith, d.0), λ e. omega (arith, d.0, e)), digits-plain xs d.1)

nimber-plain : (n : ℕ) → ArePlain (nimber_name n)
nimber-plain n = ((omega arith, λ e. omega (arith, e)), at (nat_lt n 2))
  where
    at : (b : Bool) → ArePlain (cond b [] (digits n []))
    at true = tt
    at false = digits-plain (digits n []) (digits-bytes n [] tt).0

fraction-plain : (x : Fraction) → ArePlain (fraction_text x)
fraction-plain x = digits-plain (fraction_text x) (integer-bytes x.numerator (denominator_text x.exponent) (denominator-bytes x.exponent))

pub named-plain : (G : Tree) (t : List ℕ) → IsNamed G t → ArePlain t × IsMore t
named-plain G t (a_number x p e) = subst (λ z. ArePlain z × IsMore z) (sym e) (digits-plain _ (number_text-bytes G (fraction_text x) (ap text_of_number p)), number_text-some G (fraction_text x) (ap text_of_number p))
named-plain G t (a_nimber n l p e) = subst (λ z. ArePlain z × IsMore z) (sym e) (nimber-plain n, tt)
named-plain G t (an_up p e) = subst (λ z. ArePlain z × IsMore z) (sym e) (((omega arith, λ q. omega (arith, q)), tt), tt)
named-plain G t (a_down p e) = subst (λ z. ArePlain z × IsMore z) (sym e) (((omega arith, λ q. omega (arith, q)), tt), tt)
named-plain G t (a_switch x l p e) = subst (λ z. ArePlain z × IsMore z) (sym e) (((omega arith, λ q. omega (arith, q)), ((omega arith, λ q. omega (arith, q)), fraction-plain x)), tt)
