-- The options of a position as one list of numbers.
use Rattle.std.proofs.Common.{◌≡◌, ℕ, ◌+◌, ◌*◌, ◌/◌, ◌%◌, ◌<◌, inl, inr, suc, zero, arith, refl, sym, ap, ◌∙◌, ◌⊎◌, List, [], ◌∷◌, ◌++◌, length, get_or, take, Option, None, Some, cond, nat_eq}
use Rattle.std.specs.Prelude.{Contains}
use Rattle.std.specs.List.{cons_option}
use Rattle.std.proofs.lemmas.Bool.{eq-eqb, eqb-true, cases_Bool}
use Rattle.std.proofs.lemmas.List.Elements.{filter_map-append}
use Rattle.std.proofs.lemmas.Option.{same_Some}
use Rattle.std.proofs.lemmas.List.{append-nil, take_more}
use Rattle.go_grid.specs.declared.grid.Colour.{Colour}
use Rattle.go_grid.specs.declared.grid.Colour.TheVariants.{Black, White}
use Rattle.local_value.specs.Remembered.{side, option_for, options_of}

-- the number of the player's option gives its id
its : (c : Colour) (id o : ℕ) → o ≡ 2 * id + side c → option_for c o ≡ Some id
its Black id o is = ap (λ t. cond t (Some (o / 2)) None) (eq-eqb (o % 2) 0 (omega (arith, is))) ∙ ap Some (omega (arith, is))
its White id o is = ap (λ t. cond t (Some (o / 2)) None) (eq-eqb (o % 2) 1 (omega (arith, is))) ∙ ap Some (omega (arith, is))

-- an id is that of its number alone
number : (c : Colour) (o i : ℕ) → option_for c o ≡ Some i → o ≡ 2 * i + side c
number c o i is = elim (cases_Bool (nat_eq (o % 2) (side c))) [
  | inl t ↦
      let half : o / 2 ≡ i = same_Some (o / 2) i (sym (ap (λ t. cond t (Some (o / 2)) None) t) ∙ is) in
      let rest : o % 2 ≡ side c = eqb-true (o % 2) (side c) t in
      omega (arith, half, rest)
  | inr f ↦ (let e : None ≡ Some i = sym (ap (λ t. cond t (Some (o / 2)) None) f) ∙ is in cc)
]

pushed : (c : Colour) (os : List ℕ) (o : ℕ) → options_of c (os ++ o ∷ []) ≡ options_of c os ++ cons_option (option_for c o) []
pushed c os o = filter_map-append (option_for c) os (o ∷ [])

-- the number of an option tells its player and its id
pub one_option : (c d : Colour) (i j : ℕ) → 2 * i + side c ≡ 2 * j + side d → (c ≡ d) × (i ≡ j)
one_option Black Black i j e = (refl, omega (arith, e))
one_option Black White i j e = absurd (omega (arith, e))
one_option White Black i j e = absurd (omega (arith, e))
one_option White White i j e = (refl, omega (arith, e))

either : (o : Option ℕ) (rest : List ℕ) (i : ℕ) → Contains (cons_option o rest) i → (o ≡ Some i) ⊎ Contains rest i
either None rest i h = inr h
either (Some x) rest i (zero, lt, e) = inl (ap Some e)
either (Some x) rest i (suc k, lt, e) = inr (k, omega (arith, lt), e)

in_front : (o : Option ℕ) (rest : List ℕ) (i : ℕ) → o ≡ Some i → Contains (cons_option o rest) i
in_front None rest i e = (let e : None ≡ Some i = e in cc)
in_front (Some x) rest i e = (0, omega arith, same_Some x i e)

behind : (o : Option ℕ) (rest : List ℕ) (i : ℕ) → Contains rest i → Contains (cons_option o rest) i
behind None rest i h = h
behind (Some x) rest i (k, lt, e) = (suc k, omega (arith, lt), e)

-- an id is among the player's options where its number is in the list
pub numbered : (c : Colour) (os : List ℕ) (i : ℕ) → Contains (options_of c os) i → Contains os (2 * i + side c)
numbered c [] i h = absurd (omega (arith, h.1))
numbered c (o ∷ os) i h = elim (either (option_for c o) (options_of c os) i h) [
  | inl e ↦ (0, omega arith, number c o i e)
  | inr r ↦ (let t = numbered c os i r in (suc t.0, omega (arith, t.1), t.2))
]

pub listed : (c : Colour) (os : List ℕ) (i : ℕ) → Contains os (2 * i + side c) → Contains (options_of c os) i
listed c [] i h = absurd (omega (arith, h.1))
listed c (o ∷ os) i (zero, lt, e) = in_front (option_for c o) (options_of c os) i (its c i o e)
listed c (o ∷ os) i (suc k, lt, e) = behind (option_for c o) (options_of c os) i (listed c os i (k, omega (arith, lt), e))

-- where the numbers of a list are among another's, so are its options
pub among_ids : (c : Colour) (os others : List ℕ) → ((n : ℕ) → Contains others n → Contains os n) → (i : ℕ) → Contains (options_of c others) i → Contains (options_of c os) i
among_ids c os others among i h = listed c os i (among (2 * i + side c) (numbered c others i h))

-- the ids of one option more
more : (c : Colour) (os : List ℕ) (k : ℕ) → k < length os → options_of c (take (k + 1) os) ≡ options_of c (take k os) ++ cons_option (option_for c (get_or os k 0)) []
more c os k inside = ap (options_of c) (take_more os k 0 inside) ∙ pushed c (take k os) (get_or os k 0)

pub more_some : (c : Colour) (os ids ids' : List ℕ) (k id : ℕ) → k < length os → ids ≡ options_of c (take k os) → option_for c (get_or os k 0) ≡ Some id
    → ids' ≡ ids ++ id ∷ [] → ids' ≡ options_of c (take (k + 1) os)
more_some c os ids ids' k id inside so_far is grown =
    grown ∙ ap (λ l. l ++ id ∷ []) so_far ∙ sym (more c os k inside ∙ ap (λ x. options_of c (take k os) ++ cons_option x []) is)

pub more_none : (c : Colour) (os ids : List ℕ) (k : ℕ) → k < length os → ids ≡ options_of c (take k os) → option_for c (get_or os k 0) ≡ None
    → ids ≡ options_of c (take (k + 1) os)
more_none c os ids k inside so_far is =
    so_far ∙ sym (more c os k inside ∙ ap (λ x. options_of c (take k os) ++ cons_option x []) is ∙ append-nil (options_of c (take k os)))
