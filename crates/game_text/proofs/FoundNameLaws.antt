-- A nimber, up, down and a switch have their names, and a tree that is none of these and no number has none.
use Rattle.std.proofs.Common.{ℕ, zero, suc, ◌<◌, ◌≡◌, List, [], ◌∷◌, arith, refl, inl, inr, sym, ◌∙◌, ap, ap₂, subst, Some, None, ℤ, pos, negsuc, ◌<ℤ◌, true, false, cond, append-nil}
use Rattle.std.specs.Prelude.{Option, neg_ℤ, ◌&&◌}
use Rattle.std.proofs.lemmas.Bool.{true≢false, cases_Bool, lt-ltb}
use Rattle.std.proofs.lemmas.Int.{ints, by_lt_z}
use Rattle.short_games.specs.Order.{◌≤ᵍ◌}
use Rattle.short_games.specs.Tree.{Tree, left, right, Has, neg}
use Rattle.short_games.specs.Number.{num, IsNumberTree, number_tree}
use Rattle.short_games.specs.NumberText.{same, Fraction, guess, number_of, fraction_text, text_of_number, number_text}
use Rattle.short_games.specs.TextOrder.{tree_text, sorted}
use Rattle.short_games.proofs.NumberLaws.{num-left, num-right, num-le, num-lt, num-zero, neg-num}
use Rattle.short_games.proofs.NumberTextLaws.{same-is, number_of-is}
use Rattle.short_games.proofs.OrderLaws.{le-refl}
use Rattle.short_games.proofs.PartLaws.{number-option}
use Rattle.short_games.specs.Examples.{choice}
use Rattle.game_text.specs.NamedText.{nimbers_below, nimber, up, down, switch, count, nimber_of, is_positive, switch_of, nimber_name, nimber_text, switch_text, text_where, first_text, name}
use Rattle.game_text.proofs.NumberTextLaws.{guess-num, same-refl, text-number}
use Rattle.game_text.proofs.BracesLaws.{no-number_text}
use Rattle.short_games.proofs.StopLaws.{num-scaled}
use Rattle.game_canon.proofs.NumberSizeLaws.{number-same}
use Rattle.game_text.proofs.NimberLaws.{option-nimber, nimber-option, nimber-same, nimber-no_number, nimber-count}
use Rattle.game_text.proofs.NameKindLaws.{IsNamed, a_number, a_nimber, an_up, a_down, a_switch, is-named}

same-as : (G H : Tree) → G ≡ H → same G H ≡ true
same-as G H e = subst (λ z. same G z ≡ true) e (same-refl G)

not-same : (G H : Tree) → (G ≡ H → ⊥) → same G H ≡ false
not-same G H f = elim (cases_Bool (same G H)) [ inl t ↦ absurd (f (same-is G H t)) | inr e ↦ e ]

pub some-none : {A : Type 0} {x : A} → ◌≡◌ {A = Option A} (Some x) None → ⊥
some-none e = cc

-- the parts of a name
no-nimber : (G : Tree) → ((n : ℕ) → G ≡ nimber n → ⊥) → nimber_of G ≡ None
no-nimber G f = ap (λ b. cond b (Some (count (left G))) None) (not-same (nimber (count (left G))) G (λ e. f (count (left G)) (sym e)))

is-nimber : (n : ℕ) → nimber_of (nimber n) ≡ Some n
is-nimber n = ap (λ b. cond b (Some (count (sorted (nimbers_below n)))) None) (same-as (nimber (count (sorted (nimbers_below n)))) (nimber n) (ap (λ k. nimber k) (nimber-count n))) ∙ ap (λ k. Some k) (nimber-count n)

module _ (G : Tree) (no_number : IsNumberTree G → ⊥) where
  name-rest : name G ≡ first_text (nimber_text (nimber_of G)) (first_text (text_where (same up G) (94 ∷ [])) (first_text (text_where (same down G) (118 ∷ [])) (switch_text (switch_of G))))
  unfolding name
  name-rest = ap (λ o. first_text o (first_text (nimber_text (nimber_of G)) (first_text (text_where (same up G) (94 ∷ [])) (first_text (text_where (same down G) (118 ∷ [])) (switch_text (switch_of G)))))) (no-number_text G no_number)

  pub nimber-named : (n : ℕ) → G ≡ nimber n → name G ≡ Some (nimber_name n)
  nimber-named n e = name-rest ∙ ap (λ o. first_text (nimber_text o) (first_text (text_where (same up G) (94 ∷ [])) (first_text (text_where (same down G) (118 ∷ [])) (switch_text (switch_of G))))) (ap nimber_of e ∙ is-nimber n)

  module _ (no_nimber : (n : ℕ) → G ≡ nimber n → ⊥) where
    name-others : name G ≡ first_text (text_where (same up G) (94 ∷ [])) (first_text (text_where (same down G) (118 ∷ [])) (switch_text (switch_of G)))
    name-others = name-rest ∙ ap (λ o. first_text (nimber_text o) (first_text (text_where (same up G) (94 ∷ [])) (first_text (text_where (same down G) (118 ∷ [])) (switch_text (switch_of G))))) (no-nimber G no_nimber)

    pub up-named : G ≡ up → name G ≡ Some (94 ∷ [])
    up-named e = name-others ∙ ap (λ b. first_text (text_where b (94 ∷ [])) (first_text (text_where (same down G) (118 ∷ [])) (switch_text (switch_of G)))) (same-as up G (sym e))

    pub down-named : G ≡ down → (G ≡ up → ⊥) → name G ≡ Some (118 ∷ [])
    down-named e f = name-others ∙ ap₂ (λ a b. first_text (text_where a (94 ∷ [])) (first_text (text_where b (118 ∷ [])) (switch_text (switch_of G)))) (not-same up G (λ p. f (sym p))) (same-as down G (sym e))

    name-last : (G ≡ up → ⊥) → (G ≡ down → ⊥) → name G ≡ switch_text (switch_of G)
    name-last f g = name-others ∙ ap₂ (λ a b. first_text (text_where a (94 ∷ [])) (first_text (text_where b (118 ∷ [])) (switch_text (switch_of G)))) (not-same up G (λ p. f (sym p))) (not-same down G (λ p. g (sym p)))

  pub no-name : ((n : ℕ) → G ≡ nimber n → ⊥) → (G ≡ up → ⊥) → (G ≡ down → ⊥) → ((x : Fraction) → is_positive x.numerator ≡ true → G ≡ switch x → ⊥) → name G ≡ None
  no-name f g h k = at (name G) refl
    where
      of-kind : (t : List ℕ) → IsNamed G t → ⊥
      of-kind t (a_number x p e) = no_number (x.exponent, x.numerator, number_of-is G x p)
      of-kind t (a_nimber n l p e) = f n p
      of-kind t (an_up p e) = g p
      of-kind t (a_down p e) = h p
      of-kind t (a_switch x p q e) = k x p q.0

      at : (o : Option (List ℕ)) → name G ≡ o → name G ≡ None
      at (Some t) e = absurd (of-kind t (is-named G t e))
      at None e = e

-- up and down
pub up-no_number : IsNumberTree up → ⊥
up-no_number n = nimber-no_number 1 (omega arith) (number-option up (nimber 1) n (inr (inl refl)))

pub down-no_number : IsNumberTree down → ⊥
down-no_number n = nimber-no_number 1 (omega arith) (number-option down (nimber 1) n (inl (inl refl)))

one-choice : (X Y : Tree) (n : ℕ) → choice X Y ≡ nimber n → X ≡ nimber 0
one-choice X Y zero e = absurd (let r = option-nimber 0 X (subst (λ z. Has (left z) X) e (inl refl)) in omega (arith, r.1))
one-choice X Y (suc n) e = elim (subst (λ z. Has (left z) (nimber 0)) (sym e) (nimber-option (suc n) 0 (omega arith))) [ inl p ↦ sym p | inr h ↦ absurd h ]

pub lefts-same : (X Y Z W : Tree) → choice X Y ≡ choice Z W → X ≡ Z
lefts-same X Y Z W e = elim (subst (λ z. Has (left z) X) e (inl refl)) [ inl p ↦ p | inr h ↦ absurd h ]

pub rights-same : (X Y Z W : Tree) → choice X Y ≡ choice Z W → Y ≡ W
rights-same X Y Z W e = elim (subst (λ z. Has (right z) Y) e (inl refl)) [ inl p ↦ p | inr h ↦ absurd h ]

one-is_zero : nimber 1 ≡ nimber 0 → ⊥
one-is_zero e = (let q = nimber-same 1 0 e in omega (arith, q))

pub down-not_up : down ≡ up → ⊥
down-not_up e = one-is_zero (lefts-same (nimber 1) (nimber 0) (nimber 0) (nimber 1) e)

pub name-nimber : (n : ℕ) → 0 < n → name (nimber n) ≡ Some (nimber_name n)
name-nimber n l = nimber-named (nimber n) (nimber-no_number n l) n refl

pub name-number : (G : Tree) (t : List ℕ) → number_text G ≡ Some t → name G ≡ Some t
unfolding name
name-number G t e = ap (λ o. first_text o (first_text (nimber_text (nimber_of G)) (first_text (text_where (same up G) (94 ∷ [])) (first_text (text_where (same down G) (118 ∷ [])) (switch_text (switch_of G)))))) e

-- a number, as it is read off its tree
record IsRead (u : ℤ) (x : Fraction) : Type 0 where
  found : number_of (number_tree u) ≡ Some x
  tree : num x.exponent x.numerator ≡ number_tree u

read-off : (u : ℤ) → IsRead u (guess (number_tree u))
unfolding number_of
read-off u =
    let x : Fraction = guess (number_tree u) in
    let r = guess-num 60 u in
    let one : num x.exponent x.numerator ≡ number_tree u = sym (num-scaled r.spare x.exponent x.numerator) ∙ ap₂ num r.exponents r.scaled in
    record { found = ap (λ b. cond b (Some x) None) (same-as (num x.exponent x.numerator) (number_tree u) one); tree = one }

pub number-text : (u : ℤ) → number_text (number_tree u) ≡ Some (tree_text (number_tree u))
unfolding tree_text
number-text u = let r = read-off u in let e : number_text (number_tree u) ≡ Some (fraction_text (guess (number_tree u))) = ap text_of_number r.found in
    e ∙ ap (λ (t : List ℕ). Some t) (sym (text-number (number_tree u) (fraction_text (guess (number_tree u))) [] e ∙ append-nil _))

read-text : (u : ℤ) → fraction_text (guess (number_tree u)) ≡ tree_text (number_tree u)
read-text u = let r = read-off u in some-texts (sym (ap text_of_number r.found) ∙ number-text u)
  where
    some-texts : {s t : List ℕ} → ◌≡◌ {A = Option (List ℕ)} (Some s) (Some t) → s ≡ t
    some-texts e = cc

positive : (e : ℕ) (m : ℤ) → (num e m ≤ᵍ num e (pos 0) → ⊥) → is_positive m ≡ true
positive e (pos zero) f = absurd (f (le-refl _))
positive e (pos (suc n)) f = lt-ltb 0 (suc n) (omega arith)
positive e (negsuc n) f = absurd (f (num-le e (negsuc n) (pos 0) (omega (arith, ints))))

above-zero : (m : ℤ) → is_positive m ≡ true → pos 0 <ℤ m
above-zero (pos zero) p = absurd (true≢false (sym p))
above-zero (pos (suc n)) p = omega (arith, ints)
above-zero (negsuc n) p = absurd (true≢false (sym p))

zeros : (d e : ℕ) → num d (pos 0) ≡ num e (pos 0)
zeros d e = num-zero d ∙ sym (num-zero e)

-- the switch of a number above 0
abbrev pub switch_tree : ℤ → Tree
switch_tree u = choice (number_tree u) (number_tree (neg_ℤ u))

switch-no_number : (u : ℤ) → pos 0 <ℤ u → IsNumberTree (switch_tree u) → ⊥
switch-no_number u l (e, m, q) =
    let a = num-left e m (number_tree u) (subst (λ z. Has (left z) (number_tree u)) q (inl refl)) in
    let b = num-right e m (number_tree (neg_ℤ u)) (subst (λ z. Has (right z) (number_tree (neg_ℤ u))) q (inl refl)) in
    num-lt e a.0 b.0 (omega (arith, ints, a.1, b.1)) (subst (λ z. z ≤ᵍ num e a.0) b.2 (subst (λ z. number_tree (neg_ℤ u) ≤ᵍ z) a.2 (num-le 60 (neg_ℤ u) u (omega (arith, ints, l)))))

pub zero-tree : nimber 0 ≡ number_tree (pos 0)
unfolding nimbers_below sorted
zero-tree = sym (num-zero 60)

switch-no_nimber : (u : ℤ) → pos 0 <ℤ u → (n : ℕ) → switch_tree u ≡ nimber n → ⊥
switch-no_nimber u l n e = num-lt 60 (pos 0) u l (subst (λ z. z ≤ᵍ number_tree (pos 0)) (sym (one-choice (number_tree u) (number_tree (neg_ℤ u)) n e ∙ zero-tree)) (le-refl (number_tree (pos 0))))

no-star : (u : ℤ) → number_tree u ≡ nimber 1 → ⊥
no-star u e = nimber-no_number 1 (omega arith) (60, u, sym e)

pub name-switch : (u : ℤ) → pos 0 <ℤ u → name (switch_tree u) ≡ Some (43 ∷ 45 ∷ tree_text (number_tree u))
name-switch u l =
    let x : Fraction = guess (number_tree u) in
    let r = read-off u in
    let p : is_positive x.numerator ≡ true = positive x.exponent x.numerator (λ h. num-lt 60 (pos 0) u l (subst (λ z. z ≤ᵍ number_tree (pos 0)) r.tree (subst (λ z. num x.exponent x.numerator ≤ᵍ z) (zeros x.exponent 60) h))) in
    let negative : num x.exponent (neg_ℤ x.numerator) ≡ number_tree (neg_ℤ u) = sym (neg-num x.exponent x.numerator) ∙ ap neg r.tree ∙ neg-num 60 u in
    let test : (is_positive x.numerator && same (switch x) (switch_tree u)) ≡ true = ap₂ ◌&&◌ p (same-as (switch x) (switch_tree u) (ap₂ choice r.tree negative)) in
    name-last (switch_tree u) (switch-no_number u l) (switch-no_nimber u l)
    (λ e. no-star (neg_ℤ u) (rights-same (number_tree u) (number_tree (neg_ℤ u)) (nimber 0) (nimber 1) e))
    (λ e. no-star u (lefts-same (number_tree u) (number_tree (neg_ℤ u)) (nimber 1) (nimber 0) e))
    ∙ ap (λ b. switch_text (cond b (Some x) None)) test ∙ ap (λ t. Some (43 ∷ 45 ∷ t)) (read-text u)

-- the numbers of a switch
pub switch-numbers : (u v : ℤ) (x : Fraction) → is_positive x.numerator ≡ true → number_tree u ≡ num x.exponent x.numerator → number_tree v ≡ num x.exponent (neg_ℤ x.numerator) → (pos 0 <ℤ u) × (v ≡ neg_ℤ u)
switch-numbers u v x p a b = (
  by_lt_z (pos 0) u (λ l. l)
      (λ l. absurd (num-lt x.exponent (pos 0) x.numerator (above-zero x.numerator p) (subst (λ z. z ≤ᵍ num x.exponent (pos 0)) a (subst (λ z. number_tree u ≤ᵍ z) (zeros 60 x.exponent) (num-le 60 u (pos 0) l))))),
  number-same v (neg_ℤ u) (b ∙ sym (neg-num x.exponent x.numerator) ∙ ap neg (sym a) ∙ neg-num 60 u),
)
