-- Lists of texts in ascending order of their bytes.
use Rattle.std.proofs.Common.{Less, Equal, Greater, ℕ, zero, suc, ◌+◌, ◌<◌, ◌≡◌, ◌⊎◌, List, [], ◌∷◌, length, get_or, arith, refl, inl, inr, sym, ◌∙◌, ap, ap₂, subst, Bool, true, false, cond}
use Rattle.std.specs.Prelude.{not, ◌&&◌}
use Rattle.std.specs.List.{IsDistinct, Contains}
use Rattle.std.specs.List.Sorted.{IsPermutation, IsSortedBy, ties}
use Rattle.std.specs.Ordering.{is_lt, nat_cmp, ordering_reverse}
use Rattle.std.specs.declared.cmp.Ordering.{Ordering}
use Rattle.std.specs.Cmp.Lexicographic.{slice_cmp, nat_list_cmp_total}
use Rattle.std.specs.FinSet.{slice_cmp-IsAntisymmetric, nat_cmp-IsAntisymmetric}
use Rattle.std.proofs.lemmas.Bool.{true≢false}
use Rattle.std.proofs.lemmas.List.Sorted.{Contains-permutation}
use Rattle.short_games.specs.TextOrder.{lesser_text}
use Rattle.game_text.specs.NamedText.{insert_text}
use Rattle.game_text.proofs.SortingLaws.{order-is}

-- the order of texts
lt-less : (r : Ordering) → is_lt r ≡ true → r ≡ Less
lt-less Less e = refl
lt-less Equal e = absurd (true≢false (sym e))
lt-less Greater e = absurd (true≢false (sym e))

less-of : (t u : List ℕ) → lesser_text t u ≡ true → slice_cmp nat_cmp t u ≡ Less
less-of t u e = lt-less _ (order-is t u ∙ e)

lesser-of : (t u : List ℕ) → slice_cmp nat_cmp t u ≡ Less → lesser_text t u ≡ true
lesser-of t u e = sym (order-is t u) ∙ ap is_lt e

irreflexive : (t : List ℕ) → lesser_text t t ≡ true → ⊥
irreflexive t e = let l = less-of t t e in true≢false (ap is_lt (sym l ∙ nat_list_cmp_total.antisymm t t ∙ ap ordering_reverse l))

transitive : (t u v : List ℕ) → lesser_text t u ≡ true → lesser_text u v ≡ true → lesser_text t v ≡ true
transitive t u v p q = lesser-of t v (nat_list_cmp_total.trans t u v (less-of t u p) (less-of u v q))

pub total : (t u : List ℕ) → (lesser_text t u ≡ true) ⊎ ((t ≡ u) ⊎ (lesser_text u t ≡ true))
total t u = at (slice_cmp nat_cmp t u) refl
  where
    at : (r : Ordering) → slice_cmp nat_cmp t u ≡ r → (lesser_text t u ≡ true) ⊎ ((t ≡ u) ⊎ (lesser_text u t ≡ true))
    at Less e = inl (lesser-of t u e)
    at Equal e = inr (inl (slice_cmp-IsAntisymmetric nat_cmp-IsAntisymmetric t u e))
    at Greater e = inr (inr (lesser-of u t (nat_list_cmp_total.antisymm u t ∙ ap ordering_reverse e)))

-- a text of a list
abbrev pub In : List ℕ → List (List ℕ) → Type 0
In t [] = ⊥
In t (u ∷ us) = (t ≡ u) ⊎ In t us

in-at : (t : List ℕ) (us : List (List ℕ)) (k : ℕ) → k < length us → get_or us k t ≡ t → In t us
in-at t [] k l e = absurd (omega (arith, l))
in-at t (u ∷ us) zero l e = inl (sym e)
in-at t (u ∷ us) (suc k) l e = inr (in-at t us k (omega (arith, l)) e)

in-contains : (t : List ℕ) (us : List (List ℕ)) → In t us → Contains us t
in-contains t [] i = absurd i
in-contains t (u ∷ us) (inl e) = (0, omega arith, sym e)
in-contains t (u ∷ us) (inr i) = let r = in-contains t us i in (suc r.0, omega (arith, r.1), r.2)

pub in-permuted : (ts us : List (List ℕ)) → IsPermutation ts us → (t : List ℕ) → In t ts → In t us
in-permuted ts us p t i = let r = Contains-permutation ts us t p (in-contains t ts i) in in-at t us r.0 r.1 r.2

-- strictly ascending texts
abbrev pub Rises : List (List ℕ) → Type 0
Rises [] = Unit {0}
Rises (t ∷ []) = Unit {0}
Rises (t ∷ u ∷ us) = (lesser_text t u ≡ true) × Rises (u ∷ us)

rises-rest : (t : List ℕ) (us : List (List ℕ)) → Rises (t ∷ us) → Rises us
rises-rest t [] r = tt
rises-rest t (u ∷ us) r = r.1

first_before : (t : List ℕ) (us : List (List ℕ)) → Rises (t ∷ us) → (u : List ℕ) → In u us → lesser_text t u ≡ true
first_before t [] r u i = absurd i
first_before t (v ∷ us) r u (inl e) = subst (λ z. lesser_text t z ≡ true) (sym e) r.0
first_before t (v ∷ us) r u (inr i) = transitive t v u r.0 (first_before v us r.1 u i)

-- ascending lists of the same texts are the same list
pub same_texts : (ts us : List (List ℕ)) → Rises ts → Rises us → ((t : List ℕ) → In t ts → In t us) → ((t : List ℕ) → In t us → In t ts) → ts ≡ us
same_texts [] [] a b f g = refl
same_texts [] (u ∷ us) a b f g = absurd (g u (inl refl))
same_texts (t ∷ ts) [] a b f g = absurd (f t (inl refl))
same_texts (t ∷ ts) (u ∷ us) a b f g = ap₂ ◌∷◌ heads (same_texts ts us (rises-rest t ts a) (rises-rest u us b)
    (λ v x. elim (f v (inr x)) [ inl e ↦ absurd (irreflexive t (first_before t ts a t (subst (λ z. In z ts) (e ∙ sym heads) x))) | inr y ↦ y ])
    (λ v x. elim (g v (inr x)) [ inl e ↦ absurd (irreflexive u (first_before u us b u (subst (λ z. In z us) (e ∙ heads) x))) | inr y ↦ y ]))
  where
    heads : t ≡ u
    heads = elim (f t (inl refl)) [
      | inl e ↦ e
      | inr x ↦ elim (g u (inl refl)) [
        | inl e ↦ sym e
        | inr y ↦ absurd (irreflexive t (transitive t u t (first_before t ts a u y) (first_before u us b t x)))
      ]
    ]

-- a sorted list of different texts rises
apart : (b c : Bool) → c ≡ false → not b && not c ≡ false → b ≡ true
apart true c e f = refl
apart false c e f = absurd (true≢false (ap not (sym e) ∙ f))

pub rises-from : (ts : List (List ℕ)) → IsSortedBy lesser_text ts → IsDistinct (ties lesser_text) ts → Rises ts
unfolding IsDistinct
rises-from [] s d = tt
rises-from (t ∷ []) s d = tt
rises-from (t ∷ u ∷ us) s d = (
  apart (lesser_text t u) (lesser_text u t) (s 0 [] (omega arith) (omega arith)) d.0.0,
  rises-from (u ∷ us) (λ k e low h. subst (λ z. lesser_text (get_or (t ∷ u ∷ us) z e) (get_or (u ∷ us) k e) ≡ false) (let n : suc k + 1 ≡ suc (k + 1) = omega arith in n) (s (suc k) e (omega arith) (omega (arith, h)))) d.1,
)

-- a text that is put in its place
pub insert-in : (u : List ℕ) (us : List (List ℕ)) (t : List ℕ) → In t (insert_text u us) → (t ≡ u) ⊎ In t us
unfolding insert_text
insert-in u [] t i = i
insert-in u (v ∷ us) t i = at (lesser_text u v) (lesser_text v u) (insert-in u us t) i
  where
    at : (p q : Bool) → (In t (insert_text u us) → (t ≡ u) ⊎ In t us) → In t (cond p (u ∷ v ∷ us) (cond q (v ∷ insert_text u us) (v ∷ us))) → (t ≡ u) ⊎ In t (v ∷ us)
    at true q f h = h
    at false true f (inl e) = inr (inl e)
    at false true f (inr h) = elim (f h) [ inl e ↦ inl e | inr x ↦ inr (inr x) ]
    at false false f h = inr h

pub in-insert_new : (u : List ℕ) (us : List (List ℕ)) → In u (insert_text u us)
unfolding insert_text
in-insert_new u [] = inl refl
in-insert_new u (v ∷ us) = at (lesser_text u v) refl (lesser_text v u) refl (in-insert_new u us)
  where
    at : (p : Bool) → lesser_text u v ≡ p → (q : Bool) → lesser_text v u ≡ q → In u (insert_text u us) → In u (cond p (u ∷ v ∷ us) (cond q (v ∷ insert_text u us) (v ∷ us)))
    at true a q b h = inl refl
    at false a true b h = inr h
    at false a false b h = elim (total u v) [
      | inl x ↦ absurd (true≢false (sym x ∙ a))
      | inr y ↦ elim y [ inl e ↦ inl e | inr x ↦ absurd (true≢false (sym x ∙ b)) ]
    ]

pub in-insert_old : (u : List ℕ) (us : List (List ℕ)) (t : List ℕ) → In t us → In t (insert_text u us)
unfolding insert_text
in-insert_old u [] t i = absurd i
in-insert_old u (v ∷ us) t i = at (lesser_text u v) (lesser_text v u) (in-insert_old u us t) i
  where
    at : (p q : Bool) → (In t us → In t (insert_text u us)) → In t (v ∷ us) → In t (cond p (u ∷ v ∷ us) (cond q (v ∷ insert_text u us) (v ∷ us)))
    at true q f h = inr h
    at false true f (inl e) = inl e
    at false true f (inr h) = inr (f h)
    at false false f h = h

heads_rise : (z u : List ℕ) (us : List (List ℕ)) → lesser_text z u ≡ true → Rises (z ∷ us) → Rises (insert_text u us) → Rises (z ∷ insert_text u us)
unfolding insert_text
heads_rise z u [] b a i = (b, tt)
heads_rise z u (v ∷ us) b a i = at (lesser_text u v) (lesser_text v u) i
  where
    at : (p q : Bool) → Rises (cond p (u ∷ v ∷ us) (cond q (v ∷ insert_text u us) (v ∷ us))) → Rises (z ∷ cond p (u ∷ v ∷ us) (cond q (v ∷ insert_text u us) (v ∷ us)))
    at true q i = (b, i)
    at false true i = (a.0, i)
    at false false i = (a.0, i)

pub insert-rises : (u : List ℕ) (us : List (List ℕ)) → Rises us → Rises (insert_text u us)
unfolding insert_text
insert-rises u [] a = tt
insert-rises u (v ∷ us) a = at (lesser_text u v) refl (lesser_text v u) refl (insert-rises u us (rises-rest v us a))
  where
    at : (p : Bool) → lesser_text u v ≡ p → (q : Bool) → lesser_text v u ≡ q → Rises (insert_text u us) → Rises (cond p (u ∷ v ∷ us) (cond q (v ∷ insert_text u us) (v ∷ us)))
    at true b q c i = (b, a)
    at false b true c i = heads_rise v u us c a i
    at false b false c i = a
