-- The texts of options, sorted and joined, are what stands in the braces.
use Rattle.std.proofs.Common.{ℕ, suc, ◌<◌, ◌≡◌, List, [], ◌∷◌, length, get_or, map, arith, refl, inl, inr, sym, ◌∙◌, ap, ap₂, subst, None, Bool, true, false}
use Rattle.std.specs.Prelude.{Option, not, ◌&&◌}
use Rattle.std.specs.List.{IsDistinct, AllByRecursion}
use Rattle.std.specs.List.Sorted.{IsPermutation, ties}
use Rattle.std.proofs.lemmas.List.Sorted.{IsPermutation-sym}
use Rattle.std.proofs.lemmas.Map.Keys.{IsDistinct-IsPermutation}
use Rattle.short_games.specs.Tree.{Tree, Trees, none, more, Has, tree_at, AreDistinct}
use Rattle.short_games.specs.TextOrder.{lesser_text, sorted}
use Rattle.game_store.specs.Meaning.{pick, AreIds, IsAscending, AreCanonical}
use Rattle.game_store.specs.Forms.{IsOptions}
use Rattle.short_games.proofs.TextOrderLaws.{sorted-has, has-sorted}
use Rattle.game_text.specs.declared.texts.Span.{Span}
use Rattle.game_text.specs.NamedText.{name, in_braces, named_text, named_texts}
use Rattle.game_text.specs.inner.Written.{text_at, HaveTexts, AreSideTexts, IsBracesText}
use Rattle.game_text.proofs.TextListLaws.{total, In, in-permuted, Rises, same_texts, rises-from, insert-rises}
use Rattle.game_text.proofs.NamedLaws.{text-unnamed, in-named, named-in, named-one_to_one}

named_texts-rise : (Gs : Trees) → Rises (named_texts Gs)
unfolding named_text
named_texts-rise none = tt
named_texts-rise (more G Gs) = insert-rises (named_text G) (named_texts Gs) (named_texts-rise Gs)

-- the texts of trees, as they are listed
unfoldable texts_of : Trees → List (List ℕ)
texts_of none = []
texts_of (more G Gs) = named_text G ∷ texts_of Gs

in-texts : (Gs : Trees) (G : Tree) → Has Gs G → In (named_text G) (texts_of Gs)
unfolding texts_of
in-texts none G h = absurd h
in-texts (more H Hs) G (inl e) = inl (ap named_text e)
in-texts (more H Hs) G (inr h) = inr (in-texts Hs G h)

texts-has : (Gs : Trees) (t : List ℕ) → In t (texts_of Gs) → (G : Tree) × Has Gs G × (t ≡ named_text G)
unfolding texts_of
texts-has none t i = absurd i
texts-has (more H Hs) t (inl e) = (H, inl refl, e)
texts-has (more H Hs) t (inr i) = let r = texts-has Hs t i in (r.0, inr r.1, r.2)

-- those of ids differ
both-false : (b : Bool) → b && false ≡ false
both-false true = refl
both-false false = refl

no-tie : (t u : List ℕ) → (t ≡ u → ⊥) → ties lesser_text t u ≡ false
no-tie t u f = elim (total t u) [
  | inl a ↦ ap (λ b. not b && not (lesser_text u t)) a
  | inr b ↦ elim b [
    | inl e ↦ absurd (f e)
    | inr a ↦ ap (λ b. not (lesser_text t u) && not b) a ∙ both-false (not (lesser_text t u))
  ]
]

commutes : (a b : Bool) → a && b ≡ b && a
commutes true true = refl
commutes true false = refl
commutes false true = refl
commutes false false = refl

module _ (Ts : List Tree) (distinct : AreDistinct Ts) (canonical : AreCanonical Ts) where
  differ : (i : ℕ) (is : List ℕ) → i < length Ts → AreIds Ts is → ((j : ℕ) → j < length is → i < get_or is j 0) → AllByRecursion (λ y. ties lesser_text (named_text (tree_at Ts i)) y ≡ false) (texts_of (pick Ts is))
  unfolding texts_of
  differ i [] l a b = tt
  differ i (k ∷ ks) l a b = (
    no-tie _ _ (λ e. (let s : i ≡ k = distinct i k l (a 0 (omega arith)) (named-one_to_one (tree_at Ts i) (tree_at Ts k) (canonical i l) (canonical k (a 0 (omega arith))) e) in omega (arith, s, b 0 (omega arith)))),
    differ i ks l (λ j m. a (suc j) (omega (arith, m))) (λ j m. b (suc j) (omega (arith, m))),
  )

  all-differ : (is : List ℕ) → AreIds Ts is → IsAscending is → IsDistinct (ties lesser_text) (texts_of (pick Ts is))
  unfolding texts_of IsDistinct
  all-differ [] a b = tt
  all-differ (i ∷ is) a b = (
    differ i is (a 0 (omega arith)) (λ j m. a (suc j) (omega (arith, m))) (λ j m. b 0 (suc j) (omega arith) (omega (arith, m))),
    all-differ is (λ j m. a (suc j) (omega (arith, m))) (λ j k l m. b (suc j) (suc k) (omega (arith, l)) (omega (arith, m))),
  )

  module _ (bytes : List ℕ) (spans : ℕ → Option Span) where
    map-texts : (is : List ℕ) → HaveTexts Ts bytes spans is → map (λ id. text_at bytes (spans id)) is ≡ texts_of (pick Ts is)
    unfolding texts_of
    map-texts [] h = refl
    map-texts (i ∷ is) h = ap₂ ◌∷◌ (h 0 (omega arith)).1 (map-texts is (λ j l. h (suc j) (omega (arith, l))))

    -- sorted, they are those of the trees in order
    sorted-texts : (is : List ℕ) (ts : List (List ℕ)) → AreIds Ts is → IsAscending is → HaveTexts Ts bytes spans is → AreSideTexts bytes spans is ts → ts ≡ named_texts (sorted (pick Ts is))
    sorted-texts is ts a b h s =
        let q : IsPermutation (texts_of (pick Ts is)) ts = subst (λ (us : List (List ℕ)). IsPermutation us ts) (map-texts is h) s.0 in
        let d : IsDistinct (ties lesser_text) ts = IsDistinct-IsPermutation (ties lesser_text) (λ x y. commutes (not (lesser_text x y)) (not (lesser_text y x))) (texts_of (pick Ts is)) ts q (all-differ is a b) in
        same_texts ts (named_texts (sorted (pick Ts is))) (rises-from ts s.1 d) (named_texts-rise (sorted (pick Ts is)))
        (λ t i. (let r = texts-has (pick Ts is) t (in-permuted ts (texts_of (pick Ts is)) (IsPermutation-sym _ ts q) t i) in
        subst (λ z. In z (named_texts (sorted (pick Ts is)))) (sym r.2) (in-named (sorted (pick Ts is)) r.0 (has-sorted (pick Ts is) r.0 r.1))))
        (λ t i. (let r = named-in (sorted (pick Ts is)) t i in
        in-permuted (texts_of (pick Ts is)) ts q t (subst (λ z. In z (texts_of (pick Ts is))) (sym r.2) (in-texts (pick Ts is) r.0 (sorted-has (pick Ts is) r.0 r.1)))))

    -- the text of a form without a name
    pub braces-is : (id : ℕ) (ls rs t : List ℕ) → id < length Ts → IsOptions Ts id ls rs → HaveTexts Ts bytes spans ls → HaveTexts Ts bytes spans rs → IsBracesText bytes spans ls rs t → name (tree_at Ts id) ≡ None → t ≡ named_text (tree_at Ts id)
    braces-is id ls rs t l o hl hr b n =
        b.4 ∙ ap₂ in_braces (sorted-texts ls b.0 (λ j k. omega (arith, o.left_below j k, l)) o.left_ascends hl b.2) (sorted-texts rs b.1 (λ j k. omega (arith, o.right_below j k, l)) o.right_ascends hr b.3)
        ∙ sym (text-unnamed (sorted (pick Ts ls)) (sorted (pick Ts rs)) (ap name (sym o.tree) ∙ n)) ∙ ap named_text (sym o.tree)
