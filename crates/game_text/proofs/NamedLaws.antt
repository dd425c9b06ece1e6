-- Canonical trees of one named text are one tree.
use Rattle.std.proofs.Common.{ℕ, zero, suc, ◌+◌, ◌<◌, ◌≡◌, ◌⊎◌, List, [], ◌∷◌, ◌++◌, arith, refl, inl, inr, sym, ◌∙◌, ap, subst, Some, None, append-nil}
use Rattle.std.specs.Prelude.{Option, ◌↔◌}
use Rattle.short_games.specs.Tree.{Tree, Trees, node, none, more, left, right, Has, size}
use Rattle.short_games.specs.Order.{◌≤ᵍ◌, ◌≡ᵍ◌}
use Rattle.short_games.specs.Text.{bar, close_brace}
use Rattle.short_games.specs.TextOrder.{TextBefore, IsCanonicalTree}
use Rattle.short_games.proofs.OrderLaws.{le-refl, size-left, size-right}
use Rattle.short_games.proofs.FormLaws.{by_better}
use Rattle.short_games.proofs.CanonicalLaws.{canonical-left, canonical-right}
use Rattle.short_games.proofs.ReductionLaws.{canonical-same}
use Rattle.short_games.proofs.TextOrderLaws.{text-order}
use Rattle.game_text.specs.NamedText.{name, in_braces, joined, name_or, named_text, named_texts}
use Rattle.game_text.proofs.SpelledTextLaws.{IsSpelled, plain, braced, AreSpelled, no_texts, spelled-insert, plain-brace, braces-apart}
use Rattle.game_text.proofs.NameKindLaws.{is-named, one-named, named-plain}
use Rattle.game_text.proofs.TextListLaws.{In, insert-in, in-insert_new, in-insert_old}

-- the text of a tree with a name, and of one without
pub text-named : (G : Tree) (t : List ℕ) → name G ≡ Some t → named_text G ≡ t
unfolding named_text
text-named (node ls rs) t e = ap (λ o. name_or o (in_braces (named_texts ls) (named_texts rs))) e

pub text-unnamed : (ls rs : Trees) → name (node ls rs) ≡ None → named_text (node ls rs) ≡ in_braces (named_texts ls) (named_texts rs)
unfolding named_text
text-unnamed ls rs e = ap (λ o. name_or o (in_braces (named_texts ls) (named_texts rs))) e

-- the texts of a list are those of its trees
pub in-named : (Gs : Trees) (X : Tree) → Has Gs X → In (named_text X) (named_texts Gs)
unfolding named_text
in-named none X h = absurd h
in-named (more G Gs) X (inl e) = subst (λ z. In (named_text z) (named_texts (more G Gs))) (sym e) (in-insert_new (named_text G) (named_texts Gs))
in-named (more G Gs) X (inr h) = in-insert_old (named_text G) (named_texts Gs) (named_text X) (in-named Gs X h)

pub named-in : (Gs : Trees) (t : List ℕ) → In t (named_texts Gs) → (X : Tree) × Has Gs X × (t ≡ named_text X)
unfolding named_text
named-in none t i = absurd i
named-in (more G Gs) t i = elim (insert-in (named_text G) (named_texts Gs) t i) [
  | inl e ↦ (G, inl refl, e)
  | inr j ↦ (let r = named-in Gs t j in (r.0, inr r.1, r.2))
]

mutual
  unfolding named_text

  pub spelled-text : (G : Tree) → IsSpelled (named_text G)
  spelled-text (node ls rs) = at (name (node ls rs)) refl (spelled-texts ls) (spelled-texts rs)
    where
      at : (o : Option (List ℕ)) → name (node ls rs) ≡ o → AreSpelled (named_texts ls) → AreSpelled (named_texts rs) → IsSpelled (name_or o (in_braces (named_texts ls) (named_texts rs)))
      at (Some t) e a b = let r = named-plain (node ls rs) t (is-named (node ls rs) t e) in plain t r.0 r.1
      at None e a b = braced (named_texts ls) (named_texts rs) a b

  pub spelled-texts : (Gs : Trees) → AreSpelled (named_texts Gs)
  spelled-texts none = no_texts
  spelled-texts (more G Gs) = spelled-insert (named_text G) (named_texts Gs) (spelled-text G) (spelled-texts Gs)

not-braces : (G : Tree) (t : List ℕ) (ls rs : List (List ℕ)) → name G ≡ Some t → t ≡ in_braces ls rs → ⊥
not-braces G t ls rs p e = let r = named-plain G t (is-named G t p) in plain-brace t [] (joined ls ++ (bar ∷ (joined rs ++ (close_brace ∷ [])))) r.0 r.1 (append-nil t ∙ e)

canonical-option : (G X : Tree) → IsCanonicalTree G → Has (left G) X ⊎ Has (right G) X → IsCanonicalTree X
canonical-option G X c (inl h) = canonical-left TextBefore text-order.irreflexive text-order.transitive G X c h
canonical-option G X c (inr h) = canonical-right TextBefore text-order.irreflexive text-order.transitive G X c h

abbrev Same : Tree → Tree → Type 0
Same G H = IsCanonicalTree G → IsCanonicalTree H → named_text G ≡ named_text H → G ≡ H

-- one side of two trees whose texts are the same
covered : (ls ms : Trees) → ((L M : Tree) → Has ls L → Has ms M → named_text L ≡ named_text M → L ≡ M) → named_texts ls ≡ named_texts ms → (L : Tree) → Has ls L → Has ms L
covered ls ms f e L h = let r = named-in ms (named_text L) (subst (In (named_text L)) e (in-named ls L h)) in subst (Has ms) (sym (f L r.0 h r.1 r.2)) r.1

sides : (ls rs ms ns : Trees) → ((L M : Tree) → Has ls L → Has ms M → named_text L ≡ named_text M → L ≡ M) → ((R S : Tree) → Has rs R → Has ns S → named_text R ≡ named_text S → R ≡ S) → named_texts ls ≡ named_texts ms → named_texts rs ≡ named_texts ns → (node ls rs ≤ᵍ node ms ns) × (node ms ns ≤ᵍ node ls rs)
sides ls rs ms ns f g p q = (
  by_better (node ls rs) (node ms ns) (λ L h. (L, covered ls ms f p L h, le-refl L)) (λ S h. (S, covered ns rs (λ A B a b e. sym (g B A b a (sym e))) (sym q) S h, le-refl S)),
  by_better (node ms ns) (node ls rs) (λ L h. (L, covered ms ls (λ A B a b e. sym (f B A b a (sym e))) (sym p) L h, le-refl L)) (λ S h. (S, covered rs ns g q S h, le-refl S)),
)

same_step : (n : ℕ) → ((G H : Tree) → size G + size H < n → Same G H) → (G H : Tree) → size G + size H < suc n → Same G H
same_step n ih (node ls rs) (node ms ns) l c d e = at (name (node ls rs)) refl (name (node ms ns)) refl
  where
    at : (o : Option (List ℕ)) → name (node ls rs) ≡ o → (p : Option (List ℕ)) → name (node ms ns) ≡ p → node ls rs ≡ node ms ns
    at (Some t) p (Some u) q = one-named (node ls rs) (node ms ns) u (is-named (node ls rs) u (p ∙ ap (λ z. Some z) (sym (text-named (node ls rs) t p) ∙ e ∙ text-named (node ms ns) u q))) (is-named (node ms ns) u q)
    at (Some t) p None q = absurd (not-braces (node ls rs) t _ _ p (sym (text-named (node ls rs) t p) ∙ e ∙ text-unnamed ms ns q))
    at None p (Some u) q = absurd (not-braces (node ms ns) u _ _ q (sym (text-named (node ms ns) u q) ∙ sym e ∙ text-unnamed ls rs p))
    at None p None q =
        let r = braces-apart (named_texts ls) (named_texts rs) (named_texts ms) (named_texts ns) (spelled-texts ls) (spelled-texts rs) (spelled-texts ms) (spelled-texts ns) (sym (text-unnamed ls rs p) ∙ e ∙ text-unnamed ms ns q) in
        let s = sides ls rs ms ns
        (λ L M a b f. ih L M (omega (arith, l, size-left (node ls rs) L a, size-left (node ms ns) M b)) (canonical-option (node ls rs) L c (inl a)) (canonical-option (node ms ns) M d (inl b)) f)
        (λ R S a b f. ih R S (omega (arith, l, size-right (node ls rs) R a, size-right (node ms ns) S b)) (canonical-option (node ls rs) R c (inr a)) (canonical-option (node ms ns) S d (inr b)) f)
        r.0 r.1 in
        canonical-same (node ls rs) (node ms ns) c d s.0 s.1

same_within : (n : ℕ) (G H : Tree) → size G + size H < n → Same G H
same_within zero G H l = absurd (omega (arith, l))
same_within (suc n) G H l = same_step n (same_within n) G H l

pub named-one_to_one : (G H : Tree) → IsCanonicalTree G → IsCanonicalTree H → named_text G ≡ named_text H → G ≡ H
named-one_to_one G H = same_within (suc (size G + size H)) G H (omega arith)

pub named-games : (G H : Tree) → IsCanonicalTree G → IsCanonicalTree H → (named_text G ≡ named_text H) ↔ (G ≡ᵍ H)
named-games G H c d = ((λ e. subst (λ z. G ≡ᵍ z) (named-one_to_one G H c d e) (le-refl G, le-refl G)), λ p. ap named_text (canonical-same G H c d p.0 p.1))
