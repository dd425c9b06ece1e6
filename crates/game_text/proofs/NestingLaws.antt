-- How deep the braces of a tree's named text nest is the tree's depth.
use Rattle.std.proofs.Common.{ℕ, suc, ◌+◌, ◌-◌, ◌<◌, ◌≤◌, ◌≡◌, List, [], ◌∷◌, ◌++◌, length, get_or, drop, arith, refl, inl, inr, sym, ◌∙◌, ap, ap₂, subst, Some, None, Bool, true, false, append-nil}
use Rattle.std.specs.Prelude.{Option, max, cond}
use Rattle.std.specs.Ordering.{ord_max, nat_cmp}
use Rattle.std.proofs.lemmas.Bool.{ne_eqb, true≢false}
use Rattle.std.proofs.lemmas.Bool.Decides.{nat_tests}
use Rattle.std.proofs.lemmas.List.{drop_all}
use Rattle.std.proofs.Math.Seq.{drop-cons}
use Rattle.short_games.specs.Tree.{Tree, Trees, node, none, more}
use Rattle.short_games.specs.Text.{open_brace, bar, close_brace}
use Rattle.short_games.specs.TextOrder.{lesser_text}
use Rattle.game_text.specs.NamedText.{name, insert_text, in_braces, name_or, named_text, named_texts, named_depth_or, named_depth, named_depths}
use Rattle.game_text.specs.inner.Nesting.{braces_after}
use Rattle.game_text.proofs.SpelledTextLaws.{IsPlain, ArePlain, behind_commas, row, braces-row}
use Rattle.game_text.proofs.NameKindLaws.{is-named, named-plain}
use Rattle.game_text.proofs.TextListLaws.{total}

-- the greatest number of open braces, where n are open and k is the greatest so far
unfoldable pub deepest : ℕ → ℕ → List ℕ → ℕ
deepest n k [] = k
deepest n k (x ∷ xs) = deepest (braces_after n x) (max k (braces_after n x)) xs

along-plain : (n x : ℕ) → IsPlain x → braces_after n x ≡ n
along-plain n x d = ap₂ (λ a b. cond a (n + 1) (cond b (n - 1) n)) (ne_eqb x open_brace (λ e. omega (arith, d.0, e))) (ne_eqb x close_brace (λ e. omega (arith, d.0, e)))

along-name : (t s : List ℕ) (n k : ℕ) → ArePlain t → n ≤ k → deepest n k (t ++ s) ≡ deepest n k s
unfolding deepest
along-name [] s n k a l = refl
along-name (x ∷ xs) s n k a l = ap (λ m. deepest m (max k m) (xs ++ s)) (along-plain n x a.0) ∙ ap (λ m. deepest n m (xs ++ s)) (let e : max k n ≡ k = omega (arith, l) in e) ∙ along-name xs s n k a.1 l

-- d braces are open at most along a text
abbrev Nests : List ℕ → ℕ → Type 0
Nests t d = (s : List ℕ) (n k : ℕ) → n ≤ k → deepest n k (t ++ s) ≡ deepest n (max k (n + d)) s

one-depth : (t : List ℕ) (a b : ℕ) → Nests t a → Nests t b → a ≡ b
unfolding deepest
one-depth t a b f g = (let e : max 0 (0 + a) ≡ max 0 (0 + b) = sym (f [] 0 0 (omega arith)) ∙ g [] 0 0 (omega arith) in omega (arith, e))

abbrev NestAll : List (List ℕ) → ℕ → Type 0
NestAll [] d = d ≡ 0
NestAll (t ∷ ts) d = (a b : ℕ) × Nests t a × NestAll ts b × (d ≡ max a b)

nests-insert : (t : List ℕ) (us : List (List ℕ)) (a b : ℕ) → Nests t a → NestAll us b → NestAll (insert_text t us) (max a b)
unfolding insert_text
nests-insert t [] a b f g = (a, b, f, g, refl)
nests-insert t (u ∷ us) a b f (c, d, g, h, e) = at (lesser_text t u) refl (lesser_text u t) refl (nests-insert t us a d f h)
  where
    at : (p : Bool) → lesser_text t u ≡ p → (q : Bool) → lesser_text u t ≡ q → NestAll (insert_text t us) (max a d) → NestAll (cond p (t ∷ u ∷ us) (cond q (u ∷ insert_text t us) (u ∷ us))) (max a b)
    at true x q y i = (a, b, f, (c, d, g, h, e), refl)
    at false x true y i = (c, max a d, g, i, omega (arith, e))
    at false x false y i = (
      c,
      d,
      g,
      h,
      (let z : a ≡ c = elim (total t u) [
        | inl w ↦ absurd (true≢false (sym w ∙ x))
        | inr v ↦ elim v [ inl w ↦ one-depth u a c (subst (λ z. Nests z a) w f) g | inr w ↦ absurd (true≢false (sym w ∙ y)) ]
      ] in omega (arith, e, z)),
    )

nests-commas : (us : List (List ℕ)) (d : ℕ) → NestAll us d → (s : List ℕ) (n k : ℕ) → n ≤ k → deepest n k (behind_commas us s) ≡ deepest n (max k (n + d)) s
unfolding deepest
nests-commas [] d e s n k l = ap (λ m. deepest n m s) (omega (arith, l, e))
nests-commas (t ∷ ts) d (a, b, f, g, e) s n k l = ap (λ m. deepest n m (t ++ behind_commas ts s)) (let h : max k n ≡ k = omega (arith, l) in h) ∙ f (behind_commas ts s) n k l ∙ nests-commas ts b g s n (max k (n + a)) (omega (arith, l)) ∙ ap (λ m. deepest n m s) (omega (arith, e))

nests-row : (us : List (List ℕ)) (d : ℕ) → NestAll us d → (s : List ℕ) (n k : ℕ) → n ≤ k → deepest n k (row us s) ≡ deepest n (max k (n + d)) s
nests-row [] d e s n k l = ap (λ m. deepest n m s) (omega (arith, l, e))
nests-row (t ∷ ts) d (a, b, f, g, e) s n k l = f (behind_commas ts s) n k l ∙ nests-commas ts b g s n (max k (n + a)) (omega (arith, l)) ∙ ap (λ m. deepest n m s) (omega (arith, e))

nests-braces : (us vs : List (List ℕ)) (c d : ℕ) → NestAll us c → NestAll vs d → Nests (in_braces us vs) (suc (max c d))
unfolding deepest
nests-braces us vs c d f g s n k l = ap (deepest n k) (braces-row us vs s)
    ∙ nests-row us c f (bar ∷ row vs (close_brace ∷ s)) (n + 1) (max k (n + 1)) (omega arith)
    ∙ nests-row vs d g (close_brace ∷ s) (n + 1) (max (max (max k (n + 1)) (n + 1 + c)) (n + 1)) (omega arith)
    ∙ ap₂ (λ m i. deepest m i s) (let e : n + 1 - 1 ≡ n = omega arith in e) (omega (arith, l))

mutual
  unfolding named_text named_depth

  nests-text : (G : Tree) → Nests (named_text G) (named_depth G)
  nests-text (node ls rs) = at (name (node ls rs)) refl (nests-texts ls) (nests-texts rs)
    where
      at : (o : Option (List ℕ)) → name (node ls rs) ≡ o → NestAll (named_texts ls) (named_depths ls) → NestAll (named_texts rs) (named_depths rs) → Nests (name_or o (in_braces (named_texts ls) (named_texts rs))) (named_depth_or o (suc (max (named_depths ls) (named_depths rs))))
      at (Some t) e f g = λ s n k l. along-name t s n k (named-plain (node ls rs) t (is-named (node ls rs) t e)).0 l ∙ ap (λ m. deepest n m s) (omega (arith, l))
      at None e f g = nests-braces (named_texts ls) (named_texts rs) (named_depths ls) (named_depths rs) f g

  nests-texts : (Gs : Trees) → NestAll (named_texts Gs) (named_depths Gs)
  nests-texts none = refl
  nests-texts (more G Gs) = nests-insert (named_text G) (named_texts Gs) (named_depth G) (named_depths Gs) (nests-text G) (nests-texts Gs)

pub deepest-is : (G : Tree) → deepest 0 0 (named_text G) ≡ named_depth G
unfolding deepest
deepest-is G = ap (deepest 0 0) (sym (append-nil (named_text G))) ∙ nests-text G [] 0 0 (omega arith) ∙ omega arith

-- one more byte
pub deepest-step : (bytes : List ℕ) (i n k m j d : ℕ) → deepest n k (drop i bytes) ≡ d → i < length bytes → m ≡ braces_after n (get_or bytes i 0) → j ≡ max k m → deepest m j (drop (i + 1) bytes) ≡ d
unfolding deepest
deepest-step bytes i n k m j d h l p q =
    ap₂ (λ x y. deepest x y (drop (i + 1) bytes)) p (q ∙ ap (max k) p) ∙ ap (λ x. deepest (braces_after n (get_or bytes i 0)) (max k (braces_after n (get_or bytes i 0))) (drop x bytes)) (let e : i + 1 ≡ suc i = omega arith in e)
    ∙ sym (ap (deepest n k) (drop-cons bytes i 0 l)) ∙ h

pub deepest-end : (bytes : List ℕ) (i n k : ℕ) → deepest n k (drop i bytes) ≡ deepest 0 0 bytes → length bytes ≤ i → (G : Tree) → bytes ≡ named_text G → k ≡ named_depth G
unfolding deepest
deepest-end bytes i n k h l G e = sym (ap (deepest n k) (drop_all i bytes l)) ∙ h ∙ ap (deepest 0 0) e ∙ deepest-is G

pub few-step : (n x i : ℕ) → n ≤ i → braces_after n x ≤ i + 1
few-step n x i l = grind (arith, nat_tests)

pub greater-is : (a b : ℕ) → ord_max nat_cmp a b ≡ max a b
greater-is a b = grind (arith, nat_tests)
