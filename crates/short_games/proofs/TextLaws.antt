-- Trees of equal texts are equal.
use Rattle.std.proofs.Common.{ℕ, ◌<◌, ◌≤◌, ◌≡◌, ◌⊎◌, List, [], ◌∷◌, ◌++◌, arith, refl, inl, inr, sym, ◌∙◌, ap, ap₂, subst, Some, None}
use Rattle.std.specs.Prelude.{Option}
use Rattle.short_games.specs.Tree.{Tree, Trees, node, none, more}
use Rattle.short_games.specs.Text.{text, texts, texts_rest, text_or, open_brace, bar, close_brace, comma}

head : List ℕ → ℕ
head [] = 0
head (x ∷ xs) = x

tail : List ℕ → List ℕ
tail [] = []
tail (x ∷ xs) = xs

pub head-is : {x y : ℕ} {xs ys : List ℕ} → x ∷ xs ≡ y ∷ ys → x ≡ y
unfolding head
head-is e = ap head e

pub tail-is : {x y : ℕ} {xs ys : List ℕ} → x ∷ xs ≡ y ∷ ys → xs ≡ ys
unfolding tail
tail-is e = ap tail e

-- bytes of numbers: `-`, `/` and the digits
abbrev pub IsDigit : ℕ → Type 0
IsDigit x = (45 ≤ x) × (x < 58)

abbrev pub AreDigits : List ℕ → Type 0
AreDigits [] = Unit {0}
AreDigits (x ∷ xs) = IsDigit x × AreDigits xs

-- what may stand behind a tree
abbrev pub Ends : List ℕ → Type 0
Ends [] = Unit {0}
Ends (x ∷ xs) = IsDigit x → ⊥

abbrev pub IsMore : List ℕ → Type 0
IsMore [] = ⊥
IsMore (x ∷ xs) = Unit {0}

-- the longest run of bytes of a kind is one, where what stands behind doesn't begin with such a byte
module _ (Is : ℕ → Type 0) (Are Stops : List ℕ → Type 0) (first : (x : ℕ) (xs : List ℕ) → Are (x ∷ xs) → Is x × Are xs)
    (stops : (x : ℕ) (xs : List ℕ) → Stops (x ∷ xs) → Is x → ⊥) where
  pub runs : (a b s t : List ℕ) → Are a → Are b → Stops s → Stops t → a ++ s ≡ b ++ t → (a ≡ b) × (s ≡ t)
  runs [] [] s t p q u v e = (refl, e)
  runs [] (y ∷ b) [] t p q u v e = absurd (subst IsMore (sym e) tt)
  runs [] (y ∷ b) (x ∷ s) t p q u v e = absurd (stops x s u (subst Is (sym (head-is e)) (first y b q).0))
  runs (x ∷ a) [] s [] p q u v e = absurd (subst IsMore e tt)
  runs (x ∷ a) [] s (y ∷ t) p q u v e = absurd (stops y t v (subst Is (head-is e) (first x a p).0))
  runs (x ∷ a) (y ∷ b) s t p q u v e = let r = runs a b s t (first x a p).1 (first y b q).1 u v (tail-is e) in (ap₂ ◌∷◌ (head-is e) r.0, r.1)

module _ (number : Tree → Option (List ℕ)) (digits : (G : Tree) (t : List ℕ) → number G ≡ Some t → AreDigits t) (nonempty : (G : Tree) (t : List ℕ) → number G ≡ Some t → IsMore t) (one_to_one : (G H : Tree) (t : List ℕ) → number G ≡ Some t → number H ≡ Some t → G ≡ H) where
  ends-rest : (Gs : Trees) (s : List ℕ) → Ends s → Ends (texts_rest number Gs s)
  unfolding text
  ends-rest none s e = e
  ends-rest (more G Gs) s e = λ d. omega (arith, d)

  -- the first byte of a tree's text is a digit or an opening brace
  starts : (G : Tree) (s xs : List ℕ) (x : ℕ) → text number G s ≡ x ∷ xs → (x ≡ open_brace) ⊎ IsDigit x
  unfolding text
  starts (node ls rs) s xs x e = by_number (number (node ls rs)) refl e
    where
      by_number : (o : Option (List ℕ)) → number (node ls rs) ≡ o → text_or o (open_brace ∷ texts number ls (bar ∷ texts number rs (close_brace ∷ s))) s ≡ x ∷ xs → (x ≡ open_brace) ⊎ IsDigit x
      by_number None n e = inl (sym (head-is e))
      by_number (Some []) n e = absurd (nonempty (node ls rs) [] n)
      by_number (Some (y ∷ ys)) n e = inr (subst IsDigit (head-is e) (digits (node ls rs) (y ∷ ys) n).0)

  -- what stands behind a list of options
  abbrev IsListEnd : List ℕ → Type 0
  IsListEnd [] = ⊥
  IsListEnd (x ∷ xs) = (x ≡ bar) ⊎ (x ≡ close_brace)

  list_end-ends : (s : List ℕ) → IsListEnd s → Ends s
  list_end-ends [] e = absurd e
  list_end-ends (x ∷ xs) (inl e) = λ d. omega (arith, d, e)
  list_end-ends (x ∷ xs) (inr e) = λ d. omega (arith, d, e)

  no_text : (H : Tree) (s t : List ℕ) → IsListEnd s → s ≡ text number H t → ⊥
  no_text H [] t u e = u
  no_text H (x ∷ xs) t u e = elim u [
    | inl a ↦ elim (starts H t xs x (sym e)) [ inl b ↦ omega (arith, a, b) | inr b ↦ omega (arith, a, b) ]
    | inr a ↦ elim (starts H t xs x (sym e)) [ inl b ↦ omega (arith, a, b) | inr b ↦ omega (arith, a, b) ]
  ]

  no_comma : (s t : List ℕ) → IsListEnd s → s ≡ comma ∷ t → ⊥
  no_comma [] t u e = u
  no_comma (x ∷ xs) t (inl a) e = omega (arith, a, head-is e)
  no_comma (x ∷ xs) t (inr a) e = omega (arith, a, head-is e)

  both : (G H : Tree) (s t : List ℕ) → Ends s → Ends t → (g h : List ℕ) (o p : Option (List ℕ)) → number G ≡ o → number H ≡ p → text_or o (open_brace ∷ g) s ≡ text_or p (open_brace ∷ h) t → (g ≡ h → (G ≡ H) × (s ≡ t)) → (G ≡ H) × (s ≡ t)
  both G H s t u v g h None None m n e k = k (tail-is e)
  both G H s t u v g h None (Some []) m n e k = absurd (nonempty H [] n)
  both G H s t u v g h None (Some (y ∷ b)) m n e k = absurd (let d : IsDigit y = (digits H (y ∷ b) n).0 in omega (arith, d, head-is e))
  both G H s t u v g h (Some []) p m n e k = absurd (nonempty G [] m)
  both G H s t u v g h (Some (x ∷ a)) None m n e k = absurd (let d : IsDigit x = (digits G (x ∷ a) m).0 in omega (arith, d, head-is e))
  both G H s t u v g h (Some (x ∷ a)) (Some b) m n e k = let r = runs IsDigit AreDigits Ends (λ z zs d. d) (λ z zs d. d) (x ∷ a) b s t (digits G (x ∷ a) m) (digits H b n) u v e in (one_to_one G H b (m ∙ ap Some r.0) n, r.1)

  mutual
    unfolding text

    unique : (G H : Tree) (s t : List ℕ) → Ends s → Ends t → text number G s ≡ text number H t → (G ≡ H) × (s ≡ t)
    unique (node ls rs) (node ms ns) s t u v e = both (node ls rs) (node ms ns) s t u v _ _ (number (node ls rs)) (number (node ms ns)) refl refl e
        (λ b. (let l = unique_each ls ms (bar ∷ texts number rs (close_brace ∷ s)) (bar ∷ texts number ns (close_brace ∷ t)) (inl refl) (inl refl) b in
        let r = unique_each rs ns (close_brace ∷ s) (close_brace ∷ t) (inr refl) (inr refl) (tail-is l.1) in
        (ap₂ node l.0 r.0, tail-is r.1)))

    unique_each : (Gs Hs : Trees) (s t : List ℕ) → IsListEnd s → IsListEnd t → texts number Gs s ≡ texts number Hs t → (Gs ≡ Hs) × (s ≡ t)
    unique_each none none s t u v e = (refl, e)
    unique_each none (more H Hs) s t u v e = absurd (no_text H s _ u e)
    unique_each (more G Gs) none s t u v e = absurd (no_text G t _ v (sym e))
    unique_each (more G Gs) (more H Hs) s t u v e =
        let first = unique G H (texts_rest number Gs s) (texts_rest number Hs t) (ends-rest Gs s (list_end-ends s u)) (ends-rest Hs t (list_end-ends t v)) e in
        let others = unique_rest Gs Hs s t u v first.1 in
        (ap₂ more first.0 others.0, others.1)

    unique_rest : (Gs Hs : Trees) (s t : List ℕ) → IsListEnd s → IsListEnd t → texts_rest number Gs s ≡ texts_rest number Hs t → (Gs ≡ Hs) × (s ≡ t)
    unique_rest none none s t u v e = (refl, e)
    unique_rest none (more H Hs) s t u v e = absurd (no_comma s _ u e)
    unique_rest (more G Gs) none s t u v e = absurd (no_comma t _ v (sym e))
    unique_rest (more G Gs) (more H Hs) s t u v e =
        let first = unique G H (texts_rest number Gs s) (texts_rest number Hs t) (ends-rest Gs s (list_end-ends s u)) (ends-rest Hs t (list_end-ends t v)) (tail-is e) in
        let others = unique_rest Gs Hs s t u v first.1 in
        (ap₂ more first.0 others.0, others.1)

  -- trees of equal texts are one tree
  pub text-one_to_one : (G H : Tree) → text number G [] ≡ text number H [] → G ≡ H
  text-one_to_one G H e = (unique G H [] [] tt tt e).0
