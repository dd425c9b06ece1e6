-- A named text ends where it ends: what stands in braces is known by its bytes.
use Rattle.std.proofs.Common.{ℕ, ◌<◌, ◌≡◌, ◌⊎◌, List, [], ◌∷◌, ◌++◌, arith, refl, inl, inr, sym, ◌∙◌, ap, ap₂, subst, Bool, true, false, cond, append_assoc}
use Rattle.std.specs.List.{flat_map}
use Rattle.std.proofs.lemmas.List.Concat.{flat_map-cons}
use Rattle.short_games.specs.Text.{open_brace, bar, close_brace, comma}
use Rattle.short_games.specs.TextOrder.{lesser_text}
use Rattle.short_games.proofs.TextLaws.{head-is, tail-is, IsMore}
use Rattle.game_text.specs.NamedText.{insert_text, joined, in_braces}

-- the bytes of names: none of `,`, `{`, `|` and `}`
abbrev pub IsPlain : ℕ → Type 0
IsPlain x = (x < 123) × (x ≡ 44 → ⊥)

abbrev pub ArePlain : List ℕ → Type 0
ArePlain [] = Unit {0}
ArePlain (x ∷ xs) = IsPlain x × ArePlain xs

mutual
  -- a name, or such texts in braces
  pub data IsSpelled : List ℕ → Type 0 where
    plain : (t : List ℕ) → ArePlain t → IsMore t → IsSpelled t
    braced : (ls rs : List (List ℕ)) → AreSpelled ls → AreSpelled rs → IsSpelled (in_braces ls rs)

  pub data AreSpelled : List (List ℕ) → Type 0 where
    no_texts : AreSpelled []
    more_texts : (t : List ℕ) (ts : List (List ℕ)) → IsSpelled t → AreSpelled ts → AreSpelled (t ∷ ts)

pub spelled-insert : (t : List ℕ) (us : List (List ℕ)) → IsSpelled t → AreSpelled us → AreSpelled (insert_text t us)
unfolding insert_text
spelled-insert t _ a no_texts = more_texts t [] a no_texts
spelled-insert t _ a (more_texts u us b c) = at (lesser_text t u) (lesser_text u t) (spelled-insert t us a c)
  where
    at : (p q : Bool) → AreSpelled (insert_text t us) → AreSpelled (cond p (t ∷ u ∷ us) (cond q (u ∷ insert_text t us) (u ∷ us)))
    at true q d = more_texts t (u ∷ us) a (more_texts u us b c)
    at false true d = more_texts u (insert_text t us) b d
    at false false d = more_texts u us b c

-- texts with commas between them and bytes behind them
abbrev pub behind_commas : List (List ℕ) → List ℕ → List ℕ
behind_commas [] s = s
behind_commas (t ∷ ts) s = comma ∷ (t ++ behind_commas ts s)

abbrev pub row : List (List ℕ) → List ℕ → List ℕ
row [] s = s
row (t ∷ ts) s = t ++ behind_commas ts s

commas-are : (ts : List (List ℕ)) (s : List ℕ) → flat_map (λ u. comma ∷ u) ts ++ s ≡ behind_commas ts s
commas-are [] s = refl
commas-are (t ∷ ts) s = ap (λ z. z ++ s) (flat_map-cons (λ (u : List ℕ). comma ∷ u) t ts) ∙ append_assoc (comma ∷ t) (flat_map (λ (u : List ℕ). comma ∷ u) ts) s ∙ ap (λ z. comma ∷ (t ++ z)) (commas-are ts s)

pub row-is : (ts : List (List ℕ)) (s : List ℕ) → joined ts ++ s ≡ row ts s
row-is [] s = refl
row-is (t ∷ ts) s = append_assoc t (flat_map (λ (u : List ℕ). comma ∷ u) ts) s ∙ ap (λ z. t ++ z) (commas-are ts s)

pub braces-row : (ls rs : List (List ℕ)) (s : List ℕ) → in_braces ls rs ++ s ≡ open_brace ∷ row ls (bar ∷ row rs (close_brace ∷ s))
braces-row ls rs s = ap (λ z. open_brace ∷ z) (append_assoc (joined ls) (bar ∷ (joined rs ++ (close_brace ∷ []))) s
    ∙ ap (λ z. joined ls ++ (bar ∷ z)) (append_assoc (joined rs) (close_brace ∷ []) s ∙ row-is rs (close_brace ∷ s)) ∙ row-is ls (bar ∷ row rs (close_brace ∷ s)))

-- what may stand behind a text
abbrev pub Stops : List ℕ → Type 0
Stops [] = Unit {0}
Stops (x ∷ xs) = IsPlain x → ⊥

abbrev pub IsSideEnd : List ℕ → Type 0
IsSideEnd [] = ⊥
IsSideEnd (x ∷ xs) = (x ≡ bar) ⊎ (x ≡ close_brace)

side-stops : (s : List ℕ) → IsSideEnd s → Stops s
side-stops [] e = absurd e
side-stops (x ∷ xs) (inl e) = λ p. omega (arith, p.0, e)
side-stops (x ∷ xs) (inr e) = λ p. omega (arith, p.0, e)

commas-stop : (ts : List (List ℕ)) (s : List ℕ) → IsSideEnd s → Stops (behind_commas ts s)
commas-stop [] s e = side-stops s e
commas-stop (t ∷ ts) s e = λ p. p.1 refl

runs : (a b s r : List ℕ) → ArePlain a → ArePlain b → Stops s → Stops r → a ++ s ≡ b ++ r → (a ≡ b) × (s ≡ r)
runs [] [] s r p q u v e = (refl, e)
runs [] (y ∷ b) [] r p q u v e = absurd (subst IsMore (sym e) tt)
runs [] (y ∷ b) (x ∷ s) r p q u v e = absurd (u (subst IsPlain (sym (head-is e)) q.0))
runs (x ∷ a) [] s [] p q u v e = absurd (subst IsMore e tt)
runs (x ∷ a) [] s (y ∷ r) p q u v e = absurd (v (subst IsPlain (head-is e) p.0))
runs (x ∷ a) (y ∷ b) s r p q u v e = let n = runs a b s r p.1 q.1 u v (tail-is e) in (ap₂ ◌∷◌ (head-is e) n.0, n.1)

-- a name doesn't begin as braces do, and no text as a side ends or with a comma
pub plain-brace : (t s r : List ℕ) → ArePlain t → IsMore t → t ++ s ≡ open_brace ∷ r → ⊥
plain-brace [] s r a m e = m
plain-brace (x ∷ xs) s r a m e = omega (arith, a.0.0, head-is e)

abbrev Begins : List ℕ → Type 0
Begins [] = ⊥
Begins (x ∷ xs) = IsPlain x ⊎ (x ≡ open_brace)

begins : (t s : List ℕ) → IsSpelled t → Begins (t ++ s)
begins _ s (plain [] a m) = absurd m
begins _ s (plain (x ∷ xs) a m) = inl a.0
begins _ s (braced ls rs a b) = inr refl

no-side_end : (s : List ℕ) → Begins s → IsSideEnd s → ⊥
no-side_end [] b e = b
no-side_end (x ∷ xs) (inl p) (inl e) = omega (arith, p.0, e)
no-side_end (x ∷ xs) (inl p) (inr e) = omega (arith, p.0, e)
no-side_end (x ∷ xs) (inr p) (inl e) = omega (arith, p, e)
no-side_end (x ∷ xs) (inr p) (inr e) = omega (arith, p, e)

no-comma_end : (s r : List ℕ) → s ≡ comma ∷ r → IsSideEnd s → ⊥
no-comma_end [] r e d = d
no-comma_end (x ∷ xs) r e (inl d) = omega (arith, head-is e, d)
no-comma_end (x ∷ xs) r e (inr d) = omega (arith, head-is e, d)

mutual
  unique : (t u : List ℕ) → IsSpelled t → IsSpelled u → (s r : List ℕ) → Stops s → Stops r → t ++ s ≡ u ++ r → (t ≡ u) × (s ≡ r)
  unique _ _ (plain t a m) (plain u b n) s r v w e = runs t u s r a b v w e
  unique _ _ (plain t a m) (braced ms ns c d) s r v w e = absurd (plain-brace t s _ a m e)
  unique _ _ (braced ls rs a b) (plain u c n) s r v w e = absurd (plain-brace u r _ c n (sym e))
  unique _ _ (braced ls rs a b) (braced ms ns c d) s r v w e =
      let l = unique-row ls ms a c (bar ∷ row rs (close_brace ∷ s)) (bar ∷ row ns (close_brace ∷ r)) (inl refl) (inl refl) (tail-is (sym (braces-row ls rs s) ∙ e ∙ braces-row ms ns r)) in
      let k = unique-row rs ns b d (close_brace ∷ s) (close_brace ∷ r) (inr refl) (inr refl) (tail-is l.1) in
      (ap₂ in_braces l.0 k.0, tail-is k.1)

  unique-row : (ts us : List (List ℕ)) → AreSpelled ts → AreSpelled us → (s r : List ℕ) → IsSideEnd s → IsSideEnd r → row ts s ≡ row us r → (ts ≡ us) × (s ≡ r)
  unique-row _ _ no_texts no_texts s r v w e = (refl, e)
  unique-row _ _ no_texts (more_texts u us c d) s r v w e = absurd (no-side_end s (subst Begins (sym e) (begins u (behind_commas us r) c)) v)
  unique-row _ _ (more_texts t ts a b) no_texts s r v w e = absurd (no-side_end r (subst Begins e (begins t (behind_commas ts s) a)) w)
  unique-row _ _ (more_texts t ts a b) (more_texts u us c d) s r v w e =
      let l = unique t u a c (behind_commas ts s) (behind_commas us r) (commas-stop ts s v) (commas-stop us r w) e in
      let k = unique-commas ts us b d s r v w l.1 in
      (ap₂ ◌∷◌ l.0 k.0, k.1)

  unique-commas : (ts us : List (List ℕ)) → AreSpelled ts → AreSpelled us → (s r : List ℕ) → IsSideEnd s → IsSideEnd r → behind_commas ts s ≡ behind_commas us r → (ts ≡ us) × (s ≡ r)
  unique-commas _ _ no_texts no_texts s r v w e = (refl, e)
  unique-commas _ _ no_texts (more_texts u us c d) s r v w e = absurd (no-comma_end s _ e v)
  unique-commas _ _ (more_texts t ts a b) no_texts s r v w e = absurd (no-comma_end r _ (sym e) w)
  unique-commas _ _ (more_texts t ts a b) (more_texts u us c d) s r v w e =
      let l = unique t u a c (behind_commas ts s) (behind_commas us r) (commas-stop ts s v) (commas-stop us r w) (tail-is e) in
      let k = unique-commas ts us b d s r v w l.1 in
      (ap₂ ◌∷◌ l.0 k.0, k.1)

-- texts in braces are known by the whole
pub braces-apart : (ls rs ms ns : List (List ℕ)) → AreSpelled ls → AreSpelled rs → AreSpelled ms → AreSpelled ns → in_braces ls rs ≡ in_braces ms ns → (ls ≡ ms) × (rs ≡ ns)
braces-apart ls rs ms ns a b c d e =
    let l = unique-row ls ms a c (bar ∷ row rs (close_brace ∷ [])) (bar ∷ row ns (close_brace ∷ [])) (inl refl) (inl refl) (tail-is (sym (braces-row ls rs []) ∙ ap (λ z. z ++ []) e ∙ braces-row ms ns [])) in
    let k = unique-row rs ns b d (close_brace ∷ []) (close_brace ∷ []) (inr refl) (inr refl) (tail-is l.1) in
    (l.0, k.0)
