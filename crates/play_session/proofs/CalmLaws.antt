-- Lines of a text, and the letters that they begin with.
use Rattle.std.proofs.Common.{◌≡◌, ◌≢◌, ℕ, Bool, true, false, List, [], ◌∷◌, ◌++◌, inl, inr, refl, sym, ap, ◌∙◌, subst, append_assoc}
use Rattle.std.specs.Prelude.{codes, ◌==◌, if◌then◌else◌}
use Rattle.std.proofs.lemmas.List.{append-nil}
use Rattle.std.proofs.lemmas.Bool.{eq-eqb}
use Rattle.play_session.specs.Laws.{IsLineIn}

-- no line of the text begins with the letter; the text itself begins a line, or doesn't
abbrev pub calm : ℕ → Bool → List ℕ → Bool
calm w start [] = true
calm w true (b ∷ more) = if b == w then false else calm w (b == 10) more
calm w false (b ∷ more) = calm w (b == 10) more

-- whether the front of a line stands behind the text
abbrev pub ends : Bool → List ℕ → Bool
ends start [] = start
ends start (b ∷ more) = ends (b == 10) more

pub ends_append : (s : Bool) (x y : List ℕ) → ends s (x ++ y) ≡ ends (ends s x) y
ends_append s [] y = refl
ends_append s (b ∷ x) y = ends_append (b == 10) x y

both : (k u : Bool) → (if k then false else u) ≡ true → (k ≡ false) × (u ≡ true)
both true u h = absurd cc
both false u h = (refl, h)

differ : (w b : ℕ) → b ≡ w → (b == w) ≡ false → ⊥
differ w b same e = let f : true ≡ false = sym (eq-eqb b w same) ∙ e in absurd cc

pub calm_append : (w : ℕ) (s : Bool) (x y : List ℕ) → calm w s x ≡ true → calm w (ends s x) y ≡ true → calm w s (x ++ y) ≡ true
calm_append w s [] y a b = b
calm_append w false (c ∷ x) y a b = calm_append w (c == 10) x y a b
calm_append w true (c ∷ x) y a b =
    let h = both (c == w) (calm w (c == 10) x) a in
    subst (λ k. (if k then false else calm w (c == 10) (x ++ y)) ≡ true) (sym h.0) (calm_append w (c == 10) x y h.1 b)

-- no line of the text is the letter and then these bytes
abbrev pub Free : ℕ → List ℕ → Bool → List ℕ → Type 0
Free w rest s [] = Unit {0}
Free w rest s (b ∷ more) = (s ≡ true → (back : List ℕ) → b ∷ more ≢ w ∷ (rest ++ back)) × Free w rest (b == 10) more

module _ (w : ℕ) (rest : List ℕ) where
  pub free_front : (s : Bool) (x more : List ℕ) → Free w rest s (x ++ more) → Free w rest s x
  free_front s [] more h = tt
  free_front s (b ∷ x) more h = ((λ t back e. h.0 t (back ++ more) (ap (λ l. l ++ more) e ∙ ap (λ l. w ∷ l) (append_assoc rest back more))), free_front (b == 10) x more h.1)

  pub free_behind : (s : Bool) (x y : List ℕ) → calm w s x ≡ true → Free w rest (ends s x) y → Free w rest s (x ++ y)
  free_behind s [] y a h = h
  free_behind false (b ∷ x) y a h = ((λ t. absurd cc), free_behind (b == 10) x y a h)
  free_behind true (b ∷ x) y a h =
      let c = both (b == w) (calm w (b == 10) x) a in
      ((λ t back e. let same : b ≡ w = cc in differ w b same c.0), free_behind (b == 10) x y c.1 h)

  pub free_calm : (s : Bool) (x : List ℕ) → calm w s x ≡ true → Free w rest s x
  free_calm s x a = subst (Free w rest s) (append-nil x) (free_behind s x [] a tt)

  not_free : (s : Bool) (front back : List ℕ) → Free w rest s (front ++ (w ∷ (rest ++ back))) → ends s front ≡ true → ⊥
  not_free s [] back h e = h.0 e back refl
  not_free s (b ∷ front) back h e = not_free (b == 10) front back h.1 e

  pub no_line : (text : List ℕ) → Free w rest true text → ¬ IsLineIn (w ∷ rest) text
  no_line text h (front, back, is, inl none) = not_free true front back (subst (Free w rest true) is h) (ap (ends true) none)
  no_line text h (front, back, is, inr (start, behind)) = not_free true front back (subst (Free w rest true) is h) (ap (ends true) behind ∙ ends_append true start (codes "\n"))

-- lines that are whole and calm
abbrev pub IsCalm : ℕ → Bool → List ℕ → Type 0
IsCalm w s text = (calm w s text ≡ true) × (ends s text ≡ true)
