-- The lines of a text are told apart by the letters that they begin with.
use Rattle.std.proofs.Common.{◌≡◌, ◌⊎◌, ℕ, zero, suc, ◌+◌, ◌/◌, ◌%◌, Bool, true, false, List, [], ◌∷◌, ◌++◌, inl, inr, refl, sym, ap, ◌∙◌, subst, arith}
use Rattle.std.specs.Prelude.{codes, decimal, nat_lt, ◌==◌, if◌then◌else◌}
use Rattle.std.specs.Fmt.{digit_glyph, digits, digits_onto}
use Rattle.std.proofs.lemmas.Bool.{eqb-true, ne_eqb}
use Rattle.go_grid.specs.Name.{point_name}
use Rattle.play_session.proofs.CalmLaws.{calm, calm_append, ends, ends_append, free_calm, no_line}
use Rattle.play_session.specs.Laws.{IsLineIn}
use Rattle.endgame_run.specs.Line.{StartsLine}

-- no line of the text begins with the letter; the text stands at the beginning of a line where `s`, and ends at one where `t`
pub record Passes (w : ℕ) (s : Bool) (text : List ℕ) (t : Bool) : Type 0 where
  pub calm_so : calm w s text ≡ true
  pub ends_so : ends s text ≡ t

pub passes_append : (w : ℕ) (s t u : Bool) (x y : List ℕ) → Passes w s x t → Passes w t y u → Passes w s (x ++ y) u
passes_append w s t u x y a b = record {
  calm_so = calm_append w s x y a.calm_so (subst (λ k. calm w k y ≡ true) (sym a.ends_so) b.calm_so);
  ends_so = ends_append s x y ∙ ap (λ k. ends k y) a.ends_so ∙ b.ends_so;
}

-- bytes without a line feed
abbrev IsInside : List ℕ → Type 0
IsInside [] = Unit {0}
IsInside (b ∷ more) = ((b == 10) ≡ false) × IsInside more

inside_passes : (w : ℕ) (x : List ℕ) → IsInside x → Passes w false x false
inside_passes w [] h = record { calm_so = refl; ends_so = refl }
inside_passes w (b ∷ x) h = let k = inside_passes w x h.1 in record {
  calm_so = subst (λ t. calm w t x ≡ true) (sym h.0) k.calm_so;
  ends_so = subst (λ t. ends t x ≡ false) (sym h.0) k.ends_so;
}

letter_inside : (n : ℕ) → ((97 + n) == 10) ≡ false
letter_inside n = ne_eqb (97 + n) 10 (λ e. omega (arith, e))

pub name_passes : (w columns p : ℕ) → Passes w false (point_name columns p) false
name_passes w columns p = inside_passes w (point_name columns p) (letter_inside (p % columns), (letter_inside (p / columns), tt))

digit_inside : (d : ℕ) → (digit_glyph false d == 10) ≡ false
digit_inside d = go (nat_lt d 10) where
  go : (b : Bool) → ((if b then 48 + d else 87 + d) == 10) ≡ false
  go true = ne_eqb (48 + d) 10 (λ e. omega (arith, e))
  go false = ne_eqb (87 + d) 10 (λ e. omega (arith, e))

digits_inside : (k n : ℕ) (acc : List ℕ) → IsInside acc → IsInside (digits_onto k 10 false n acc)
digits_inside zero n acc h = h
digits_inside (suc k) n acc h = go (n / 10 == 0) (digits_inside k (n / 10) (digit_glyph false (n % 10) ∷ acc) (digit_inside (n % 10), h)) where
  go : (b : Bool) → IsInside (digits_onto k 10 false (n / 10) (digit_glyph false (n % 10) ∷ acc))
      → IsInside (if b then digit_glyph false (n % 10) ∷ acc else digits_onto k 10 false (n / 10) (digit_glyph false (n % 10) ∷ acc))
  go true more = (digit_inside (n % 10), h)
  go false more = more

pub number_passes : (w n : ℕ) → Passes w false (decimal n) false
unfolding digits
number_passes w n = inside_passes w (decimal n) (digits_inside 64 n [] tt)

-- a text that ends at the beginning of a line
ends_starts : (s : Bool) (x : List ℕ) → ends s x ≡ true → ((x ≡ []) × (s ≡ true)) ⊎ ((start : List ℕ) × (x ≡ start ++ codes "\n"))
ends_starts s [] h = inl (refl, h)
ends_starts s (b ∷ x) h = elim (ends_starts (b == 10) x h) [
  | inl e ↦ inr ([], ap (λ c. c ∷ x) (eqb-true b 10 e.1) ∙ ap (λ l. 10 ∷ l) e.0)
  | inr e ↦ inr (b ∷ e.0, ap (λ l. b ∷ l) e.1)
]

pub starts_line : (w : ℕ) (x : List ℕ) → Passes w true x true → StartsLine x
starts_line w x p = elim (ends_starts true x p.ends_so) [ inl e ↦ inl e.0 | inr e ↦ inr e ]

pub no_line_in : (w : ℕ) (rest x : List ℕ) (t : Bool) → Passes w true x t → ¬ IsLineIn (w ∷ rest) x
no_line_in w rest x t p = no_line w rest x (free_calm w rest true x p.calm_so)
