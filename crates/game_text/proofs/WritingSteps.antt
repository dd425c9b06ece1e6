-- How the texts of forms are written one after another.
use Rattle.std.proofs.Common.{ℕ, ◌+◌, ◌<◌, ◌≤◌, ◌≡◌, List, [], ◌∷◌, length, get_or, arith, refl, inl, inr, sym, ◌∙◌, ap, subst, Some, None, length-append, append-nil, zero, suc, ℤ, pos}
use Rattle.std.specs.Prelude.{Option, Result, Err, IfErr}
use Rattle.std.proofs.lemmas.Bool.{cases_lt}
use Rattle.short_games.specs.Tree.{Tree, node, tree_at, AreDistinct}
use Rattle.short_games.specs.Number.{num}
use Rattle.short_games.specs.NumberText.{fraction_text, text_of_number, number_text}
use Rattle.short_games.specs.Text.{bar, close_brace}
use Rattle.short_games.proofs.NumberTextLaws.{number_of-is}
use Rattle.short_games.proofs.PartLaws.{number-option}
use Rattle.game_text.specs.NamedText.{nimber, name, in_braces, named_text, named_texts}
use Rattle.game_store.specs.Forms.{IsOptions}
use Rattle.short_games.specs.Parts.{IsOption, IsFollower, IsReached}
use Rattle.short_games.specs.Parts.IsFollower.{itself, further}
use Rattle.game_store.proofs.EntryLaws.{pick-has}
use Rattle.game_canon.specs.inner.Changes.{AreClosed}
use Rattle.game_canon.specs.Reachable.{AreReachable}
use Rattle.game_canon.proofs.GameLaws.{left-has, right-has}
use Rattle.game_text.specs.declared.texts.Span.{Span}
use Rattle.game_text.specs.declared.errors.WriteError.{WriteError}
use Rattle.game_text.specs.declared.errors.WriteError.TheVariants.{Long, Deep, Memory}
use Rattle.game_text.specs.Refusals.{IsWriteRefusal}
use Rattle.game_text.specs.inner.Written.{HasText, AreKept, HaveTexts, HasOptionTexts, IsTooLong, AreWritten}
use Rattle.game_text.proofs.NumberTextLaws.{number_of-num}
use Rattle.game_text.proofs.NimberLaws.{option-nimber}
use Rattle.game_text.proofs.SpelledTextLaws.{behind_commas, row, braces-row}
use Rattle.game_text.proofs.TextListLaws.{In}
use Rattle.game_text.proofs.NameKindLaws.{IsNamed, a_number, a_nimber, an_up, a_down, a_switch, is-named}
use Rattle.game_text.proofs.NamedLaws.{text-unnamed, in-named}
use Rattle.game_text.proofs.FoundNameLaws.{name-number, name-nimber, number-text, zero-tree, some-none}

-- the texts of the options
pub left-texts : (Ts : List Tree) (id : ℕ) (bytes : List ℕ) (spans : ℕ → Option Span) (ls rs : List ℕ) → IsOptions Ts id ls rs → HasOptionTexts Ts bytes spans id → HaveTexts Ts bytes spans ls
left-texts Ts id bytes spans ls rs o h j l = h (get_or ls j 0) (o.left_below j l) (o.no_number, inl (left-has Ts id ls rs o _ (pick-has Ts ls j l)))

pub right-texts : (Ts : List Tree) (id : ℕ) (bytes : List ℕ) (spans : ℕ → Option Span) (ls rs : List ℕ) → IsOptions Ts id ls rs → HasOptionTexts Ts bytes spans id → HaveTexts Ts bytes spans rs
right-texts Ts id bytes spans ls rs o h j l = h (get_or rs j 0) (o.right_below j l) (o.no_number, inr (right-has Ts id ls rs o _ (pick-has Ts rs j l)))

pub are-kept : (Ts : List Tree) (bytes : List ℕ) (spans : ℕ → Option Span) (is : List ℕ) → HaveTexts Ts bytes spans is → AreKept bytes spans is
are-kept Ts bytes spans is h j l = (h j l).0

-- the loop over the ids
module _ (Ts : List Tree) (ids : List ℕ) where
  pub before : AreClosed Ts ids → (n : ℕ) → n < length ids → (j : ℕ) → j < length ids → get_or ids j 0 < get_or ids n 0 → j < n
  before closed n l j k m = elim (cases_lt j n) [
    | inl d ↦ d
    | inr d ↦ elim (cases_lt n j) [
      | inl o ↦ absurd (omega (arith, m, closed.ascends n j o k))
      | inr o ↦ (let e : j ≡ n = omega (arith, d, o) in absurd (omega (arith, subst (λ z. get_or ids z 0 < get_or ids n 0) e m)))
    ]
  ]

  pub written-options : (n : ℕ) (bytes : List ℕ) (spans : ℕ → Option Span) → AreDistinct Ts → AreClosed Ts ids → AreWritten Ts ids n bytes spans → n < length ids → HasOptionTexts Ts bytes spans (get_or ids n 0)
  written-options n bytes spans d closed w l i b inner =
      let r = closed.closed n l (tree_at Ts i) inner in
      let e : i ≡ get_or ids r.0 0 = d i (get_or ids r.0 0) (omega (arith, b, closed.ids n l)) (closed.ids r.0 r.1) r.2 in
      subst (HasText Ts bytes spans) (sym e) (w r.0 (before closed n l r.0 r.1 (subst (λ z. z < get_or ids n 0) e b)) r.1)

-- a text without a name begins as braces do, and is at least as long as those of its options
commas-longer : (ts : List (List ℕ)) (s : List ℕ) → length s ≤ length (behind_commas ts s)
commas-longer [] s = omega arith
commas-longer (t ∷ ts) s = omega (arith, length-append t (behind_commas ts s), commas-longer ts s)

in-commas : (ts : List (List ℕ)) (t s : List ℕ) → In t ts → length t + length s ≤ length (behind_commas ts s)
in-commas [] t s i = absurd i
in-commas (u ∷ us) t s (inl e) = omega (arith, ap (λ (z : List ℕ). length z) e, length-append u (behind_commas us s), commas-longer us s)
in-commas (u ∷ us) t s (inr i) = omega (arith, length-append u (behind_commas us s), in-commas us t s i)

in-row : (ts : List (List ℕ)) (t s : List ℕ) → In t ts → length t + length s ≤ length (row ts s)
in-row [] t s i = absurd i
in-row (u ∷ us) t s (inl e) = omega (arith, ap (λ (z : List ℕ). length z) e, length-append u (behind_commas us s), commas-longer us s)
in-row (u ∷ us) t s (inr i) = omega (arith, length-append u (behind_commas us s), in-commas us t s i)

row-longer : (ts : List (List ℕ)) (s : List ℕ) → length s ≤ length (row ts s)
row-longer [] s = omega arith
row-longer (t ∷ ts) s = omega (arith, length-append t (behind_commas ts s), commas-longer ts s)

braces-length : (ls rs : List (List ℕ)) → length (in_braces ls rs) ≡ suc (length (row ls (bar ∷ row rs (close_brace ∷ []))))
braces-length ls rs = ap length (sym (append-nil (in_braces ls rs)) ∙ braces-row ls rs [])

option-length : (G X : Tree) → name G ≡ None → IsOption G X → length (named_text X) ≤ length (named_text G)
option-length (node ls rs) X n (inl h) = omega (arith, ap (λ (z : List ℕ). length z) (text-unnamed ls rs n), braces-length (named_texts ls) (named_texts rs), in-row (named_texts ls) (named_text X) (bar ∷ row (named_texts rs) (close_brace ∷ [])) (in-named ls X h))
option-length (node ls rs) X n (inr h) = omega (arith, ap (λ (z : List ℕ). length z) (text-unnamed ls rs n), braces-length (named_texts ls) (named_texts rs), row-longer (named_texts ls) (bar ∷ row (named_texts rs) (close_brace ∷ [])), in-row (named_texts rs) (named_text X) (close_brace ∷ []) (in-named rs X h))

-- options of trees with names have names
named-nimber : (n k : ℕ) (X : Tree) → X ≡ nimber k → name X ≡ None → ⊥
named-nimber n zero X e p = some-none (sym (name-number (nimber 0) _ (ap number_text zero-tree ∙ number-text (pos 0))) ∙ ap name (sym e) ∙ p)
named-nimber n (suc k) X e p = some-none (sym (name-nimber (suc k) (omega arith)) ∙ ap name (sym e) ∙ p)

pub named-num : (e : ℕ) (m : ℤ) (X : Tree) → X ≡ num e m → name X ≡ None → ⊥
named-num e m X q p = let r = number_of-num e m in some-none (sym (name-number (num e m) (fraction_text r.0) (ap text_of_number r.2)) ∙ ap name (sym q) ∙ p)

named-option : (G X : Tree) (t : List ℕ) → IsNamed G t → IsOption G X → name X ≡ None → ⊥
named-option G X t (a_number x p e) o q = let r = number-option G X (x.exponent, x.numerator, number_of-is G x p) o in named-num r.0 r.1 X r.2 q
named-option G X t (a_nimber n l p e) o q = elim (subst (λ z. IsOption z X) p o) [ inl h ↦ (let r = option-nimber n X h in named-nimber n r.0 X r.2 q) | inr h ↦ (let r = option-nimber n X h in named-nimber n r.0 X r.2 q) ]
named-option G X t (an_up p e) o q = elim (subst (λ z. IsOption z X) p o) [ inl h ↦ elim h [ inl i ↦ named-nimber 0 0 X i q | inr i ↦ absurd i ] | inr h ↦ elim h [ inl i ↦ named-nimber 0 1 X i q | inr i ↦ absurd i ] ]
named-option G X t (a_down p e) o q = elim (subst (λ z. IsOption z X) p o) [ inl h ↦ elim h [ inl i ↦ named-nimber 0 1 X i q | inr i ↦ absurd i ] | inr h ↦ elim h [ inl i ↦ named-nimber 0 0 X i q | inr i ↦ absurd i ] ]
named-option G X t (a_switch x l p e) o q = elim (subst (λ z. IsOption z X) p.0 o) [ inl h ↦ elim h [ inl i ↦ named-num _ _ X i q | inr i ↦ absurd i ] | inr h ↦ elim h [ inl i ↦ named-num _ _ X i q | inr i ↦ absurd i ] ]

unnamed-before : (G X : Tree) → IsOption G X → name X ≡ None → name G ≡ None
unnamed-before G X o q = at (name G) refl
  where
    at : (p : Option (List ℕ)) → name G ≡ p → name G ≡ None
    at None e = e
    at (Some t) e = absurd (named-option G X t (is-named G t e) o q)

follower-length : (G P : Tree) → IsFollower G P → name P ≡ None → (name G ≡ None) × (length (named_text P) ≤ length (named_text G))
follower-length _ _ (itself G) f = (f, omega arith)
follower-length _ _ (further G H P o g) f = let r = follower-length H P g f in let n = unnamed-before G H o r.0 in (n, omega (arith, r.1, option-length G H n o))

reached-length : (G X : Tree) → IsReached G X → name X ≡ None → length (named_text X) ≤ length (named_text G)
reached-length G X (inl e) n = subst (λ z. length (named_text z) ≤ length (named_text G)) (sym e) (omega arith)
reached-length G X (inr r) n = let m = unnamed-before r.0 X r.2 n in omega (arith, option-length r.0 X m r.2, (follower-length G r.0 r.1.0 m).1)

pub all-too_long : (Ts : List Tree) (G : Tree) (ids : List ℕ) (limit : ℕ) (e : WriteError) → AreReachable Ts G ids → (j : ℕ) × (j < length ids) × IsTooLong (tree_at Ts (get_or ids j 0)) limit e → IsWriteRefusal G limit e
all-too_long Ts G ids limit Long w r = let l = reached-length G _ (w.reached r.0 r.1) r.2.0 in omega (arith, l, r.2.1)
all-too_long Ts G ids limit Deep w r = absurd r.2
all-too_long Ts G ids limit (Memory cause) w r = tt

-- what the exit of a `?` says of the error that it passes on
pub passed-on : {A : Type 0} (r : Result A WriteError) (x : WriteError) (P : WriteError → Type 0) → (y : WriteError) × (r ≡ Err y) × (y ≡ x) → P x → IfErr r P
passed-on r x P q p = subst (λ z. IfErr z P) (sym q.1) (subst P (sym q.2) p)
