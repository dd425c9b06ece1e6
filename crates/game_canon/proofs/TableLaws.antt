-- What is remembered of pairs of ids in a table and in a map.
use Rattle.std.proofs.Common.{ℕ, ◌≡◌, ◌⊎◌, zero, suc, ◌+◌, ◌*◌, List, [], ◌∷◌, refl, sym, ◌∙◌, ap, subst, inl, inr, Bool, false, cond, Some, None, get_or}
use Rattle.std.specs.Prelude.{Option}
use Rattle.std.specs.Map.{lookup}
use Rattle.std.proofs.lemmas.Bool.{cases_Bool}
use Rattle.std.specs.List.{AllByRecursion}
use Rattle.game_canon.specs.Comparisons.{same_pair}
use Rattle.game_canon.specs.declared.comparisons.Comparisons.{Comparisons}
use Rattle.game_canon.specs.declared.comparisons.TheConstants.{NEAR}
use Rattle.game_canon.specs.inner.Comparisons.{recalled, with_answer, Forgets}
use Rattle.game_canon.specs.FormComparisons.{has_place}
use Rattle.game_canon.proofs.QuestionLaws.{pair-same}

-- one more answer in the map, for a pair that has no place in the table
pub noted-far : (near : ℕ → ℕ → Bool) (table before after : ℕ → ℕ → Option Bool) (a b : ℕ) (answer : Bool) → near a b ≡ false
    → ((c d : ℕ) → after c d ≡ with_answer before a b answer c d)
    → (c d : ℕ) → cond (near c d) (table c d) (after c d) ≡ with_answer (λ x y. cond (near x y) (table x y) (before x y)) a b answer c d
noted-far near table before after a b answer n noted c d = elim (cases_Bool (same_pair (a, b) (c, d))) [
  | inl t ↦ ap (λ s. cond s (table c d) (after c d)) (subst (λ (p : ℕ × ℕ). near p.0 p.1 ≡ false) (pair-same (a, b) (c, d) t) n)
      ∙ noted c d ∙ ap (λ s. cond s (Some answer) (before c d)) t
      ∙ sym (ap (λ s. cond s (Some answer) (cond (near c d) (table c d) (before c d))) t)
  | inr f ↦ ap (cond (near c d) (table c d)) (noted c d ∙ ap (λ s. cond s (Some answer) (before c d)) f)
      ∙ sym (ap (λ s. cond s (Some answer) (cond (near c d) (table c d) (before c d))) f)
]

-- in a table that was filled with None there is no answer
nothing-there : (IsCopy : Option Bool → Type 0) (xs : List (Option Bool)) → AllByRecursion (λ x. (x ≡ None) ⊎ IsCopy x) xs
    → ((v : Bool) → IsCopy (Some v) → ⊥) → (i : ℕ) → get_or xs i None ≡ None
nothing-there IsCopy [] all none i = refl
nothing-there IsCopy (None ∷ xs) all none zero = refl
nothing-there IsCopy (Some v ∷ xs) (inl e, all) none zero = e
nothing-there IsCopy (Some v ∷ xs) (inr c, all) none zero = absurd (none v c)
nothing-there IsCopy (x ∷ xs) (c, all) none (suc i) = nothing-there IsCopy xs all none i

-- with such a table and an empty map all is forgotten
pub all-forgotten : (before : ℕ → ℕ → Option Bool) (memo : Comparisons) (IsCopy : Option Bool → Type 0)
    → AllByRecursion (λ x. (x ≡ None) ⊎ IsCopy x) memo.near.items → ((v : Bool) → IsCopy (Some v) → ⊥) → memo.far.entries ≡ []
    → Forgets before (recalled memo)
all-forgotten before memo IsCopy table none map a b answer k =
    let e : recalled memo a b ≡ None = elim (cases_Bool (has_place memo.near.items a b)) [
      | inl t ↦ ap (λ s. cond s (get_or memo.near.items (a * NEAR + b) None) (lookup (same_pair (a, b)) memo.far.entries)) t
          ∙ nothing-there IsCopy memo.near.items table none (a * NEAR + b)
      | inr f ↦ ap (λ s. cond s (get_or memo.near.items (a * NEAR + b) None) (lookup (same_pair (a, b)) memo.far.entries)) f
          ∙ ap (lookup (same_pair (a, b))) map
    ] in cc
