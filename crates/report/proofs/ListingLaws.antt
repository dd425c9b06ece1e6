-- A list of lines grows by the line of each key.
use Rattle.std.proofs.Common.{◌≡◌, ℕ, ◌<◌, ◌+◌, ◌++◌, ◌∷◌, [], List, inl, inr, arith, sym, ◌∙◌, subst, length, get_or}
use Rattle.std.specs.List.{Contains}
use Rattle.std.proofs.lemmas.Bool.{cases_eq}
use Rattle.std.proofs.lemmas.List.Elements.{Contains-get_or, Contains-push, Contains-push_cases, Contains-append_left}
use Rattle.std.proofs.lemmas.List.Quantifiers.{all_pairs_push}
use Rattle.report.specs.Listing.{ListsBelow}

module _ (L : Type 0) (key : L → ℕ) (Is : L → Type 0) (Wanted : ℕ → Type 0) where
  pub listing_start : (ls : List L) → ls ≡ [] → ListsBelow L key Is Wanted 0 ls
  listing_start ls e = record {
    each = λ l h. let w = subst (λ xs. Contains xs l) e h in absurd (omega (arith, w.1));
    every = λ k lt. absurd (omega arith);
    ascending = λ i j d lt short. absurd (let w = subst (λ xs. j < length xs) e short in omega (arith, w));
  }

  -- no line is wanted for the key
  pub listing_same : (n : ℕ) (ls : List L) → ListsBelow L key Is Wanted n ls → ¬ Wanted n → ListsBelow L key Is Wanted (n + 1) ls
  listing_same n ls s not = record {
    each = λ l h. let w = s.each l h in (w.0, omega (arith, w.1));
    every = λ k lt w. elim (cases_eq k n) as (λ _. (l : L) × Contains ls l × (key l ≡ k)) [
      | inl e ↦ absurd (not (subst Wanted e w))
      | inr ne ↦ s.every k (omega arith) w
    ];
    ascending = s.ascending;
  }

  -- the line of the key is added
  pub listing_more : (n : ℕ) (ls : List L) (l : L) → ListsBelow L key Is Wanted n ls → Is l → key l ≡ n
      → ListsBelow L key Is Wanted (n + 1) (ls ++ l ∷ [])
  listing_more n ls l s is e = record {
    each = λ m h. elim (Contains-push_cases ls l m h) as (λ _. Is m × (key m < n + 1)) [
      | inl old ↦ let w = s.each m old in (w.0, omega (arith, w.1))
      | inr same ↦ subst (λ x. Is x × (key x < n + 1)) same (is, omega arith)
    ];
    every = λ k lt w. elim (cases_eq k n) as (λ _. (m : L) × Contains (ls ++ l ∷ []) m × (key m ≡ k)) [
      | inl same ↦ (l, Contains-push ls l, e ∙ sym same)
      | inr ne ↦ let m = s.every k (omega arith) w in (m.0, Contains-append_left ls (l ∷ []) m.0 m.1, m.2)
    ];
    ascending = all_pairs_push (λ x y. key x < key y) ls l s.ascending
        (λ k d lt. let w = (s.each (get_or ls k d) (Contains-get_or ls k d lt)).1 in omega (arith, w, e));
  }
