-- Games in which every play ends.
use Rattle.std.specs.Prelude.{ℕ, zero, suc}

module _ (S : Type 0) (Leads : S → S → Type 0) where
  -- no play from `s` has more than `n` moves
  abbrev pub EndsWithin : ℕ → S → Type 0
  EndsWithin zero s = (t : S) → Leads s t → ⊥
  EndsWithin (suc n) s = (t : S) → Leads s t → EndsWithin n t
