-- Tables of what is remembered, in which all is found by its hash.
use Rattle.std.specs.Prelude.{ℕ, ◌≡◌, ◌≤◌, ◌⊎◌, ℤ, List, length, map, All, Contains, slice_range}
use Rattle.local_value.specs.declared.form_table.KnownForm.{KnownForm}
use Rattle.local_value.specs.declared.sum_table.KnownSum.{KnownSum}
use Rattle.local_value.specs.inner.OptionSets.{HasNoRepeats, HaveSameMembers}

-- options, and the form that is remembered of them
abbrev pub known_form : List ℕ → KnownForm → List ℕ × ℕ
known_form pool f = (slice_range pool f.start f.end, f.id)

-- no option stands twice in a list of which a form is remembered
abbrev pub AreListedOnce : List (List ℕ × ℕ) → Type 0
AreListedOnce known = (os : List ℕ) (id : ℕ) → Contains known (os, id) → HasNoRepeats os

-- so many places are those of the forms, whose options stand in the pool, once each
pub record IsFormTable (places : ℕ) (forms : List KnownForm) (pool : List ℕ) : Type 0 where
  pub count : places ≡ length forms
  pub within : All (λ f. (f.start ≤ f.end) × (f.end ≤ length pool)) forms
  pub once : AreListedOnce (map (known_form pool) forms)

-- the form is remembered of a list with these members
abbrev pub IsFormOfMembers : List (List ℕ × ℕ) → List ℕ → ℕ → Type 0
IsFormOfMembers known members id = (os : List ℕ) × Contains known (os, id) × HaveSameMembers members os

-- a game and stones, and the sum that is remembered of them
abbrev pub known_sum : KnownSum → (ℕ × ℤ) × ℕ
known_sum s = ((s.game, s.stones), s.sum)

-- nothing is remembered that wasn't before, but the one
abbrev pub Learns : {X : Type 0} → List X → X → List X → Type 0
Learns {X} before one now = (x : X) → Contains now x → Contains before x ⊎ (one ≡ x)
