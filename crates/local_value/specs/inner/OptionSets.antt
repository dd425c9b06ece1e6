-- Sets of options, as lists in which none stands twice.
use Rattle.std.specs.Prelude.{ℕ, ◌≡◌, ◌<◌, ◌≤◌, ◌↔◌, ◌⊎◌, List, Contains, nat_eq, slice_index}
use Rattle.std.specs.List.{IsDistinct}

-- no option stands twice in the list
abbrev pub HasNoRepeats : List ℕ → Type 0
HasNoRepeats os = IsDistinct nat_eq os

-- the lists have the same members
abbrev pub HaveSameMembers : List ℕ → List ℕ → Type 0
HaveSameMembers os others = (n : ℕ) → Contains os n ↔ Contains others n

-- the members are those of before, and the option
abbrev pub IsWith : ℕ → List ℕ → List ℕ → Type 0
IsWith o before now = (n : ℕ) → Contains now n ↔ (Contains before n ⊎ (o ≡ n))

-- the options are listed once each, and just theirs are the marks of this turn; no mark is of a later one
pub record IsOptionSet (options marks : List ℕ) (turn : ℕ) : Type 0 where
  pub begun : 0 < turn
  pub once : HasNoRepeats options
  pub past : (o : ℕ) → slice_index marks o ≤ turn
  pub marked : (o : ℕ) → Contains options o ↔ (slice_index marks o ≡ turn)
