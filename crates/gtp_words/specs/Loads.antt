-- What becomes of the loads of files that the lines of a session ask for.
use Rattle.std.specs.Prelude.{◌≡◌, ◌≤◌, ◌<◌, ◌+◌, ◌-◌, ◌^◌, ◌++◌, ◌∷◌, ℕ, min, List, [], Contains}
use Rattle.std.specs.List.Sorted.{IsStrictlyIncreasing}
use Rattle.desk_io.specs.Outside.{Rose}

-- what becomes of the load of a line: it has none, or it is made, or it fails
pub data Fate : Type 0 where
  no_load : Fate
  made : Fate
  failed : Fate

-- how many loads there were, and the numbers of those that failed, counted from 0
pub record Loads : Type 0 where
  pub count : ℕ
  pub failures : List ℕ

-- no load
abbrev pub unloaded : Loads
unloaded = record { count = 0; failures = [] }

-- the numbers of loads that failed are ascending, and below the number of loads so far
pub record AreLoads (l : Loads) : Type 0 where
  pub ascending : IsStrictlyIncreasing l.failures
  pub below : (n : ℕ) → Contains l.failures n → n < l.count

-- one load more, which was made
abbrev pub made_more : Loads → Loads
made_more l = record { count = l.count + 1; failures = l.failures }

-- one load more, which failed
abbrev pub failed_more : Loads → Loads
failed_more l = record { count = l.count + 1; failures = l.failures ++ l.count ∷ [] }

-- loads are numbered from 0, and those of the list fail
abbrev pub IsLoadNumbered : List ℕ → Fate → ℕ → ℕ → Type 0
IsLoadNumbered failing no_load n next = next ≡ n
IsLoadNumbered failing made n next = (next ≡ n + 1) × ¬ Contains failing n
IsLoadNumbered failing failed n next = (next ≡ n + 1) × Contains failing n

-- What becomes of a load is noted: loads are counted, and the list of those that failed grows by one that failed, where the count
-- of faults rose.
abbrev pub NotesFate : ℕ → ℕ → Fate → Loads → Loads → Type 0
NotesFate before now no_load a b = b ≡ a
NotesFate before now made a b = b ≡ made_more a
NotesFate before now failed a b = (b ≡ failed_more a) × Rose before now

-- the count of faults rose by at least so many, or stands at its last value
abbrev pub RoseBy : ℕ → ℕ → ℕ → Type 0
RoseBy n before now = min (before + n) (2 ^ 64 - 1) ≤ now
