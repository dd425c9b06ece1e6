-- What a load of a named file does.
use Rattle.std.specs.Prelude.{◌≡◌, ◌<◌, ◌≤◌, ◌+◌, ◌++◌, ℕ, Bool, true, false, List, length, take, Result, Ok, Err, Some, None, IsErrOf}
use Rattle.std.specs.Io.{StartsWith}
use Rattle.std.specs.Ordering.{nat_cmp}
use Rattle.std.specs.Cmp.Lexicographic.{slice_cmp}
use Rattle.std.specs.FinMap.{FinMap, get}
use Rattle.desk_io.specs.Outside.{Rose}
use Rattle.std.specs.declared.option.Option.{Option}
use Rattle.desk_io.specs.declared.shelf.Loaded.{Loaded}
use Rattle.desk_io.specs.declared.shelf.Loaded.TheVariants.{Whole, Longer}
use Rattle.desk_io.specs.declared.shelf.LoadError.{LoadError}
use Rattle.desk_io.specs.declared.shelf.LoadError.TheVariants.{Absent, Failed}

-- a finite map from names to bytes
abbrev pub Files : Type 0
Files = FinMap (slice_cmp nat_cmp) (List ℕ)

-- what is told of a file: nothing, that there is none, or that it holds these bytes
pub data Told : Type 0 where
  untold : Told
  absent : Told
  holding : List ℕ → Told

-- what is told of a file by an entry of the map
abbrev pub told_entry : Option (List ℕ) → Told
told_entry None = absent
told_entry (Some bytes) = holding bytes

-- what is told of the file of a name
abbrev pub told_file : Option Files → List ℕ → Told
told_file None name = untold
told_file (Some files) name = told_entry (get files name)

-- what is told of a file by what is told of the bytes that a source has left
abbrev pub told_source : Option (List ℕ) → Told
told_source None = untold
told_source (Some bytes) = holding bytes

-- the bytes are the file, where that is told; of a file that is told to be absent none are
abbrev pub IsTold : Told → List ℕ → Type 0
IsTold untold file = Unit {0}
IsTold absent file = ⊥
IsTold (holding bytes) file = bytes ≡ file

-- the file is longer than so many bytes, where that is told
abbrev pub IsLonger : ℕ → Told → Type 0
IsLonger limit untold = Unit {0}
IsLonger limit absent = ⊥
IsLonger limit (holding bytes) = limit < length bytes

-- A load by what is told of the file. An error appends a front part of it, and nothing of an absent file.
abbrev pub Loads : Told → ℕ → List ℕ → List ℕ → Result Loaded LoadError → Type 0
Loads (holding file) limit old new (Ok Whole) = (length file ≤ limit) × (new ≡ old ++ file)
Loads (holding file) limit old new (Ok Longer) = (limit < length file) × (new ≡ old ++ take limit file)
Loads (holding file) limit old new (Err Absent) = ⊥
Loads (holding file) limit old new (Err e) = (n : ℕ) × (new ≡ old ++ take n file)
Loads absent limit old new (Ok how) = ⊥
Loads absent limit old new (Err e) = new ≡ old
Loads untold limit old new (Ok Whole) = StartsWith new old × (length new ≤ length old + limit)
Loads untold limit old new (Ok Longer) = StartsWith new old × (length new ≡ length old + limit)
Loads untold limit old new (Err Absent) = ⊥
Loads untold limit old new (Err e) = StartsWith new old

-- a count never falls, and Failed comes only where it rose
pub record FailsByCount (before now : ℕ) (result : Result Loaded LoadError) : Type 0 where
  pub later : before ≤ now
  pub failed : IsErrOf result Failed → Rose before now

-- a load answered Failed, and neither Absent nor a want of memory
abbrev pub has_failed : Result Loaded LoadError → Bool
has_failed (Err Failed) = true
has_failed result = false
