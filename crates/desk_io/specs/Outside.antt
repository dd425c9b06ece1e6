-- What a read and a write of the outside do, and when they may fail.
use Rattle.std.specs.Prelude.{◌≡◌, ◌≤◌, ◌<◌, ◌+◌, ◌-◌, ◌^◌, ℕ, Bool, min, nat_lt, if◌then◌else◌, List, [], length, take, Result, OnErr, MatchResult}
use Rattle.std.specs.Option.{option_map}
use Rattle.std.specs.Io.KnownBytes.{prepend_known, append_known, Appends as WriterGets}
use Rattle.std.specs.declared.option.Option.{Option}

-- a count of faults has risen, or stands at its last value
abbrev pub Rose : ℕ → ℕ → Type 0
Rose before now = min (before + 1) (2 ^ 64 - 1) ≤ now

-- a count never falls, and an Err comes only where it rose
pub record HasCause {T E : Type 0} (before now : ℕ) (result : Result T E) : Type 0 where
  pub later : before ≤ now
  pub failed : OnErr result (Rose before now)

-- the number after n, which stands still at its last value
abbrev pub next_number : ℕ → ℕ
next_number n = if nat_lt n (2 ^ 64 - 1) then n + 1 else n

-- a count of faults after one call more, which failed or not
abbrev pub faults_after : ℕ → Bool → ℕ
faults_after before failed = if failed then next_number before else before

-- a told text at its end; what isn't told stays untold
abbrev pub ended : Option (List ℕ) → Option (List ℕ)
ended told = option_map (λ _. []) told

-- Ok gives a front part of what was left, and 0 into room only at the end. A failed read takes nothing.
abbrev pub TakesBytes : {E : Type 0} → Option (List ℕ) → Option (List ℕ) → Result ℕ E → List ℕ → Type 0
TakesBytes before now result buf = MatchResult result
    (λ n. (before ≡ prepend_known (take n buf) now) × (n ≡ 0 → 0 < length buf → now ≡ ended before))
    (λ _. now ≡ before)

-- Ok appends all bytes, and a failed write appends a front part of them
abbrev pub Appends : {T E : Type 0} → Option (List ℕ) → Option (List ℕ) → Result T E → List ℕ → Type 0
Appends before now result bytes = MatchResult result
    (λ _. now ≡ append_known before bytes)
    (λ _. (n : ℕ) × (n ≤ length bytes) × (now ≡ append_known before (take n bytes)))

-- a writer got all bytes, or a front part of them at a write that failed
abbrev pub PassedOn : {T E : Type 0} → Option (List ℕ) → Option (List ℕ) → Result T E → List ℕ → Type 0
PassedOn before now result bytes = MatchResult result
    (λ _. WriterGets before now bytes)
    (λ _. (n : ℕ) × (n ≤ length bytes) × WriterGets before now (take n bytes))
