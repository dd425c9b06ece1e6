-- The source, the sink and the shelf in memory, as their callers see them, and what each call leaves.
use Rattle.std.specs.Prelude.{◌-◌, ◌++◌, ◌==◌, ℕ, List, [], length, take, if◌then◌else◌, Bool, refl}
use Rattle.std.specs.List.{list_any}
use Rattle.std.specs.Coded.{Coded, code_by, coded×, coded_list, coded_ℕ}
use Rattle.std.specs.FinMap.{code}
use Rattle.desk_io.specs.Outside.{faults_after, next_number}
use Rattle.desk_io.specs.Files.{Files}

-- the number of the next call, the numbers of the calls that fail, and how many have failed
pub record Calls : Type 0 where
  pub next : ℕ
  pub failing : List ℕ
  pub faults : ℕ

-- the calls of an object before the first of them, where those with these numbers fail
abbrev pub uncalled : List ℕ → Calls
uncalled failing = record { next = 0; failing = failing; faults = 0 }

-- the next call is one of those that fail
abbrev pub fails_next : Calls → Bool
fails_next calls = list_any (λ n. n == calls.next) calls.failing

-- the calls after one call more, which failed or not
abbrev pub counted : Calls → Bool → Calls
counted calls failed = record {
  next = next_number calls.next;
  failing = calls.failing;
  faults = faults_after calls.faults failed;
}

-- the bytes that a source has left, and the most that a read gives
pub record MemorySource : Type 0 where
  pub left : List ℕ
  pub piece : ℕ
  pub calls : Calls

-- the bytes that a sink has got, and how many it has room for
pub record MemorySink : Type 0 where
  pub bytes : List ℕ
  pub room : ℕ
  pub calls : Calls

-- a shelf in memory: its files, and the calls that it got
pub record MemoryShelf : Type 0 where
  pub files : Files
  pub calls : Calls

-- a code for shelves, by which a proof tells two of them apart
abbrev pub shelf_code : Coded MemoryShelf
shelf_code = code_by (Files × (ℕ × (List ℕ × ℕ))) (coded× (code (coded_list coded_ℕ) (coded_list coded_ℕ)) (coded× coded_ℕ (coded× (coded_list coded_ℕ) coded_ℕ)))
    (λ s. (s.files, (s.calls.next, (s.calls.failing, s.calls.faults))))
    (λ p. record { files = p.0; calls = record { next = p.1.0; failing = p.1.1.0; faults = p.1.1.1 } })
    (λ _. refl)

-- the part of a piece that a sink takes: nothing at a call that fails, else what fits
abbrev pub accepted : MemorySink → List ℕ → List ℕ
accepted sink bytes = if fails_next sink.calls then [] else take sink.room bytes

-- a sink after a write of these bytes, which failed or not
abbrev pub written : MemorySink → List ℕ → Bool → MemorySink
written sink bytes failed = record {
  bytes = sink.bytes ++ accepted sink bytes;
  room = sink.room - length (accepted sink bytes);
  calls = counted sink.calls failed;
}
