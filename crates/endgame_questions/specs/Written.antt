-- What is written of a text: all of it, or a front part where a write failed.
use Rattle.std.specs.Prelude.{◌≡◌, ◌⊎◌, ℕ, List, take, Option}
use Rattle.std.specs.Io.KnownBytes.{append_known}
use Rattle.desk_io.specs.Outside.{Rose}
use Rattle.endgame_questions.specs.declared.status.Status.{Status}
use Rattle.endgame_questions.specs.declared.status.Status.TheVariants.{CannotWrite, Memory}

-- a text was written whole, and the run ends with its status; or a front part of it, as a write failed
abbrev pub Finishes : Status → List ℕ → ℕ → ℕ → Option (List ℕ) → Option (List ℕ) → Status → Type 0
Finishes s text writes writes_now before now status =
    ((status ≡ s) × (now ≡ append_known before text))
    ⊎ ((status ≡ CannotWrite) × Rose writes writes_now × ((n : ℕ) × (now ≡ append_known before (take n text))))

-- what has such a status and text as `answers` says was asked for: nothing is written for want of memory, and else the text
abbrev pub Reports : (Status → List ℕ → Type 0) → ℕ → ℕ → Option (List ℕ) → Option (List ℕ) → Status → Type 0
Reports answers writes writes_now before now status =
    ((status ≡ Memory) × (now ≡ before))
    ⊎ ((s : Status) × (text : List ℕ) × answers s text × Finishes s text writes writes_now before now status)
