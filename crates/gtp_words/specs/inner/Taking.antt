-- What a line of a session leaves when it is taken.
use Rattle.std.specs.Prelude.{Bool, true, false, ◌≡◌, ◌≢◌, ◌⊎◌, ◌++◌, ℕ, List, [], Option, Some, None}
use Rattle.std.specs.Io.KnownBytes.{append_known}
use Rattle.desk_io.specs.Lines.{IsLine}
use Rattle.gtp_words.specs.declared.end.GtpEnd.{GtpEnd}
use Rattle.gtp_words.specs.declared.end.GtpEnd.TheVariants.{Quit, InputEnded, ReadFault, WriteFault, TooManyLines, Memory}
use Rattle.gtp_words.specs.Loads.{Fate, Loads, NotesFate}
use Rattle.gtp_words.specs.Asking.{Asking, AsksOnLine, Naming}
use Rattle.gtp_words.specs.Sessions.{Answers, IsReply, Loaded}
use Rattle.gtp_words.specs.Steps.{Counted, LineSteps, WithSteps, counted}

-- the line that the bytes begin with is answered, and these bytes come after it
pub record Replies (A : Type 0) (Reply : Answers A) (before now : ℕ) (a : Loaded A) (bytes text : List ℕ) (b : Loaded A) (rest : List ℕ) (last : Bool) : Type 0 where
  pub some : bytes ≢ []
  pub line : List ℕ
  pub taken : IsLine 1024 bytes line rest
  pub answered : IsReply A Reply before now line a text b last

-- The reply to a line was written, or that there is none, by the end of the session that comes of it. Where the write failed a
-- front part of the reply was written; where a read failed or memory was refused nothing was, and the line is still to be answered.
abbrev pub LineTaken : (A : Type 0) → Answers A → ℕ → ℕ → Loaded A → List ℕ → Option (List ℕ) → Option (List ℕ) → Option GtpEnd → Loaded A → List ℕ → Type 0
LineTaken A Reply before now a bytes holds holds' None b rest = (text : List ℕ) × Replies A Reply before now a bytes text b rest false × (holds' ≡ append_known holds text)
LineTaken A Reply before now a bytes holds holds' (Some Quit) b rest = (text : List ℕ) × Replies A Reply before now a bytes text b rest true × (holds' ≡ append_known holds text)
LineTaken A Reply before now a bytes holds holds' (Some InputEnded) b rest = (bytes ≡ []) × (b ≡ a) × (holds' ≡ holds) × (rest ≡ bytes)
LineTaken A Reply before now a bytes holds holds' (Some ReadFault) b rest = (b ≡ a) × (holds' ≡ holds) × (rest ≡ bytes)
LineTaken A Reply before now a bytes holds holds' (Some Memory) b rest = (b ≡ a) × (holds' ≡ holds) × (rest ≡ bytes)
LineTaken A Reply before now a bytes holds holds' (Some WriteFault) b rest = (text more : List ℕ) × (last : Bool) × Replies A Reply before now a bytes (text ++ more) b rest last
    × (holds' ≡ append_known holds text)
LineTaken A Reply before now a bytes holds holds' (Some TooManyLines) b rest = ⊥

-- something becomes of a load, or there is none, and it is noted
abbrev pub IsSomeNoted : ℕ → ℕ → Loads → Loads → Type 0
IsSomeNoted before now a b = (fate : Fate) × NotesFate before now fate a b

-- Which file was asked for on a line, by the end of the session that comes of it: that of the line, where it is answered; where memory is
-- refused that or none, and the line is still to be answered; and none where no line is read.
abbrev pub AskedOnLine : {H : Type 0} → Asking H → Naming → List ℕ → H → List ℕ → H → Option GtpEnd → Type 0
AskedOnLine asks Named bytes s rest t (Some InputEnded) = (rest ≡ bytes) × (t ≡ s)
AskedOnLine asks Named bytes s rest t (Some ReadFault) = (rest ≡ bytes) × (t ≡ s)
AskedOnLine asks Named bytes s rest t (Some Memory) = (rest ≡ bytes) × ((t ≡ s) ⊎ ((behind : List ℕ) × AsksOnLine asks Named bytes s behind t))
AskedOnLine asks Named bytes s rest t (Some TooManyLines) = ⊥
AskedOnLine asks Named bytes s rest t end = AsksOnLine asks Named bytes s rest t

-- the state with this count of steps, and the loads so far
abbrev pub loaded_at : {A : Type 0} → Loaded A → ℕ → Loaded (Counted A)
loaded_at a steps = record { state = counted a.state steps; loads = a.loads }

-- What a line leaves, with its steps. Where memory is refused they are those of a line that is still to be answered.
abbrev pub LineStepped : (A : Type 0) → LineSteps A → Answers A → ℕ → ℕ → Loaded A → ℕ → List ℕ → Option (List ℕ) → Option (List ℕ) → Option GtpEnd → Loaded A → ℕ → List ℕ → Type 0
LineStepped A Steps Reply before now a s bytes holds holds' (Some Memory) b t rest = (b ≡ a) × (holds' ≡ holds) × (rest ≡ bytes)
    × ((line behind : List ℕ) × (bytes ≢ []) × IsLine 1024 bytes line behind × Steps a.state line s t)
LineStepped A Steps Reply before now a s bytes holds holds' end b t rest = LineTaken (Counted A) (WithSteps Steps Reply) before now (loaded_at a s) bytes holds holds' end (loaded_at b t) rest

-- the steps of a line, by the end of the session that comes of it: of one that is answered, or where memory is refused of one that is not
abbrev pub LineCounted : (A : Type 0) → LineSteps A → Answers A → Counted A → Option GtpEnd → Counted A → Type 0
LineCounted A Steps Reply a (Some InputEnded) b = b ≡ a
LineCounted A Steps Reply a (Some ReadFault) b = b ≡ a
LineCounted A Steps Reply a (Some Memory) b = (b.state ≡ a.state) × ((line : List ℕ) × Steps a.state line a.steps b.steps)
LineCounted A Steps Reply a (Some TooManyLines) b = ⊥
LineCounted A Steps Reply a end b = (line text : List ℕ) × (fate : Fate) × (last : Bool) × WithSteps Steps Reply line fate a text b last
