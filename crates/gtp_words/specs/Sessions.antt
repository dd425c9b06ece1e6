-- Sessions over lines: what is replied to each line, and how a session ends.
use Rattle.std.specs.Prelude.{Bool, true, false, ◌≡◌, ◌≢◌, ◌<◌, ◌≤◌, ◌+◌, ◌++◌, ℕ, zero, suc, List, [], length, Option, Some}
use Rattle.std.specs.Io.KnownBytes.{append_known}
use Rattle.desk_io.specs.declared.lines.TheConstants.{MOST_LINES}
use Rattle.desk_io.specs.Lines.{IsLine}
use Rattle.gtp_words.specs.declared.end.GtpEnd.{GtpEnd}
use Rattle.gtp_words.specs.declared.end.GtpEnd.TheVariants.{Quit, InputEnded, ReadFault, WriteFault, TooManyLines, Memory}
use Rattle.gtp_words.specs.Loads.{Fate, IsLoadNumbered, Loads, NotesFate, unloaded}

-- what is replied to a line in a state, by what becomes of its load, the state after it, and whether the session ends with it
abbrev pub Answers : Type 0 → Type 1
Answers A = List ℕ → Fate → A → List ℕ → A → Bool → Type 0

-- a state, and the loads so far
pub record Loaded (A : Type 0) : Type 0 where
  pub state : A
  pub loads : Loads

-- a state before any load
abbrev pub loadless : {A : Type 0} → A → Loaded A
loadless start = record { state = start; loads = unloaded }

-- the reply to a line, and what it leaves, where the count of the shelf's faults goes from `before` to `now`
pub record IsReply (A : Type 0) (Reply : Answers A) (before now : ℕ) (line : List ℕ) (a : Loaded A) (text : List ℕ) (b : Loaded A) (last : Bool) : Type 0 where
  pub fate : Fate
  pub answered : Reply line fate a.state text b.state last
  pub noted : NotesFate before now fate a.loads b.loads

-- where a session stands: its state, how many loads there were, how many lines were read, and the bytes that are left
pub record Standing (A : Type 0) : Type 0 where
  pub state : A
  pub loads : ℕ
  pub read : ℕ
  pub left : List ℕ

-- one line is read and answered, where the loads of these numbers fail
pub record TakesLine (A : Type 0) (Reply : Answers A) (failing : List ℕ) (a : Standing A) (text : List ℕ) (b : Standing A) (last : Bool) : Type 0 where
  pub few : a.read < MOST_LINES
  pub some : a.left ≢ []
  pub line : List ℕ
  pub fate : Fate
  pub taken : IsLine 1024 a.left line b.left
  pub answered : Reply line fate a.state text b.state last
  pub counted : b.read ≡ a.read + 1
  pub numbered : IsLoadNumbered failing fate a.loads b.loads

-- so many lines, one after the other, and their replies; none of them ends the session
abbrev pub TakesLines : (A : Type 0) → Answers A → List ℕ → ℕ → Standing A → List ℕ → Standing A → Type 0
TakesLines A Reply failing zero a text b = (text ≡ []) × (b ≡ a)
TakesLines A Reply failing (suc n) a text c = (b : Standing A) × ((first then : List ℕ) × TakesLines A Reply failing n a first b
    × TakesLine A Reply failing b then c false × (text ≡ first ++ then))

-- the session ends here: with a line that says so, or where no line is left or may be read
abbrev pub Ends : (A : Type 0) → Answers A → List ℕ → Standing A → List ℕ → Standing A → GtpEnd → Type 0
Ends A Reply failing a text b Quit = TakesLine A Reply failing a text b true
Ends A Reply failing a text b InputEnded = (a.read < MOST_LINES) × (a.left ≡ []) × (text ≡ []) × (b ≡ a)
Ends A Reply failing a text b TooManyLines = (a.read ≡ MOST_LINES) × (text ≡ []) × (b ≡ a)
Ends A Reply failing a text b end = ⊥

-- a whole session: lines, and then its end
pub record IsSession (A : Type 0) (Reply : Answers A) (failing : List ℕ) (a : Standing A) (text : List ℕ) (c : Standing A) (end : GtpEnd) : Type 0 where
  pub number : ℕ
  pub before_end : Standing A
  pub first : List ℕ
  pub then : List ℕ
  pub turns : TakesLines A Reply failing number a first before_end
  pub ends : Ends A Reply failing before_end then c end
  pub whole : text ≡ first ++ then

-- the replies to all lines up to one that is still to be answered
abbrev pub Waits : (A : Type 0) → Answers A → List ℕ → Standing A → List ℕ → Standing A → Type 0
Waits A Reply failing a text b = (n : ℕ) × TakesLines A Reply failing n a text b × (b.read < MOST_LINES)

-- the replies to some lines, and a front part of the next reply, which leads here
abbrev pub BreaksOff : (A : Type 0) → Answers A → List ℕ → Standing A → List ℕ → Standing A → Type 0
BreaksOff A Reply failing a text c = (n : ℕ) × (b : Standing A) × (first then more : List ℕ) × (last : Bool) × TakesLines A Reply failing n a first b
    × TakesLine A Reply failing b (then ++ more) c last × (text ≡ first ++ then)

-- where a session begins in a state: nothing was loaded or read
abbrev pub beginning : {A : Type 0} → A → List ℕ → Standing A
beginning start bytes = record { state = start; loads = 0; read = 0; left = bytes }

-- The session stands here: in this state, and what it left unread are the bytes that its reader holds, no more than a line may have, and
-- those that the source has left.
pub record StandsAt (A : Type 0) (state : A) (left : Option (List ℕ)) (c : Standing A) : Type 0 where
  pub held : List ℕ
  pub rest : List ℕ
  pub same : c.state ≡ state
  pub unread : c.left ≡ held ++ rest
  pub few : length held ≤ 1024
  pub source : left ≡ Some rest

-- What a session over the bytes has written, by its end, and where it stands: all of it, or the replies so far, or a front part of the next
-- reply too.
abbrev pub WritesByEnd : (A : Type 0) → Answers A → List ℕ → A → List ℕ → Option (List ℕ) → Option (List ℕ) → A → Option (List ℕ) → GtpEnd → Type 0
WritesByEnd A Reply failing start bytes before now state left ReadFault = (c : Standing A) × (text : List ℕ) × StandsAt A state left c
    × Waits A Reply failing (beginning start bytes) text c × (now ≡ append_known before text)
WritesByEnd A Reply failing start bytes before now state left Memory = (c : Standing A) × (text : List ℕ) × StandsAt A state left c
    × Waits A Reply failing (beginning start bytes) text c × (now ≡ append_known before text)
WritesByEnd A Reply failing start bytes before now state left WriteFault = (c : Standing A) × (text : List ℕ) × StandsAt A state left c
    × BreaksOff A Reply failing (beginning start bytes) text c × (now ≡ append_known before text)
WritesByEnd A Reply failing start bytes before now state left end = (c : Standing A) × (text : List ℕ) × StandsAt A state left c
    × IsSession A Reply failing (beginning start bytes) text c end × (now ≡ append_known before text)
