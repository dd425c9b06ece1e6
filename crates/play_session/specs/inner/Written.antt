-- What the turns of a session have written so far.
use Rattle.std.specs.Prelude.{◌≡◌, ◌≢◌, ◌⊎◌, ℕ, ◌+◌, ◌*◌, ◌-◌, ◌≤◌, ◌<◌, List, [], ◌++◌, Result, Ok, Err, Option, Some, None, IsErrOf, IfSome}
use Rattle.desk_io.specs.declared.lines.TheConstants.{MOST_LINES}
use Rattle.std.specs.Io.KnownBytes.{append_known}
use Rattle.desk_io.specs.Outside.{Rose}
use Rattle.go_grid.specs.Board.{Board}
use Rattle.go_grid.specs.declared.grid.Colour.{Colour}
use Rattle.go_grid.specs.declared.grid.Colour.TheVariants.{Black, White}
use Rattle.whole_rules.specs.WholeGame.{Whole, Leads}
use Rattle.play_session.specs.declared.end.SessionEnd.{SessionEnd}
use Rattle.play_session.specs.declared.end.SessionEnd.TheVariants.{ReadFault, WriteFault}
use Rattle.play_session.specs.declared.fault.Fault.{Fault}
use Rattle.play_session.specs.declared.fault.Fault.TheVariants.{Read, Write}
use Rattle.play_session.specs.declared.session.Request.{Request}
use Rattle.play_session.specs.declared.session.Request.TheVariants.{Ended, Line}
use Rattle.desk_io.specs.Lines.{IsLine}
use Rattle.play_session.specs.Words.{NamesMove}
use Rattle.whole_rules.specs.Moves.{IsMoveOnBoard}
use Rattle.play_session.specs.Session.{Standing, IsToAnswer, Turn, Ends, IsNextLine}
use Rattle.play_session.specs.Written.{Session, standing, IsPlayed, IsUnread, IsCutOff}

-- a count of writes never falls, and a fault is that of a write, where the count rose
pub record WriteCauses {T : Type 0} (writes writes_now : ℕ) (result : Result T Fault) : Type 0 where
  pub later : writes ≤ writes_now
  pub not_read : ¬ IsErrOf result Read
  pub write : IsErrOf result Write → Rose writes writes_now

-- counts of reads and of writes never fall, and a fault comes only where its count rose
pub record Causes {T : Type 0} (reads reads_now writes writes_now : ℕ) (result : Result T Fault) : Type 0 where
  pub reads_later : reads ≤ reads_now
  pub writes_later : writes ≤ writes_now
  pub read : IsErrOf result Read → Rose reads reads_now
  pub write : IsErrOf result Write → Rose writes writes_now

-- One turn was written, or the end. Where a read failed nothing was written, and the opponent's line is still to be read; where a
-- write failed, a front part of the line was.
abbrev pub TurnWritten : Colour → Standing → Option (List ℕ) → Option (List ℕ) → Result (Option SessionEnd) Fault → Session → ℕ → Option (List ℕ) → Type 0
TurnWritten engine a before now (Ok None) session read left = (rest text : List ℕ) × (left ≡ Some rest) × Turn engine a text (standing session read rest) × (now ≡ append_known before text)
TurnWritten engine a before now (Ok (Some end)) session read left = (rest text : List ℕ) × (left ≡ Some rest) × Ends engine a text end × (a ≡ standing session read rest) × (now ≡ append_known before text)
TurnWritten engine a before now (Err Read) session read left = (rest : List ℕ) × (left ≡ Some rest) × IsToAnswer engine a.game.state × (a.read < MOST_LINES) × (a ≡ standing session read rest) × (now ≡ before)
TurnWritten engine a before now (Err Write) session read left = (text more : List ℕ) × IsNextLine engine a (text ++ more) × (now ≡ append_known before text)

-- what was written of a session, by its result: the whole, or where a read failed all turns so far, or where a write failed
-- a front part
abbrev pub IsPlayedTo : Colour → Standing → Option (List ℕ) → Option (List ℕ) → Result SessionEnd Fault → Session → Option (List ℕ) → Type 0
IsPlayedTo engine a before now (Ok end) session left = IsPlayed engine a before now end session left
IsPlayedTo engine a before now (Err Read) session left = IsUnread engine a before now session left
IsPlayedTo engine a before now (Err Write) session left = IsCutOff engine a before now

-- a session ends by itself in one of four ways
abbrev pub IsNatural : SessionEnd → Type 0
IsNatural ReadFault = ⊥
IsNatural WriteFault = ⊥
IsNatural end = Unit {0}

-- 1 where the colour of the engine is the one to move, else 0
abbrev pub engine_turn : Colour → Colour → ℕ
engine_turn Black Black = 1
engine_turn Black White = 0
engine_turn White Black = 0
engine_turn White White = 1

-- how many turns may still come: two for each line that may still be read, and one where it is the engine's turn
abbrev pub turns_left : Session → ℕ → ℕ
turns_left session read = 2 * (MOST_LINES - read) + engine_turn session.engine session.game.state.side

-- the line that these bytes begin with was taken, or there is none
abbrev pub IsRequested : Board → List ℕ → Request → List ℕ → Option (List ℕ) → Type 0
IsRequested g bytes Ended held left = (bytes ≡ []) × (held ≡ []) × (left ≡ Some [])
IsRequested g bytes (Line asked) held left = (rest line : List ℕ) × (left ≡ Some rest) × (bytes ≢ []) × IsLine 256 bytes line (held ++ rest) × NamesMove g line asked

-- a move that is asked for is on the board
abbrev pub IsPossible : Board → Request → Type 0
IsPossible g Ended = Unit {0}
IsPossible g (Line asked) = IfSome asked (IsMoveOnBoard g.columns g.rows)

-- a move was made, or none
abbrev pub MovesOrStays : Whole → Whole → Type 0
MovesOrStays s t = Leads s t ⊎ (t ≡ s)
