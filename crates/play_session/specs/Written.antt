-- What the parts of a session write, and where their faults come from.
use Rattle.std.specs.Prelude.{◌≡◌, ℕ, List, ◌++◌, Option, Some}
use Rattle.std.specs.Io.KnownBytes.{append_known}
use Rattle.go_grid.specs.declared.grid.Colour.{Colour}
use Rattle.engine_player.specs.EngineGame.{EngineGame}
use Rattle.play_session.specs.declared.end.SessionEnd.{SessionEnd}
use Rattle.play_session.specs.declared.end.SessionEnd.TheVariants.{ReadFault, WriteFault}
use Rattle.play_session.specs.Session.{Standing, IsSession, Waits, BreaksOff}

-- what a session keeps: the game, the engine's colour, and the bytes that it holds unread
pub record Session : Type 0 where
  pub game : EngineGame
  pub engine : Colour
  pub held : List ℕ

-- where the session stands, with so many lines read and these bytes left in the source
abbrev pub standing : Session → ℕ → List ℕ → Standing
standing session read rest = record { game = session.game; read = read; left = session.held ++ rest }

-- the whole session was written, and the session stands at its end
pub record IsPlayed (engine : Colour) (a : Standing) (before now : Option (List ℕ)) (end : SessionEnd) (session : Session) (left : Option (List ℕ)) : Type 0 where
  pub text : List ℕ
  pub read : ℕ
  pub rest : List ℕ
  pub played : IsSession engine a text (standing session read rest) end
  pub written : now ≡ append_known before text
  pub unread : left ≡ Some rest

-- all turns so far were written, and the session stands where the opponent's line is to be read
pub record IsUnread (engine : Colour) (a : Standing) (before now : Option (List ℕ)) (session : Session) (left : Option (List ℕ)) : Type 0 where
  pub text : List ℕ
  pub read : ℕ
  pub rest : List ℕ
  pub waits : Waits engine a text (standing session read rest)
  pub written : now ≡ append_known before text
  pub unread : left ≡ Some rest

-- turns were written, and a front part of the line after them
abbrev pub IsCutOff : Colour → Standing → Option (List ℕ) → Option (List ℕ) → Type 0
IsCutOff engine a before now = (text : List ℕ) × BreaksOff engine a text × (now ≡ append_known before text)

-- what was written of a session, by its end: the whole, or where a read failed all turns so far, or where a write failed
-- a front part
abbrev pub Played : Colour → Standing → Option (List ℕ) → Option (List ℕ) → SessionEnd → Session → Option (List ℕ) → Type 0
Played engine a before now ReadFault session left = IsUnread engine a before now session left
Played engine a before now WriteFault session left = IsCutOff engine a before now
Played engine a before now end session left = IsPlayed engine a before now end session left
