-- What holds of each session.
use Rattle.std.specs.Prelude.{◌≡◌, ◌⊎◌, ◌++◌, ℕ, List, Some}
use Rattle.desk_io.specs.Files.{Files}
use Rattle.gtp_words.specs.declared.end.GtpEnd.{GtpEnd}
use Rattle.gtp_words.specs.Sessions.{BreaksOff, IsSession, Standing, Waits, beginning}
use Rattle.gtp_engine.specs.declared.limits.EngineLimits.{EngineLimits}
use Rattle.whole_rules.specs.PlainRecursion.{MoverWins, MoverLoses}
use Rattle.whole_rules.specs.WholeGame.{Whole, Leads}
use Rattle.engine_player.specs.EngineGame.{EngineGame}
use Rattle.gtp_engine.specs.Session.{AnswersLine, Generates, Said, Table, first_table}

-- from a game that the side to move wins, the engine's move leaves one that the side to move loses
abbrev pub MoveKeepsWin : Type 0
MoveKeepsWin = (p q : EngineGame) (said : Said) → MoverWins Whole Leads p.state → Generates p said q → MoverLoses Whole Leads q.state

-- Over the same bytes and files, where the same loads fail, a session has one text and one end, and leaves the same bytes. The files are
-- told: of one that isn't two loads may find two positions.
abbrev pub HasOneText : Type 0
HasOneText = (limits : EngineLimits) (files : Files) (failing bytes : List ℕ) (a b : Standing Table) (s t : List ℕ) (end final : GtpEnd)
    → IsSession Table (AnswersLine limits (Some files)) failing (beginning first_table bytes) s a end
    → IsSession Table (AnswersLine limits (Some files)) failing (beginning first_table bytes) t b final → (s ≡ t) × (a.left ≡ b.left) × (end ≡ final)

-- what waits or breaks off is a front part of that text
abbrev pub HasOneBeginning : Type 0
HasOneBeginning = (limits : EngineLimits) (files : Files) (failing bytes : List ℕ) (a b : Standing Table) (s t : List ℕ) (end : GtpEnd)
    → Waits Table (AnswersLine limits (Some files)) failing (beginning first_table bytes) s a
    ⊎ BreaksOff Table (AnswersLine limits (Some files)) failing (beginning first_table bytes) s a
    → IsSession Table (AnswersLine limits (Some files)) failing (beginning first_table bytes) t b end → (more : List ℕ) × (t ≡ s ++ more)
