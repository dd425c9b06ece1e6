-- `play`: a game of a file over the lines of the source: when there is one, how it ends, and what it writes.
use Rattle.std.specs.Prelude.{◌≡◌, ◌≢◌, ◌⊎◌, ◌++◌, ℕ, List, Bool, true, false, codes, take, Option, IfSome}
use Rattle.std.specs.Option.{unwrap_or}
use Rattle.std.specs.Io.KnownBytes.{append_known}
use Rattle.desk_io.specs.Desk.{Desk, Input, Known, Outside, known}
use Rattle.desk_io.specs.Outside.{Rose}
use Rattle.go_grid.specs.declared.grid.Colour.{Colour}
use Rattle.go_grid.specs.Board.{other}
use Rattle.go_grid.specs.Chain.{IsSettled}
use Rattle.board_words.specs.Words.{winner_line}
use Rattle.sgf_go.specs.declared.settings.Settings.{Settings}
use Rattle.go_play.specs.Setup.{Setup}
use Rattle.engine_player.specs.EngineGame.{EngineGame}
use Rattle.engine_player.specs.Opening.{OpensGame}
use Rattle.whole_rules.specs.FirstWinningMove.{IsWinner}
use Rattle.endgame_questions.specs.declared.terms.GameTerms.{GameTerms}
use Rattle.play_session.specs.declared.end.SessionEnd.{SessionEnd}
use Rattle.play_session.specs.declared.end.SessionEnd.TheVariants as end
use Rattle.play_session.specs.Laws.{EndsWonKeeping, IsLineIn, KeepsWin, TakesBackNoKo}
use Rattle.play_session.specs.Session.{Standing, Turns, IsNextLine, IsSession, Waits, BreaksOff}
use Rattle.endgame_questions.specs.File.{TakesAtMost, most_of_game, told_of}
use Rattle.endgame_questions.specs.Found.{IsPositionOf}
use Rattle.endgame_questions.specs.Question.{IsAnswer}
use Rattle.endgame_questions.specs.Written.{Reports}
use Rattle.gd_words.specs.declared.job.CycleQuestion.TheVariants as cycle
use Rattle.gd_words.specs.declared.job.Question.{Question}
use Rattle.gd_words.specs.declared.job.Question.TheVariants.{Solve, WithCycles}
use Rattle.endgame_questions.specs.declared.status.Status.{Status}
use Rattle.endgame_questions.specs.declared.status.Status.TheVariants.{Done, CannotRead, CannotWrite, TooManyLines}

-- the engine has the colour that is given, or else the side to move
abbrev pub IsEngine : Option Colour → Setup → Colour → Type 0
IsEngine given setup engine = engine ≡ unwrap_or given setup.side

-- the question that is answered where a game begins, with cycles admitted or without
abbrev pub question_of_game : Bool → Question
question_of_game false = Solve
question_of_game true = WithCycles cycle.Solve

-- the position of the file of the word by the settings opens the game on these terms, with cycles admitted or without, and this is
-- the engine's colour
pub record IsGame (terms : GameTerms) (cycles : Bool) (given : Option Colour) (settings : Settings) (word : List ℕ) (i : Input) (engine : Colour)
    (s : EngineGame) : Type 0 where
  pub setup : Setup
  pub position : IsPositionOf (told_of i word) settings setup
  pub settled : IsSettled setup.board
  pub playable : OpensGame cycles terms.limits terms.tax setup s
  pub colour : IsEngine given setup engine

-- where a session begins: with the game, and no line was read
abbrev pub game_beginning : EngineGame → List ℕ → Standing
game_beginning s bytes = record { game = s; read = 0; left = bytes }

-- a whole session over the bytes, with its end
abbrev pub IsSessionOf : Colour → EngineGame → List ℕ → SessionEnd → List ℕ → Type 0
IsSessionOf engine s bytes final text = (b : Standing) × IsSession engine (game_beginning s bytes) text b final

-- all turns of the session up to one of the opponent's, whose line is still to be read
abbrev pub WaitsAfter : Colour → EngineGame → List ℕ → List ℕ → Type 0
WaitsAfter engine s bytes text = (b : Standing) × Waits engine (game_beginning s bytes) text b

-- the ends of a game that is done
abbrev pub IsGameOver : SessionEnd → Type 0
IsGameOver end.Won = Unit {0}
IsGameOver end.Lost = Unit {0}
IsGameOver end.InputEnded = Unit {0}
IsGameOver final = ⊥

-- the statuses with which a game ends that has begun
abbrev pub IsSessionStatus : Status → Type 0
IsSessionStatus Done = Unit {0}
IsSessionStatus CannotRead = Unit {0}
IsSessionStatus CannotWrite = Unit {0}
IsSessionStatus TooManyLines = Unit {0}
IsSessionStatus s = ⊥

-- the text of a session up to a fault, and the line of the fault: a read failed, or the opponent was to move and 10,000 lines were read
abbrev pub IsStopped : Colour → EngineGame → List ℕ → Status → List ℕ → List ℕ → Type 0
IsStopped engine s bytes CannotRead text line = WaitsAfter engine s bytes text × (line ≡ codes "fault cannot read\n")
IsStopped engine s bytes TooManyLines text line = IsSessionOf engine s bytes end.TooManyLines text × (line ≡ codes "fault lines\n")
IsStopped engine s bytes status text line = ⊥

-- What a game over the bytes has written, by its status: the session, and the line of a fault behind it. Where a write failed it is
-- turns and a front part of the line after them, or a front part of the fault's line. What the engine has won isn't lost.
abbrev pub IsGameWritten : Colour → EngineGame → List ℕ → Option (List ℕ) → Option (List ℕ) → Status → Type 0
IsGameWritten engine s bytes before now Done = (final : SessionEnd) × (text : List ℕ) × IsGameOver final × (IsWinner s.state engine → final ≢ end.Lost)
    × IsSessionOf engine s bytes final text × (now ≡ append_known before text)
IsGameWritten engine s bytes before now CannotWrite = ((text : List ℕ) × BreaksOff engine (game_beginning s bytes) text × (now ≡ append_known before text))
    ⊎ ((fault : Status) × (text line : List ℕ) × (n : ℕ) × IsStopped engine s bytes fault text line × (now ≡ append_known before (text ++ take n line)))
IsGameWritten engine s bytes before now status = (text line : List ℕ) × IsStopped engine s bytes status text line × (now ≡ append_known before (text ++ line))

-- a session that was played over what the source has left, by its status. A read or a write that failed was counted.
pub record IsPlayRun (engine : Colour) (s : EngineGame) (left : Option (List ℕ)) (reads reads_now writes writes_now : ℕ) (before now : Option (List ℕ)) (status : Status) : Type 0 where
  pub begun : IsSessionStatus status
  pub read : status ≡ CannotRead → Rose reads reads_now
  pub write : status ≡ CannotWrite → Rose writes writes_now
  pub written : IfSome left (λ bytes. IsGameWritten engine s bytes before now status)

-- a game of the file of the word was begun and played
abbrev pub IsPlayedGame : GameTerms → Bool → Option Colour → Settings → List ℕ → Known → Status → Known → Type 0
IsPlayedGame terms cycles given settings word a status b = (engine : Colour) × (s : EngineGame) × IsGame terms cycles given settings word a.input engine s
    × IsPlayRun engine s a.input.left a.input.reads b.input.reads a.writes b.writes a.holds b.holds status

-- no game was begun: for want of memory, or since the file can't be solved
abbrev pub IsUnplayed : GameTerms → Bool → Settings → List ℕ → Known → Status → Known → Type 0
IsUnplayed terms cycles settings word a status b = Reports (λ s text. IsAnswer (question_of_game cycles) terms settings word a.input b.input s text × (s ≢ Done)) a.writes b.writes a.holds b.holds status

-- what a game of the file of a word comes to
pub record PlaysFile {H S K : Type 0} (o : Outside H S K) (terms : GameTerms) (cycles : Bool) (given : Option Colour) (settings : Settings) (word : List ℕ) (a : Desk H S K) (status : Status) (b : Desk H S K) : Type 0 where
  pub outcome : (IsUnplayed terms cycles settings word (known o a) status (known o b) × (b.lines ≡ a.lines)) ⊎ IsPlayedGame terms cycles given settings word (known o a) status (known o b)
  pub taken : TakesAtMost most_of_game (o.sources.left a.lines) (o.sources.left b.lines)
  pub asked : o.shelves.asks a.shelf word b.shelf

-- Wherever turns lead from here the engine wins, so that after each of its moves the opponent is to move and loses; where kos are admitted,
-- at its turn, it wins within a number of moves, whatever the opponent plays, and it takes back no ko at once.
pub record WinsFromHere (engine : Colour) (a : Standing) : Type 0 where
  pub kept : (n : ℕ) (text : List ℕ) (b : Standing) → Turns engine n a text b → KeepsWin engine b
  pub ends : (n : ℕ) (text : List ℕ) (b : Standing) → Turns engine n a text b → b.game.state.side ≡ engine
      → EndsWonKeeping engine b.game.keeping b.game.state
  pub ko : (n : ℕ) (text : List ℕ) (b : Standing) → Turns engine n a text b → TakesBackNoKo engine b

-- from each state of the game that the engine wins, its opening or a later one, it keeps its win
abbrev pub WinsFromThere : Colour → EngineGame → List ℕ → Type 0
WinsFromThere engine s bytes = (n : ℕ) (text : List ℕ) (a : Standing) → Turns engine n (game_beginning s bytes) text a → IsWinner a.game.state engine → WinsFromHere engine a

-- what is written behind turns is a front part of one line, or all of it: that of the next turn, of the end or of a fault
abbrev pub IsLastLine : Colour → Standing → List ℕ → Type 0
IsLastLine engine b last = (more : List ℕ)
    × (IsNextLine engine b (last ++ more) ⊎ (((last ++ more) ≡ codes "fault cannot read\n") ⊎ ((last ++ more) ≡ codes "fault lines\n")))

-- What was written of a game that the engine wins at its opening: its turns, and no more than a line behind them. It wins from there,
-- and no line names the opponent as the winner.
pub record IsWonGame (engine : Colour) (s : EngineGame) (bytes : List ℕ) (before now : Option (List ℕ)) : Type 0 where
  pub number : ℕ
  pub reached : Standing
  pub first : List ℕ
  pub last : List ℕ
  pub turns : Turns engine number (game_beginning s bytes) first reached
  pub behind : IsLastLine engine reached last
  pub wins : WinsFromHere engine (game_beginning s bytes)
  pub written : now ≡ append_known before (first ++ last)
  pub unnamed : ¬ IsLineIn (winner_line (other engine)) (first ++ last)
