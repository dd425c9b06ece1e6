-- An engine that has won keeps its win, in a game and in a session.
use Rattle.std.specs.Prelude.{◌⊎◌, ⊤, IfSome, List, ℕ}
use Rattle.desk_io.specs.Desk.{Desk, Known, Outside, known}
use Rattle.go_grid.specs.declared.grid.Colour.{Colour}
use Rattle.gd_words.specs.Job.{Job}
use Rattle.gd_words.specs.Task.{Task}
use Rattle.gd_words.specs.Task.Task.{gtp, play}
use Rattle.gtp_engine.specs.Laws.{MoveKeepsWin}
use Rattle.board_session.specs.CycleLaws.{WinIsKeptWithCycles}
use Rattle.board_session.specs.GeneratedLaws.{WinIsKept}
use Rattle.whole_rules.specs.FirstWinningMove.{IsWinner}
use Rattle.engine_player.specs.EngineGame.{EngineGame}
use Rattle.endgame_run.specs.Game.{IsGame, IsUnplayed, IsWonGame, WinsFromThere}
use Rattle.endgame_run.specs.Limits.{terms_of}
use Rattle.endgame_run.specs.Run.{Runs}
use Rattle.endgame_questions.specs.declared.status.Status.{Status}

-- a game of the file of the word was played; where the engine wins at its opening it keeps its win, and from a later state that it wins too
abbrev pub PlaysWon : Job → List ℕ → Known → Known → Type 0
PlaysWon job word a b = (engine : Colour) × (s : EngineGame) × IsGame (terms_of job) job.cycles job.engine job.settings word a.input engine s
    × (IsWinner s.state engine → IfSome a.input.left (λ bytes. IsWonGame engine s bytes a.holds b.holds))
    × ((bytes : List ℕ) → WinsFromThere engine s bytes)

-- No game was begun, or one in which the engine keeps what it has won; in each session of the engine, with a board of its own or without,
-- and there with cycles admitted or without, a move keeps it.
abbrev pub KeepsWin : Task → Job → Known → Status → Known → Type 0
KeepsWin (play word) job a status b = IsUnplayed (terms_of job) job.cycles job.settings word a status b ⊎ PlaysWon job word a b
KeepsWin gtp job a status b = MoveKeepsWin × WinIsKept × WinIsKeptWithCycles
KeepsWin task job a status b = ⊤

-- in every run the engine keeps what it has won
abbrev pub EngineKeepsWin : {H S K : Type 0} → Outside H S K → Type 0
EngineKeepsWin {H} {S} {K} o = (job : Job) (a b : Desk H S K) (status : Status) → Runs o job a status b → KeepsWin job.task job (known o a) status (known o b)
