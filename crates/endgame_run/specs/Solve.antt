-- `solve`: who wins the position of a file, and by which move.
use Rattle.std.specs.Prelude.{◌≡◌, ⊤, ℕ, List, codes, Option, None, Ok}
use Rattle.std.specs.Io.KnownBytes.{append_known}
use Rattle.desk_io.specs.Desk.{Input, Known}
use Rattle.desk_io.specs.Files.{IsTold}
use Rattle.go_grid.specs.declared.grid.Colour.{Colour}
use Rattle.sgf_go.specs.File.{HasFewBytes, Reads}
use Rattle.go_play.specs.Setup.{Setup}
use Rattle.gd_words.specs.Job.{IsOnlyJob, Job}
use Rattle.gd_words.specs.Task.Task.{ask}
use Rattle.gd_words.specs.declared.job.CycleQuestion.TheVariants as cycle
use Rattle.gd_words.specs.declared.job.Question.{Question}
use Rattle.gd_words.specs.declared.job.Question.TheVariants.{Solve, WithCycles}
use Rattle.whole_rules.specs.FirstWinningMove.{IsFirstWinning}
use Rattle.whole_rules.specs.WholeGame.{Whole}
use Rattle.whole_rules.specs.declared.states.Move.{Move}
use Rattle.endgame_solver.specs.Solved.{OpensAs}
use Rattle.cycle_solver.specs.Winner.{TellsWinner}
use Rattle.cycle_report.specs.CycleSolution.{winner_or_none}
use Rattle.report.specs.Solution.{move_line}
use Rattle.endgame_questions.specs.File.{told_of}
use Rattle.endgame_run.specs.Line.{HasOnlyLine}

-- the question is who wins, by which move
abbrev pub AsksWinner : Question → Type 0
AsksWinner Solve = ⊤
AsksWinner (WithCycles cycle.Solve) = ⊤
AsksWinner question = ⊥

-- the words are the job of asking who wins the file of a word
pub record AreToSolve (words : List (List ℕ)) (job : Job) (question : Question) (word : List ℕ) : Type 0 where
  pub only : IsOnlyJob words job
  pub winner : AsksWinner question
  pub asks : job.task ≡ ask question word

-- the words ask to solve a file
abbrev pub AskToSolve : List (List ℕ) → Type 0
AskToSolve words = (job : Job) × (question : Question) × (word : List ℕ) × AreToSolve words job question word

-- the words ask who wins a file, this is its position by their settings, and the state opens it
pub record IsPosed (words : List (List ℕ)) (question : Question) (i : Input) (setup : Setup) (s : Whole) : Type 0 where
  pub job : Job
  pub word : List ℕ
  pub file : List ℕ
  pub asks : AreToSolve words job question word
  pub told : IsTold (told_of i word) file
  pub short : HasFewBytes file
  pub reads : Reads file job.settings (Ok setup)
  pub opening : OpensAs setup job.tax s

-- a text was written of which the line is the only one that begins with the word
abbrev pub WritesOnlyLine : List ℕ → List ℕ → Known → Known → Type 0
WritesOnlyLine word line a b = (text : List ℕ) × HasOnlyLine word line text × (b.holds ≡ append_known a.holds text)

-- the winner of a state, or none where it has none, which comes only where regions may have cycles
abbrev pub IsToldWinner : Question → Whole → Option Colour → Type 0
IsToldWinner Solve s None = ⊥
IsToldWinner question s winner = TellsWinner s winner

-- the only line `winner` names the winner of the opening, or `none` where there is none
abbrev pub WritesWinner : List (List ℕ) → Known → Known → Type 0
WritesWinner words a b = (question : Question) × (setup : Setup) × (s : Whole) × (winner : Option Colour)
    × IsPosed words question a.input setup s × IsToldWinner question s winner × WritesOnlyLine (codes "winner ") (winner_or_none winner) a b

-- the only line `move` names the first winning move of the opening, or `none` where there is none
abbrev pub WritesMove : List (List ℕ) → Known → Known → Type 0
WritesMove words a b = (question : Question) × (setup : Setup) × (s : Whole) × (move : Option Move)
    × IsPosed words question a.input setup s × IsFirstWinning s move × WritesOnlyLine (codes "move ") (move_line s.board.columns move) a b
