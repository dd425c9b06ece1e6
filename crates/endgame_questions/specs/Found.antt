-- The position that a file gives, or what is wrong with the file.
use Rattle.std.specs.Prelude.{ℕ, List, Ok, ◌≡◌, ◌≤◌, ◌⊎◌, false, codes, Err, IfSome}
use Rattle.sgf_go.specs.declared.settings.Settings.{Settings}
use Rattle.go_play.specs.Setup.{Setup}
use Rattle.desk_io.specs.Files.{Told, IsTold, IsLonger}
use Rattle.sgf_go.specs.File.{HasFewBytes, Reads}
use Rattle.sgf_go.specs.declared.settings.TheConstants.{MOST_PRISONERS}
use Rattle.sgf_tree.specs.declared.reader.TheConstants.{MOST_BYTES}
use Rattle.desk_io.specs.Desk.{Input}
use Rattle.desk_io.specs.Files.Told.{absent}
use Rattle.desk_io.specs.Outside.{Rose}
use Rattle.go_grid.specs.Board.{DeclaresNothing}
use Rattle.sgf_go.specs.Komi.{IsInRange}
use Rattle.endgame_questions.specs.declared.status.Status.{Status}
use Rattle.endgame_questions.specs.declared.status.Status.TheVariants.{BadFile, CannotRead, TooLong}
use Rattle.endgame_questions.specs.declared.question.Found.{Found}
use Rattle.endgame_questions.specs.declared.question.Found.TheVariants.{Position, Fault}
use Rattle.endgame_questions.specs.Position.{IsFaultText}
use Rattle.endgame_questions.specs.File.{count_of, told_of}

-- the position of the file of which this is told
pub record IsPositionOf (told : Told) (settings : Settings) (setup : Setup) : Type 0 where
  pub file : List ℕ
  pub told_so : IsTold told file
  pub short : HasFewBytes file
  pub reads : Reads file settings (Ok setup)

-- the ranges of settings: prisoners in points, a komi in half-points
pub record HasRanges (settings : Settings) : Type 0 where
  pub black : settings.black_prisoners ≤ MOST_PRISONERS
  pub white : settings.white_prisoners ≤ MOST_PRISONERS
  pub komi : IfSome settings.komi IsInRange

-- no point is declared where the settings don't ask for it
abbrev pub DeclaresAsAsked : Settings → Setup → Type 0
DeclaresAsAsked settings setup = settings.territory ≡ false → DeclaresNothing setup.board

-- what is wrong with the file of which this is told, by the counts of faults of the object that holds it: its status and its text
abbrev pub IsFileFault : Told → ℕ → ℕ → Settings → Status → List ℕ → Type 0
IsFileFault told before now settings CannotRead text = ((told ≡ absent) ⊎ Rose before now) × (text ≡ codes "fault cannot read\n")
IsFileFault told before now settings TooLong text = IsLonger MOST_BYTES told × (text ≡ codes "fault too long\n")
IsFileFault told before now settings (BadFile f) text = (file : List ℕ) × IsTold told file × HasFewBytes file × Reads file settings (Err f) × IsFaultText file f text
IsFileFault told before now settings s text = ⊥

-- the position of the file of the word, or what is wrong with the file
abbrev pub IsFoundInFile : Settings → List ℕ → Input → Input → Found → Type 0
IsFoundInFile settings word i j (Position setup) = IsPositionOf (told_of i word) settings setup × DeclaresAsAsked settings setup
IsFoundInFile settings word i j (Fault report) = IsFileFault (told_of i word) (count_of i word) (count_of j word) settings report.status report.text
