-- What was found of a file on the way to its position.
use Rattle.std.specs.Prelude.{◌≡◌, ℕ, List, Ok, Err}
use Rattle.sgf_tree.specs.Grammar.{PropertyText}
use Rattle.go_play.specs.Setup.{Setup}
use Rattle.sgf_go.specs.Setup.{Gives}
use Rattle.sgf_go.specs.declared.fault.SetupFault.{SetupFault}
use Rattle.sgf_go.specs.declared.settings.Settings.{Settings}
use Rattle.sgf_go.specs.declared.fault.FileFault.{FileFault}
use Rattle.sgf_go.specs.declared.fault.FileFault.TheVariants as fault
use Rattle.endgame_questions.specs.declared.status.Status.TheVariants.{BadFile}
use Rattle.endgame_questions.specs.declared.question.Found.{Found}
use Rattle.endgame_questions.specs.declared.question.Found.TheVariants.{Position, Fault}
use Rattle.sgf_go.specs.File.{Reads}
use Rattle.endgame_questions.specs.Found.{DeclaresAsAsked}
use Rattle.endgame_questions.specs.Position.{IsFaultText, IsSetupFaultText}

-- the position of a main line, or the fault of the line
abbrev pub IsLineFound : List (List PropertyText) → Settings → Found → Type 0
IsLineFound l settings (Position setup) = Gives settings l (Ok setup) × DeclaresAsAsked settings setup
IsLineFound l settings (Fault report) = (f : SetupFault) × (report.status ≡ BadFile (fault.Setup f)) × Gives settings l (Err f) × IsSetupFaultText l f report.text

-- the position of a file, or the fault of the file
abbrev pub IsFileFound : List ℕ → Settings → Found → Type 0
IsFileFound file settings (Position setup) = Reads file settings (Ok setup) × DeclaresAsAsked settings setup
IsFileFound file settings (Fault report) = (f : FileFault) × (report.status ≡ BadFile f) × Reads file settings (Err f) × IsFaultText file f report.text
