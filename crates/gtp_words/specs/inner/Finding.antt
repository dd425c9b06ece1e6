-- What the main line of a file comes to.
use Rattle.std.specs.Prelude.{ℕ, List, Ok, Err}
use Rattle.sgf_tree.specs.Grammar.{PropertyText}
use Rattle.go_play.specs.Setup.{HasFewPrisoners}
use Rattle.sgf_go.specs.Setup.{Gives}
use Rattle.sgf_go.specs.File.{Reads}
use Rattle.sgf_go.specs.declared.fault.FileFault.{FileFault}
use Rattle.sgf_go.specs.declared.fault.SetupFault.{SetupFault}
use Rattle.sgf_go.specs.declared.settings.Settings.{Settings}
use Rattle.gtp_words.specs.declared.loading.Loading.{Loading}
use Rattle.gtp_words.specs.declared.loading.Loading.TheVariants.{Position, Nothing, Failed}

-- the position of a main line, or that it has a fault
abbrev pub IsFoundOn : List (List PropertyText) → Settings → Loading → Type 0
IsFoundOn line settings (Position setup) = Gives settings line (Ok setup) × HasFewPrisoners setup
IsFoundOn line settings Nothing = (fault : SetupFault) × Gives settings line (Err fault)
IsFoundOn line settings Failed = ⊥

-- the position of a file, or that it has a fault
abbrev pub IsFoundIn : List ℕ → Settings → Loading → Type 0
IsFoundIn file settings (Position setup) = Reads file settings (Ok setup) × HasFewPrisoners setup
IsFoundIn file settings Nothing = (fault : FileFault) × Reads file settings (Err fault)
IsFoundIn file settings Failed = ⊥
