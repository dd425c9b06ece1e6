-- Positions of files that a session loads.
use Rattle.std.specs.Prelude.{Bool, ◌≡◌, ◌⊎◌, ℕ, List, Option, None, Ok, Err}
use Rattle.desk_io.specs.Files.{IsLonger, IsTold, Told}
use Rattle.desk_io.specs.Files.Told.{absent}
use Rattle.desk_io.specs.Outside.{Rose}
use Rattle.sgf_tree.specs.declared.reader.TheConstants.{MOST_BYTES}
use Rattle.sgf_go.specs.declared.fault.FileFault.{FileFault}
use Rattle.sgf_go.specs.declared.settings.Settings.{Settings}
use Rattle.go_play.specs.Setup.{HasFewPrisoners, Setup}
use Rattle.sgf_go.specs.File.{HasFewBytes, Reads}
use Rattle.gtp_words.specs.declared.loading.Loading.{Loading}
use Rattle.gtp_words.specs.declared.loading.Loading.TheVariants.{Position, Nothing, Failed}

-- the settings of a load: whether the points that the file marks are declared, and how many moves are replayed
abbrev pub load_settings : Bool → Option ℕ → Settings
load_settings territory after = record { after = after; komi = None; turn = None; black_prisoners = 0; white_prisoners = 0; territory = territory }

-- the file of which this is told is not too long, and gives the position
abbrev pub GivesSetup : Told → Settings → Setup → Type 0
GivesSetup told settings setup = (file : List ℕ) × IsTold told file × HasFewBytes file × Reads file settings (Ok setup)

-- the shelf doesn't hold the file, or it is too long, or it gives no position
abbrev pub GivesNone : Told → Settings → Type 0
GivesNone told settings = (told ≡ absent)
    ⊎ (IsLonger MOST_BYTES told
    ⊎ ((file : List ℕ) × (fault : FileFault) × IsTold told file × HasFewBytes file × Reads file settings (Err fault)))

-- the position of the file of which this is told, or that it gives none, or that the load failed, and the count of faults rose
abbrev pub IsLoaded : Told → Settings → ℕ → ℕ → Loading → Type 0
IsLoaded told settings before now (Position setup) = GivesSetup told settings setup × HasFewPrisoners setup
IsLoaded told settings before now Nothing = GivesNone told settings
IsLoaded told settings before now Failed = Rose before now
