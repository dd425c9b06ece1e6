-- `trial`: the board that a number draws: what the text of a number is, and how many steps it takes.
use Rattle.std.specs.Prelude.{◌≡◌, ◌⊎◌, ◌+◌, ◌≤◌, ℕ, List, false, pos}
use Rattle.desk_io.specs.Desk.{Desk, Outside}
use Rattle.go_grid.specs.declared.grid.Colour.TheVariants.{Black}
use Rattle.board_gen.specs.Trial.{IsTrialBoard}
use Rattle.go_play.specs.Setup.{Setup}
use Rattle.endgame_solver.specs.Limits.{Limits}
use Rattle.endgame_solver.specs.Solved.{Solved, OpensAs}
use Rattle.endgame_solver.specs.Faults.{most_steps}
use Rattle.go_grid.specs.Region.{Region}
use Rattle.region_cut.specs.Cut.{AreRegionsOfPlay}
use Rattle.endgame_questions.specs.Written.{Reports}
use Rattle.endgame_questions.specs.declared.status.Status.{Status}
use Rattle.endgame_questions.specs.declared.status.Status.TheVariants.{Done}
use Rattle.report.specs.Trial.{IsTrialText}

-- the limits of a trial, which are those of a file without options
abbrev pub trial_limits : Limits
trial_limits = record { positions = 100000; parts = 500 }

-- the position that the number draws: its board with Black to move, no prisoners and no komi
pub record IsTrialPosition (number : ℕ) (setup : Setup) : Type 0 where
  pub board : IsTrialBoard number setup.board
  pub side : setup.side ≡ Black
  pub komi : setup.komi_halves ≡ pos 0
  pub black : setup.black_prisoners ≡ 0
  pub white : setup.white_prisoners ≡ 0

-- the number's position, its regions of play and the state that opens it, and the text of `trial` about them
pub record IsTrial (number : ℕ) (text : List ℕ) : Type 0 where
  pub setup : Setup
  pub game : Solved
  pub position : IsTrialPosition number setup
  pub are_regions : AreRegionsOfPlay setup.board game.regions
  pub opening : OpensAs setup false game.state
  pub is : IsTrialText number game text

-- the status of the board of a number, and its text
abbrev pub IsTrialAnswer : ℕ → Status → List ℕ → Type 0
IsTrialAnswer number s text = (s ≡ Done) × IsTrial number text

-- the steps for the position of the number: none, or for each of its regions the limit, or 3 to its points where that is less
abbrev pub AreTrialSteps : ℕ → ℕ → ℕ → Type 0
AreTrialSteps number before now = (now ≡ before)
    ⊎ ((setup : Setup) × IsTrialPosition number setup × ((regions : List Region) → AreRegionsOfPlay setup.board regions → now ≤ before + most_steps trial_limits regions))

-- what the run for the board of a number comes to
pub record RunsTrial {H S K : Type 0} (o : Outside H S K) (number : ℕ) (a : Desk H S K) (status : Status) (b : Desk H S K) : Type 0 where
  pub written : Reports (IsTrialAnswer number) (o.sinks.faults a.out) (o.sinks.faults b.out) (o.sinks.holds a.out) (o.sinks.holds b.out) status
  pub shelf_unread : b.shelf ≡ a.shelf
  pub lines_unread : b.lines ≡ a.lines
