-- Where a game stands in which kos can arise, what its engine does there, and what a move by hand does.
use Rattle.std.specs.Prelude.{ℕ, Bool, ◌+◌, ◌≡◌, List, Option, None, Result, Ok, Err}
use Rattle.go_grid.specs.declared.grid.Colour.{Colour}
use Rattle.go_grid.specs.declared.grid.Colour.TheVariants.{Black, White}
use Rattle.go_grid.specs.Region.{Region}
use Rattle.region_cut.specs.Cut.{AreRegionsOfPlay}
use Rattle.go_play.specs.Setup.{Setup}
use Rattle.whole_rules.specs.declared.states.Move.{Move}
use Rattle.whole_rules.specs.declared.states.MoveError.{MoveError}
use Rattle.whole_rules.specs.WholeGame.{Whole, IsMove, Refuses}
use Rattle.endgame_solver.specs.Limits.{Limits}
use Rattle.endgame_solver.specs.Solved.{OpensAs}
use Rattle.whole_budgets.specs.EnginePlay.{EngineMoves, Serves}
use Rattle.cycle_solver.specs.CycleFaults.{AreRefused, AreSteadyWithin}
use Rattle.cycle_solver.specs.declared.faults.CycleError.{CycleError}
use Rattle.cycle_solver.specs.declared.faults.CycleError.TheVariants.{Memory}

-- the regions of play, what each colour keeps: a budget for each region, or none; and how many moves were made since the game began
pub record Keeping : Type 0 where
  pub regions : List Region
  pub black : Option (List ℕ)
  pub white : Option (List ℕ)
  pub moves : ℕ

-- the state, and what is kept
pub record Played : Type 0 where
  pub state : Whole
  pub keeping : Keeping

-- what the colour keeps
abbrev pub kept_by : Colour → Keeping → Option (List ℕ)
kept_by Black k = k.black
kept_by White k = k.white

-- neither colour keeps anything
abbrev pub KeepsNothing : Keeping → Type 0
KeepsNothing k = (k.black ≡ None) × (k.white ≡ None)

-- the same behind a move of the colour, with what it keeps then
abbrev pub keeping_with : Colour → Option (List ℕ) → Keeping → Keeping
keeping_with Black left k = record k { black = left; moves = k.moves + 1 }
keeping_with White left k = record k { white = left; moves = k.moves + 1 }

-- what both colours keep serves
abbrev pub BothServe : Played → Type 0
BothServe p = (c : Colour) → Serves p.keeping.regions c p.state (kept_by c p.keeping)

-- the engine moves for the side to move
abbrev pub EnginePlays : Played → Move → Played → Type 0
EnginePlays p m q = (left : Option (List ℕ)) × EngineMoves p.keeping.regions p.state (kept_by p.state.side p.keeping) m q.state left
    × (q.keeping ≡ keeping_with p.state.side left p.keeping)

-- a move by hand takes away what its colour keeps, and an illegal one changes nothing
abbrev pub AnswersMove : Played → Move → Result Unit MoveError → Played → Type 0
AnswersMove p m (Ok _) q = IsMove p.state m q.state × (q.keeping ≡ keeping_with p.state.side None p.keeping)
AnswersMove p m (Err e) q = Refuses p.state m e × (q ≡ p)

-- the game that the position opens, with or without a tax, all of whose regions are steady within the limits, with nothing kept;
-- or why there is none
abbrev pub BeginsPlay : Setup → Bool → Limits → ℕ → Result Played CycleError → Type 0
BeginsPlay setup tax limits most (Ok p) = OpensAs setup tax p.state × AreRegionsOfPlay setup.board p.keeping.regions
    × AreSteadyWithin limits most p.keeping.regions × (p.keeping.black ≡ None) × (p.keeping.white ≡ None) × (p.keeping.moves ≡ 0)
BeginsPlay setup tax limits most (Err (Memory e)) = Unit {0}
BeginsPlay setup tax limits most (Err fault) = (regions : List Region) × AreRegionsOfPlay setup.board regions × AreRefused limits most regions fault
