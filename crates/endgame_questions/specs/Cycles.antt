-- Questions about a position whose regions may have cycles: what is answered, and what keeps it from an answer.
use Rattle.std.specs.Prelude.{◌≡◌, ◌⊎◌, ◌<◌, ℕ, ℤ, List, [], length, codes, Ok}
use Rattle.go_grid.specs.Name.{point_name}
use Rattle.go_grid.specs.Region.{Region}
use Rattle.board_words.specs.Words.{word_line}
use Rattle.go_play.specs.Setup.{Setup}
use Rattle.gd_words.specs.declared.job.CycleQuestion.{CycleQuestion}
use Rattle.gd_words.specs.declared.job.CycleQuestion.TheVariants.{Margin, Moves, Solve, Values}
use Rattle.region_cut.specs.Cut.{AreRegionsOfPlay}
use Rattle.endgame_solver.specs.Regions.{region_at}
use Rattle.endgame_solver.specs.Solved.{Solved}
use Rattle.endgame_solver.specs.Limits.{Limits}
use Rattle.endgame_questions.specs.declared.terms.GameTerms.{GameTerms}
use Rattle.cycle_solver.specs.Begun.{Begun}
use Rattle.cycle_solver.specs.CycleFaults.{AreRefused, AreSteadyWithin}
use Rattle.cycle_solver.specs.declared.faults.CycleError.{CycleError}
use Rattle.cycle_solver.specs.declared.faults.CycleError.TheVariants.{Points, Positions, Form, Captures, Memory}
use Rattle.fault_words.specs.declared.naming.Naming.TheVariants.{Letters}
use Rattle.report.specs.Analysis.{name_on}
use Rattle.cycle_report.specs.CycleAnalysis.{IsCycleMarginText, IsCycleMovesText}
use Rattle.cycle_report.specs.CycleSolution.{IsCycleSolveText}
use Rattle.cycle_report.specs.CycleValues.{HasShownValues, IsCycleValuesText, IsFirstCycleUnshown}
use Rattle.endgame_questions.specs.Refusal.{form_line, points_line, positions_line}
use Rattle.endgame_questions.specs.declared.status.Status.{Status}
use Rattle.endgame_questions.specs.declared.status.Status.TheVariants as status

-- each region is to be steady for both colours with at most so many captures that return
abbrev pub most_captures : ℕ
most_captures = 32

-- the game is opened by the position on these terms, and its regions of play are steady within the limits
abbrev pub IsSteadyGame : GameTerms → Setup → Solved → Type 0
IsSteadyGame terms setup game = Begun setup terms.tax terms.limits most_captures (Ok game)

-- the text that answers a question about a game that opens with this komi in half-points
abbrev pub IsGameText : CycleQuestion → ℤ → Solved → List ℕ → Type 0
IsGameText Solve k game text = IsCycleSolveText game text
IsGameText Values k game text = IsCycleValuesText game.state.board.columns game.regions text
IsGameText Margin k game text = IsCycleMarginText game.state k text
IsGameText Moves k game text = IsCycleMovesText (name_on Letters game.state.board) game.state k text

-- the text that answers a question about a position, on these terms
pub record IsCycleText (question : CycleQuestion) (terms : GameTerms) (setup : Setup) (text : List ℕ) : Type 0 where
  pub game : Solved
  pub steady : IsSteadyGame terms setup game
  pub is : IsGameText question setup.komi_halves game text

-- the points that a fault of regions with cycles names are below the number
abbrev pub NamesCyclePoints : ℕ → CycleError → Type 0
NamesCyclePoints area (Points p n) = p < area
NamesCyclePoints area (Positions p) = p < area
NamesCyclePoints area (Form p) = p < area
NamesCyclePoints area (Captures p) = p < area
NamesCyclePoints area (Memory e) = Unit {0}

-- the status of a fault; want of memory is none
abbrev pub HasCycleStatus : CycleError → Status → Type 0
HasCycleStatus (Points p n) s = s ≡ status.RegionLimit
HasCycleStatus (Positions p) s = s ≡ status.RegionLimit
HasCycleStatus (Form p) s = s ≡ status.FormLimit
HasCycleStatus (Captures p) s = s ≡ status.CaptureLimit
HasCycleStatus (Memory e) s = ⊥

-- a region that is steady for some colour with no number of captures up to the most
abbrev pub captures_line : ℕ → ℕ → List ℕ
captures_line columns p = word_line (codes "fault captures") (point_name columns p)

-- the line of a fault on a board of so many columns
abbrev pub cycle_refusal_line : Limits → ℕ → CycleError → List ℕ
cycle_refusal_line limits columns (Points p n) = points_line columns p n
cycle_refusal_line limits columns (Positions p) = positions_line columns p limits.positions
cycle_refusal_line limits columns (Form p) = form_line columns p
cycle_refusal_line limits columns (Captures p) = captures_line columns p
cycle_refusal_line limits columns (Memory e) = []

-- the regions of play of a position and a fault that keeps them from being steady within the limits, with its status and its line
pub record IsCycleRefused (terms : GameTerms) (setup : Setup) (s : Status) (text : List ℕ) : Type 0 where
  pub regions : List Region
  pub fault : CycleError
  pub are_regions : AreRegionsOfPlay setup.board regions
  pub refused : AreRefused terms.limits most_captures regions fault
  pub status : HasCycleStatus fault s
  pub is : text ≡ cycle_refusal_line terms.limits setup.board.columns fault

-- the regions of play of a position, all steady within the limits, where one of the values of an opening can't be shown, with the
-- status and the line of the first of them
pub record AreCycleUnshown (terms : GameTerms) (setup : Setup) (s : Status) (text : List ℕ) : Type 0 where
  pub regions : List Region
  pub point : ℕ
  pub are_regions : AreRegionsOfPlay setup.board regions
  pub steady : AreSteadyWithin terms.limits most_captures regions
  pub first : IsFirstCycleUnshown regions point
  pub status : s ≡ status.FormLimit
  pub is : text ≡ form_line setup.board.columns point

-- a question about a position that isn't answered, and its text
abbrev pub IsCycleQuestionRefused : CycleQuestion → GameTerms → Setup → Status → List ℕ → Type 0
IsCycleQuestionRefused Values terms setup s text = IsCycleRefused terms setup s text ⊎ AreCycleUnshown terms setup s text
IsCycleQuestionRefused question terms setup s text = IsCycleRefused terms setup s text

-- the regions of play are steady within the limits, and the values that a question asks for can all be shown
abbrev pub IsSteadyFor : CycleQuestion → GameTerms → Setup → Type 0
IsSteadyFor Values terms setup = (regions : List Region) × AreRegionsOfPlay setup.board regions × AreSteadyWithin terms.limits most_captures regions
    × ((k : ℕ) → k < length regions → HasShownValues (region_at regions k))
IsSteadyFor question terms setup = (regions : List Region) × AreRegionsOfPlay setup.board regions × AreSteadyWithin terms.limits most_captures regions
