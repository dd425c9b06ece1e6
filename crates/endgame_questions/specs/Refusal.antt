-- Faults of regions: their statuses and their lines.
use Rattle.std.specs.Prelude.{◌≡◌, ℕ, List, [], codes}
use Rattle.go_grid.specs.declared.grid.Colour.{Colour}
use Rattle.go_grid.specs.Name.{point_name}
use Rattle.go_grid.specs.Region.{Region}
use Rattle.board_words.specs.Words.{word_line}
use Rattle.fault_words.specs.FaultWords.{cycle_words, points_words, positions_words}
use Rattle.go_play.specs.Setup.{Setup}
use Rattle.region_cut.specs.Cut.{AreRegionsOfPlay}
use Rattle.endgame_solver.specs.Faults.{AreRefused}
use Rattle.endgame_solver.specs.Limits.{Limits}
use Rattle.endgame_questions.specs.declared.terms.GameTerms.{GameTerms}
use Rattle.endgame_solver.specs.declared.faults.SolveError.{SolveError}
use Rattle.endgame_solver.specs.declared.faults.SolveError.TheVariants.{Points, Positions, Cycle, Form, Memory}
use Rattle.endgame_questions.specs.declared.status.Status.{Status}
use Rattle.endgame_questions.specs.declared.status.Status.TheVariants as status

-- the status of a fault; want of memory is none
abbrev pub HasStatus : SolveError → Status → Type 0
HasStatus (Points p n) s = s ≡ status.RegionLimit
HasStatus (Positions p) s = s ≡ status.RegionLimit
HasStatus (Cycle p names back) s = s ≡ status.Cycle
HasStatus (Form p) s = s ≡ status.FormLimit
HasStatus (Memory e) s = ⊥

-- a region of too many points, by its lowest one and their number
abbrev pub points_line : ℕ → ℕ → ℕ → List ℕ
points_line columns p n = word_line (codes "fault") (points_words (point_name columns) p n)

-- a region of more positions than the limit
abbrev pub positions_line : ℕ → ℕ → ℕ → List ℕ
positions_line columns p limit = word_line (codes "fault") (positions_words (point_name columns) p limit)

-- the moves of a cycle of a region, and after how many of them the position stands first that the last one repeats
abbrev pub cycle_line : ℕ → ℕ → ℕ → List (Colour × ℕ) → List ℕ
cycle_line columns p back moves = word_line (codes "fault") (cycle_words (point_name columns) p back moves)

-- a region with a value that has no form within the limit
abbrev pub form_line : ℕ → ℕ → List ℕ
form_line columns p = word_line (codes "fault form") (point_name columns p)

-- the line of a fault on a board of so many columns
abbrev pub refusal_line : Limits → ℕ → SolveError → List ℕ
refusal_line limits columns (Points p n) = points_line columns p n
refusal_line limits columns (Positions p) = positions_line columns p limits.positions
refusal_line limits columns (Cycle p names back) = cycle_line columns p back names
refusal_line limits columns (Form p) = form_line columns p
refusal_line limits columns (Memory e) = []

-- the regions of play of a position and a fault that keeps it from being solved within the limits, with its status and its line
pub record IsRefused (terms : GameTerms) (setup : Setup) (s : Status) (text : List ℕ) : Type 0 where
  pub regions : List Region
  pub fault : SolveError
  pub are_regions : AreRegionsOfPlay setup.board regions
  pub refused : AreRefused terms.limits regions fault
  pub status : HasStatus fault s
  pub is : text ≡ refusal_line terms.limits setup.board.columns fault
