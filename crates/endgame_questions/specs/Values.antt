-- `values`: what each region of play of the position of a file is worth.
use Rattle.std.specs.Prelude.{◌≡◌, ℕ, List}
use Rattle.go_grid.specs.Region.{Region}
use Rattle.go_play.specs.Setup.{Setup}
use Rattle.region_cut.specs.Cut.{AreRegionsOfPlay}
use Rattle.endgame_solver.specs.Faults.{AreSound}
use Rattle.endgame_questions.specs.declared.terms.GameTerms.{GameTerms}
use Rattle.report.specs.Values.{IsFirstUnshown, IsValuesText}
use Rattle.endgame_questions.specs.Refusal.{form_line}
use Rattle.endgame_questions.specs.declared.status.Status.{Status}
use Rattle.endgame_questions.specs.declared.status.Status.TheVariants.{FormLimit}

-- the regions of play of a position, all sound within the limits, and the text of the values of their openings
pub record IsValued (terms : GameTerms) (setup : Setup) (text : List ℕ) : Type 0 where
  pub regions : List Region
  pub are_regions : AreRegionsOfPlay setup.board regions
  pub sound : AreSound terms.limits regions
  pub is : IsValuesText setup.board.columns regions text

-- the regions of play of a position, all sound within the limits, where the value of an opening can't be shown, with the
-- status and the line of the first of them
pub record AreUnshown (terms : GameTerms) (setup : Setup) (s : Status) (text : List ℕ) : Type 0 where
  pub regions : List Region
  pub point : ℕ
  pub are_regions : AreRegionsOfPlay setup.board regions
  pub sound : AreSound terms.limits regions
  pub first : IsFirstUnshown regions point
  pub status : s ≡ FormLimit
  pub is : text ≡ form_line setup.board.columns point
