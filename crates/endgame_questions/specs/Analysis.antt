-- `margin`, `moves` and `line`: by how much the position of a file is won, what each move is worth, and how play goes on.
use Rattle.std.specs.Prelude.{ℕ, List}
use Rattle.go_grid.specs.Region.{Region}
use Rattle.go_play.specs.Setup.{Setup}
use Rattle.region_cut.specs.Cut.{AreRegionsOfPlay}
use Rattle.whole_rules.specs.WholeGame.{Whole}
use Rattle.endgame_solver.specs.Faults.{AreSound}
use Rattle.endgame_solver.specs.Solved.{OpensAs}
use Rattle.endgame_questions.specs.declared.terms.GameTerms.{GameTerms}
use Rattle.fault_words.specs.declared.naming.Naming.TheVariants.{Letters}
use Rattle.report.specs.Analysis.{IsLineText, IsMarginText, IsMovesText, name_on}

-- the regions of play of a position are all sound within the limits, and the text tells the thresholds of its opening
pub record IsMargin (terms : GameTerms) (setup : Setup) (text : List ℕ) : Type 0 where
  pub regions : List Region
  pub state : Whole
  pub are_regions : AreRegionsOfPlay setup.board regions
  pub sound : AreSound terms.limits regions
  pub opening : OpensAs setup terms.tax state
  pub is : IsMarginText state setup.komi_halves text

-- the regions of play of a position are all sound within the limits, and the text tells of each move of its opening whether it wins
pub record IsMoves (terms : GameTerms) (setup : Setup) (text : List ℕ) : Type 0 where
  pub regions : List Region
  pub state : Whole
  pub are_regions : AreRegionsOfPlay setup.board regions
  pub sound : AreSound terms.limits regions
  pub opening : OpensAs setup terms.tax state
  pub is : IsMovesText (name_on Letters state.board) state setup.komi_halves text

-- the regions of play of a position are all sound within the limits, and the text tells the line of play of its opening
pub record IsPlayLine (terms : GameTerms) (setup : Setup) (text : List ℕ) : Type 0 where
  pub regions : List Region
  pub state : Whole
  pub are_regions : AreRegionsOfPlay setup.board regions
  pub sound : AreSound terms.limits regions
  pub opening : OpensAs setup terms.tax state
  pub is : IsLineText (name_on Letters state.board) regions state setup.komi_halves text
