-- Where there is a tax, nothing is declared on a file's position.
use Rattle.std.proofs.Common.{◌≡◌, ℕ, List, Bool, true, false, subst}
use Rattle.desk_io.specs.Desk.{Input}
use Rattle.sgf_go.specs.declared.settings.Settings.{Settings}
use Rattle.go_play.specs.Setup.{Setup}
use Rattle.whole_rules.specs.Opening.{MayTax}
use Rattle.endgame_questions.specs.declared.question.Found.{Found}
use Rattle.endgame_questions.specs.declared.question.Found.TheVariants.{Position}
use Rattle.endgame_questions.specs.Found.{IsFoundInFile}

pub position_may_tax : (settings : Settings) (word : List ℕ) (i j : Input) (found : Found) (setup : Setup) (tax : Bool) → found ≡ Position setup → IsFoundInFile settings word i j found
    → (tax ≡ true → settings.territory ≡ false) → MayTax tax setup.board
position_may_tax settings word i j found setup tax is here apart taxed = (subst (IsFoundInFile settings word i j) is here).1 (apart taxed)
