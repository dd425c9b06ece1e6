use Rattle.std.proofs.Common.{◌+◌, refl, subst}
use Rattle.short_games.specs.Tree.{size}
use Rattle.short_games.specs.Stops.{IsLeftStop, IsRightStop}
use Rattle.short_games.proofs.WallSolutionLaws.{has_walls-unique, has_walls-finer}
use Rattle.short_games.proofs.DrawnWallLaws.{left_wall, right_wall}
use Rattle.short_games.proofs.ExponentLaws.{over-size}
use Rattle.short_games.proofs.WallExistenceLaws.{walls-zero, walls-exist}
use Rattle.short_games.proofs.WallMeetingLaws.{meeting-exists}
use Rattle.short_games.proofs.MastLaws.{mast-stands, walls-in_order, upright-or_diagonal}
use Rattle.short_games.proofs.WallBetweenLaws.{none-between, none-bends}
use Rattle.short_games.proofs.WallRuleLaws.{rule-is}
use Rattle.short_games.proofs.wall_laws.Goals as goal

pub returns-clause-exist : goal.returns-clause-exist
returns-clause-exist c = λ G f. (
  size G + size G,
  λ k h. (left_wall k G, right_wall k G, record { lw = left_wall k; rw = right_wall k; all = walls-exist (size G) k G h (f, over-size G); left_is = λ t. refl; right_is = λ t. refl }),
)

pub returns-clause-unique : goal.returns-clause-unique
returns-clause-unique c = has_walls-unique

pub returns-clause-go_on : goal.returns-clause-go_on
returns-clause-go_on c = has_walls-finer

pub returns-clause-begin : goal.returns-clause-begin
returns-clause-begin c = λ k G l r h. (let z = walls-zero k h.lw h.rw G h.all in (subst (IsLeftStop k G) (h.left_is 0) z.0, subst (IsRightStop k G) (h.right_is 0) z.1))

pub returns-clause-temperature : goal.returns-clause-temperature
returns-clause-temperature c = meeting-exists

pub returns-clause-between : goal.returns-clause-between
returns-clause-between c = none-between

pub returns-clause-bends : goal.returns-clause-bends
returns-clause-bends c = none-bends

pub returns-clause-rule : goal.returns-clause-rule
returns-clause-rule c = rule-is

pub returns-clause-mast : goal.returns-clause-mast
returns-clause-mast c = mast-stands

pub returns-clause-ordered : goal.returns-clause-ordered
returns-clause-ordered c = walls-in_order

pub returns-clause-slopes : goal.returns-clause-slopes
returns-clause-slopes c = upright-or_diagonal
