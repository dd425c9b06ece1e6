use Rattle.std.proofs.Common.{◌+◌}
use Rattle.short_games.specs.Tree.{size}
use Rattle.short_games.proofs.DrawnWallLaws.{left_wall, right_wall}
use Rattle.short_games.proofs.ExponentLaws.{over-size}
use Rattle.short_games.proofs.WallExistenceLaws.{walls-zero, walls-exist}
use Rattle.short_games.proofs.StopLaws.{under-left_stop, over-right_stop, stops-ordered}
use Rattle.short_games.proofs.stop_laws.Goals as goal

pub returns-clause-exist : goal.returns-clause-exist
returns-clause-exist c = λ G f. (
  size G + size G,
  λ k h. (let z = walls-zero k (left_wall k) (right_wall k) G (walls-exist (size G) k G h (f, over-size G)) in (left_wall k G 0, right_wall k G 0, z.0, z.1)),
)

pub returns-clause-under : goal.returns-clause-under
returns-clause-under c = under-left_stop

pub returns-clause-over : goal.returns-clause-over
returns-clause-over c = over-right_stop

pub returns-clause-ordered : goal.returns-clause-ordered
returns-clause-ordered c = stops-ordered
