use Rattle.endgame_solver.proofs.CarriedLaws.{shapes-keep_values}
use Rattle.endgame_solver.proofs.laws.shape_laws.Goals as goal

pub returns : goal.returns
returns c = shapes-keep_values
