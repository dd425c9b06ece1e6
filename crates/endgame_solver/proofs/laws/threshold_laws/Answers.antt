use Rattle.endgame_solver.proofs.ThresholdLaws.{stones_serve}
use Rattle.endgame_solver.proofs.SumThresholdLaws.{first_move_costs_a_half, threshold_is_in_sum, thresholds_exist}
use Rattle.endgame_solver.proofs.laws.threshold_laws.Goals as goal

pub returns-clause-stones : goal.returns-clause-stones
returns-clause-stones c = λ x k l d s t u ps o plays p. stones_serve x k l d s t u ps o plays p

pub returns-clause-exist : goal.returns-clause-exist
returns-clause-exist c = thresholds_exist

pub returns-clause-half : goal.returns-clause-half
returns-clause-half c = first_move_costs_a_half

pub returns-clause-sum : goal.returns-clause-sum
returns-clause-sum c = threshold_is_in_sum
