use Rattle.cycle_solver.proofs.ThresholdLaws.{both_thresholds_exist, moving_first_costs_a_half, thresholds_are_in_order}
use Rattle.cycle_solver.proofs.laws.cycle_threshold_laws.Goals as goal

pub returns-clause-exist : goal.returns-clause-exist
returns-clause-exist c = both_thresholds_exist

pub returns-clause-order : goal.returns-clause-order
returns-clause-order c = thresholds_are_in_order

pub returns-clause-half : goal.returns-clause-half
returns-clause-half c = moving_first_costs_a_half
