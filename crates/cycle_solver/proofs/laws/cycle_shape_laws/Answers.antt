use Rattle.cycle_solver.proofs.ShapeLaws.{shapes-keep_budget_trees, shapes-keep_steady_values}
use Rattle.cycle_solver.proofs.laws.cycle_shape_laws.Goals as goal

pub returns-clause-trees : goal.returns-clause-trees
returns-clause-trees c = shapes-keep_budget_trees

pub returns-clause-values : goal.returns-clause-values
returns-clause-values c = shapes-keep_steady_values
