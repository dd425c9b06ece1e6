use Rattle.endgame_solver.proofs.LineLaws.{best_stone_loses_nothing, has_one_line, line_loses_nothing, no_stone_is_better}
use Rattle.endgame_solver.proofs.laws.line_laws.Goals as goal

pub returns-clause-stones : goal.returns-clause-stones
returns-clause-stones c = no_stone_is_better

pub returns-clause-best : goal.returns-clause-best
returns-clause-best c = best_stone_loses_nothing

pub returns-clause-line : goal.returns-clause-line
returns-clause-line c = line_loses_nothing

pub returns-clause-one : goal.returns-clause-one
returns-clause-one c = has_one_line
