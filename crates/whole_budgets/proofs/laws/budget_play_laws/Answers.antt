use Rattle.whole_budgets.proofs.BudgetPlayLemmas.{budgets_win, greater_win, some_win, one_wins}
use Rattle.whole_budgets.proofs.RegionLemmas.{return_locally}
use Rattle.whole_budgets.proofs.laws.budget_play_laws.Goals as goal

pub returns-clause-game : goal.returns-clause-game
returns-clause-game c = budgets_win

pub returns-clause-greater : goal.returns-clause-greater
returns-clause-greater c = greater_win

pub returns-clause-some : goal.returns-clause-some
returns-clause-some c = some_win

pub returns-clause-one : goal.returns-clause-one
returns-clause-one c = one_wins

pub returns-clause-local : goal.returns-clause-local
returns-clause-local c = return_locally
