use Rattle.whole_budgets.proofs.BudgetSumLaws.{budgets_decompose, steady_decides}
use Rattle.whole_budgets.proofs.laws.budget_sum_laws.Goals as goal

pub returns-clause-budgets : goal.returns-clause-budgets
returns-clause-budgets c = budgets_decompose

pub returns-clause-steady : goal.returns-clause-steady
returns-clause-steady c = steady_decides
