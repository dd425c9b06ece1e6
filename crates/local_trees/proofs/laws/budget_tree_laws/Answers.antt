use Rattle.local_trees.proofs.BudgetTreeLaws.{budget_trees-exist, one_budget_tree, budget_depth-is_enough, steady_stays, budgets-need_cycles}
use Rattle.local_trees.proofs.ExchangeLaws.{exchange_negates}
use Rattle.local_trees.proofs.laws.budget_tree_laws.Goals as goal

pub returns : goal.returns
returns c = record {
  exist = budget_trees-exist;
  one = one_budget_tree;
  depth = budget_depth-is_enough;
  steady = steady_stays;
  acyclic = budgets-need_cycles;
  exchanged = exchange_negates;
}
