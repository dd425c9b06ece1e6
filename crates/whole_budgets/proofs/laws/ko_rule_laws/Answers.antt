use Rattle.whole_budgets.proofs.KoRuleLemmas.{named_on_returns, no_captures_win}
use Rattle.whole_budgets.proofs.SimpleKoLemmas.{winners_stand}
use Rattle.whole_budgets.proofs.SuperkoLemmas.{winners_stand_superko}
use Rattle.whole_budgets.proofs.RuleLemmas.{rules_exist}
use Rattle.whole_budgets.proofs.laws.ko_rule_laws.Goals as goal

pub returns-clause-win : goal.returns-clause-win
returns-clause-win c = no_captures_win

pub returns-clause-named : goal.returns-clause-named
returns-clause-named c = named_on_returns

pub returns-clause-simple : goal.returns-clause-simple
returns-clause-simple c = winners_stand

pub returns-clause-exist : goal.returns-clause-exist
returns-clause-exist c = rules_exist

pub returns-clause-superko : goal.returns-clause-superko
returns-clause-superko c = winners_stand_superko
