use Rattle.whole_budgets.proofs.AnewLemmas.{won_games_end_anew}
use Rattle.whole_budgets.proofs.EndLemmas.{won_games_end}
use Rattle.whole_budgets.proofs.KoLemmas.{keeps_simple_ko}
use Rattle.whole_budgets.proofs.OneMoveLemmas.{has_one_move}
use Rattle.whole_budgets.proofs.PlainLemmas.{plain_without_cycles}
use Rattle.whole_budgets.proofs.ServeLemmas.{kept_serves}
use Rattle.whole_budgets.proofs.laws.engine_budget_laws.Goals as goal

pub returns-clause-ends : goal.returns-clause-ends
returns-clause-ends c = won_games_end

pub returns-clause-anew : goal.returns-clause-anew
returns-clause-anew c = won_games_end_anew

pub returns-clause-ko : goal.returns-clause-ko
returns-clause-ko c = keeps_simple_ko

pub returns-clause-serves : goal.returns-clause-serves
returns-clause-serves c = kept_serves

pub returns-clause-one : goal.returns-clause-one
returns-clause-one c = has_one_move

pub returns-clause-plain : goal.returns-clause-plain
returns-clause-plain c = plain_without_cycles
