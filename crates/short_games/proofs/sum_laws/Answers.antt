use Rattle.std.proofs.Common.{subst, sym}
use Rattle.short_games.specs.Tree.{neg}
use Rattle.short_games.specs.Order.{◌≡ᵍ◌}
use Rattle.short_games.specs.Sum.{◌+ᵍ◌}
use Rattle.short_games.proofs.SumLaws.{plus-le_both, plus-neg}
use Rattle.short_games.proofs.NumberLaws.{num-zero}
use Rattle.short_games.proofs.IncentiveLaws.{incentive-dominates, incentive-dominates_back}
use Rattle.short_games.proofs.sum_laws.Goals as goal

pub returns-clause-sums : goal.returns-clause-sums
returns-clause-sums c = λ G H K M p q. plus-le_both G H K M p q

pub returns-clause-negative : goal.returns-clause-negative
returns-clause-negative c = λ G. subst (λ t. (G +ᵍ neg G) ≡ᵍ t) (sym (num-zero 0)) (plus-neg G)

pub returns-clause-dominated : goal.returns-clause-dominated
returns-clause-dominated c = incentive-dominates

pub returns-clause-back : goal.returns-clause-back
returns-clause-back c = incentive-dominates_back
