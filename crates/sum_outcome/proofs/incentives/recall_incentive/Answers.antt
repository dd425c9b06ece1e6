use Rattle.std.proofs.Common.{◌∙◌, ◌≡◌, List, Bool, Option, Some, None, IfSome, subst}
use Rattle.std.specs.List.{Contains}
use Rattle.sum_outcome.specs.inner.Memo.{IsAmong}
use Rattle.sum_outcome.specs.declared.incentives.MovePair.{MovePair}
use Rattle.sum_outcome.proofs.MemoLaws.{found, none_new, same_moves, same_moves-are}
use Rattle.sum_outcome.proofs.incentives.recall_incentive.Goals as goal

there : (entries : List (MovePair × Bool)) (p : MovePair) (r : Option Bool) → IfSome r (λ answer. IsAmong (λ p q. p ≡ q) entries p answer) → IfSome r (λ answer. Contains entries (p, answer))
there entries p None w = tt
there entries p (Some answer) (e, among, same, is) = subst (λ x. Contains entries x) (λ i. (same i, is i)) among

pub returns-clause-found : goal.returns-clause-found
returns-clause-found c = there c.args.answers.now.entries c.args.pair c.copied.result (found (λ p q. p ≡ q) (same_moves c.args.pair) c.args.pair (λ q e. same_moves-are c.args.pair q e) c.args.answers.now.entries c.copied.result (c.copied.ensures ∙ c.get.ensures.value))

pub returns-clause-kept : goal.returns-clause-kept
returns-clause-kept c = none_new (same_moves c.args.pair) c.args.answers.now c.get.follows.lender-at-none c.get.follows.holds-at-none
