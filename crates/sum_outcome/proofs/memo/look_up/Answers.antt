use Rattle.std.proofs.Common.{◌∙◌}
use Rattle.sum_outcome.specs.inner.Memo.{AreSame}
use Rattle.sum_outcome.proofs.MemoLaws.{found, none_new, same_key, same_key-are}
use Rattle.sum_outcome.proofs.memo.look_up.Goals as goal

pub returns-clause-found : goal.returns-clause-found
returns-clause-found c = found AreSame (same_key c.args.key.now) c.args.key.now (λ k e. same_key-are c.args.key.now k e) c.args.sums.now.entries c.copied.result (c.copied.ensures ∙ c.get.ensures.value)

pub returns-clause-kept : goal.returns-clause-kept
returns-clause-kept c = none_new (same_key c.args.key.now) c.args.sums.now c.get.follows.lender-at-none c.get.follows.holds-at-none
