use Rattle.std.proofs.Common.{◌≡◌, refl, subst}
use Rattle.sum_outcome.specs.inner.Memo.{NoneIsNew}
use Rattle.sum_outcome.proofs.MemoLaws.{kept_later, put_kept, same_moves, same_moves-are}
use Rattle.sum_outcome.proofs.incentives.remember_incentive.Goals as goal

pub returns-in-Ok-clause-kept : goal.returns-in-Ok-clause-kept
returns-in-Ok-clause-kept c = put_kept (λ p q. p ≡ q) same_moves same_moves-are (λ p. refl) c.args.answers.now c.put.new.self c.args.pair c.args.answer c.put.result c.put.ensures.entries c.put.ensures.err

pub returns-in-Err-clause-kept : goal.returns-in-Err-clause-kept
returns-in-Err-clause-kept c =
    kept_later (λ p q. p ≡ q) c.args.answers.now.entries c.shed_answers.new.answers.entries c.put-kept.new.self.entries c.args.pair c.args.answer
    (subst (λ s. NoneIsNew s.entries c.shed_answers.new.answers.entries) (c.in-Err.ensures {u = tt}).err c.shed_answers.ensures.kept)
    (put_kept (λ p q. p ≡ q) same_moves same_moves-are (λ p. refl) c.shed_answers.new.answers c.put-kept.new.self c.args.pair c.args.answer
    c.put-kept.result c.put-kept.ensures.entries c.put-kept.ensures.err)
