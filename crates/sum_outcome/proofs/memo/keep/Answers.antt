use Rattle.std.proofs.Common.{refl, subst}
use Rattle.sum_outcome.specs.inner.Memo.{AreKept, AreSame, NoneIsNew}
use Rattle.sum_outcome.proofs.MemoLaws.{kept_later, put_kept, same_key, same_key-are}
use Rattle.sum_outcome.proofs.memo.keep.Goals as goal

pub returns-in-Ok-clause-kept : goal.returns-in-Ok-clause-kept
returns-in-Ok-clause-kept c = put_kept AreSame same_key same_key-are (λ k. record { games = refl; number = refl; black = refl }) c.args.sums.now c.put.new.self c.args.key c.args.lost c.put.result c.put.ensures.entries c.put.ensures.err

pub returns-in-Err-clause-kept : goal.returns-in-Err-clause-kept
returns-in-Err-clause-kept c =
    let w = c.in-Err.ensures {u = tt} in
    let one = put_kept AreSame same_key same_key-are (λ k. record { games = refl; number = refl; black = refl }) c.make_room.new.sums c.put-kept.new.self
    c.in-Err.refused.value.0 c.in-Err.refused.value.1 c.put-kept.result c.put-kept.ensures.entries c.put-kept.ensures.err in
    kept_later AreSame c.args.sums.now.entries c.make_room.new.sums.entries c.put-kept.new.self.entries c.args.key c.args.lost
    (subst (λ s. NoneIsNew s.entries c.make_room.new.sums.entries) w.err c.make_room.ensures.kept)
    (subst (λ v. AreKept AreSame c.make_room.new.sums.entries v.0 v.1 c.put-kept.new.self.entries) w.value_returned one)
