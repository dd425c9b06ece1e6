use Rattle.std.proofs.Common.{Bool, Option, Some, None, IfSome, refl}
use Rattle.sum_outcome.specs.inner.Memo.{IsAmong, AreSame, IsRecalled}
use Rattle.sum_outcome.specs.declared.key.Key.{Key}
use Rattle.sum_outcome.specs.declared.memo.Memo.{Memo}
use Rattle.sum_outcome.proofs.MemoLaws.{answer_found}
use Rattle.sum_outcome.proofs.memo.Memo.recall.Goals as goal

answers : (memo : Memo) (key : Key) (r : Option Bool) → IfSome r (IsAmong AreSame memo.sums.entries key) → IfSome r (IsRecalled memo key)
answers memo key None w = tt
answers memo key (Some lost) w = λ Ts right. answer_found Ts memo.sums.entries key lost w right.sums

pub returns-clause-answer : goal.returns-clause-answer
returns-clause-answer c = answers c.args.self.now c.args.key.now c.look_up.result c.look_up.ensures.found

pub returns-clause-right : goal.returns-clause-right
returns-clause-right c Ts right = record {
  right = record { sums = λ e among. right.sums e (c.look_up.ensures.kept e among); incentives = right.incentives; comparisons = right.comparisons; zero = right.zero };
  sums = c.look_up.ensures.cap;
  incentives = refl;
}
