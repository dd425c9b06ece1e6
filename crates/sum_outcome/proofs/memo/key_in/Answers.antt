use Rattle.std.proofs.Common.{refl}
use Rattle.sum_outcome.proofs.MemoLaws.{stays}
use Rattle.sum_outcome.proofs.memo.key_in.Goals as goal

pub returns-in-Some-clause-right : goal.returns-in-Some-clause-right
returns-in-Some-clause-right c Ts right = stays Ts c.args.memo.now right

pub returns-clause-right : goal.returns-clause-right
returns-clause-right c Ts right = record {
  right = record { sums = λ e among. right.sums e (c.make_room.ensures.kept e among); incentives = right.incentives; comparisons = right.comparisons; zero = right.zero };
  sums = c.make_room.ensures.cap;
  incentives = refl;
}
