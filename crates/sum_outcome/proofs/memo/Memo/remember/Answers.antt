use Rattle.std.proofs.Common.{refl}
use Rattle.sum_outcome.proofs.MemoLaws.{answers_kept}
use Rattle.sum_outcome.proofs.memo.Memo.remember.Goals as goal

pub returns : goal.returns
returns c Ts answer right = record {
  right = record {
    sums = answers_kept Ts c.args.self.now.sums.entries c.keep.new.sums.entries c.args.key c.args.lost answer c.keep.ensures.kept right.sums;
    incentives = right.incentives;
    comparisons = right.comparisons;
    zero = right.zero;
  };
  sums = c.keep.ensures.cap;
  incentives = refl;
}
