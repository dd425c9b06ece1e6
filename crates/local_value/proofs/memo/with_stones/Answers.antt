use Rattle.std.proofs.Common.{w32}
use Rattle.std.proofs.lemmas.Int.{to_z-of_z}
use Rattle.local_value.proofs.memo.with_stones.Goals as goal

pub returns-in-Some-clause-sum : goal.returns-in-Some-clause-sum
returns-in-Some-clause-sum c = c.requires.sums c.args.game c.args.stones c.in-Some.sum
    (rw (to_z-of_z w32 c.args.stones c.ranges.stones) at c.in-Some.ensures)
