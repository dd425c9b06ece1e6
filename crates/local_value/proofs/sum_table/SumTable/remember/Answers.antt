use Rattle.std.proofs.Common.{w32}
use Rattle.std.proofs.lemmas.Int.{to_z-of_z}
use Rattle.local_value.proofs.sum_table.SumTable.remember.Goals as goal

pub returns-else-is_err : goal.returns-else-is_err
returns-else-is_err c = rw (to_z-of_z w32 c.args.stones c.ranges.stones) at c.add.ensures
