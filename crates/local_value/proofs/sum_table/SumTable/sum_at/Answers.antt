use Rattle.std.proofs.Common.{◌<◌, arith, ap, length, ◌∙◌, w32}
use Rattle.std.proofs.lemmas.Int.{to_z-of_z}
use Rattle.std.proofs.lemmas.List.{length-map}
use Rattle.local_value.specs.inner.Tables.{known_sum}
use Rattle.local_value.proofs.KnownLemmas.{sum_found}
use Rattle.local_value.proofs.sum_table.SumTable.sum_at.Goals as goal

pub returns-then-is_of : goal.returns-then-is_of
returns-then-is_of c =
    let i = c.self.inside in
    let inside : c.args.place < length i.sums.items = omega (arith, c.requires, ap length c.self.view_is, length-map i.sums.items known_sum) in
    let same = c.is_of.ensures c.if-is_of.true in
    sum_found i.sums.items c.args.self.now c.args.place c.args.game c.args.stones c.index-known.result.now c.self.view_is inside c.index-known.ensures same.0 (same.1 ∙ to_z-of_z w32 c.args.stones c.ranges.stones)
