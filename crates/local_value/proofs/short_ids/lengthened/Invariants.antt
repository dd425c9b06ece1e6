use Rattle.std.proofs.Common.{◌≡◌, take}
use Rattle.local_value.proofs.short_ids.lengthened.Given as goal

abbrev pub invariant-loop-id : goal.invariant-loop-id
invariant-loop-id l = l.long.items ≡ take l.id-index l.ids
