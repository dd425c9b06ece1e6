use Rattle.std.proofs.Common.{◌<◌, ◌≡◌, ℕ, get_or}
use Rattle.thermograph.specs.inner.Flags.{AreAdded}
use Rattle.thermograph.proofs.followers.flag_ids.Given as goal

abbrev pub invariant-loop-id : goal.invariant-loop-id
invariant-loop-id l = AreAdded (λ i. (j : ℕ) × (j < l.id-index) × (get_or l.ids j 0 ≡ i)) l.initial.flags l.flags
