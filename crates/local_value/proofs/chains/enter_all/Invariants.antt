use Rattle.std.proofs.Common.{◌≡◌, length}
use Rattle.local_value.specs.inner.Chains.{AreBelow, FallBack}
use Rattle.local_value.proofs.chains.enter_all.Given as goal

abbrev pub invariant-entering : goal.invariant-entering
invariant-entering l = record {
  below : AreBelow l.place l.latest;
  back : FallBack l.links;
  slots : length l.latest ≡ length l.fn.latest;
  places : length l.links ≡ length l.fn.links;
}
