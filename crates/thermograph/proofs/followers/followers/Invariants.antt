use Rattle.std.proofs.Common.{◌≤◌, length}
use Rattle.thermograph.specs.inner.Flags.{AreFollowers}
use Rattle.thermograph.proofs.followers.followers.Given as goal

abbrev pub invariant-flagging : goal.invariant-flagging
invariant-flagging l = (l.place ≤ length l.flags.items) × AreFollowers l.store l.id l.place l.flags.items

abbrev pub decreases-flagging : goal.decreases-flagging
decreases-flagging l = l.place
