use Rattle.std.proofs.Common.{◌-◌}
use Rattle.whole_rules.proofs.PlainLaws.{Looked}
use Rattle.whole_rules.proofs.plain.+winner_within.Given as goal

abbrev pub decreases-winner_within : goal.decreases-winner_within
decreases-winner_within l = l.depth

abbrev pub invariant-loop-chosen : goal.invariant-loop-chosen
invariant-loop-chosen l = Looked l.state (l.depth - 1) l.chosen-items l.chosen-index l.decided
