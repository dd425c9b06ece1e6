use Rattle.std.proofs.Common.{◌≡◌, Some, arith, ap}
use Rattle.std.proofs.lemmas.Int.{ints}
use Rattle.thermograph.specs.inner.Scaffolds.{line}
use Rattle.thermograph.proofs.ScaffoldLaws.{mean-range}
use Rattle.thermograph.proofs.drawings.join.Goals as goal
use Rattle.thermograph.proofs.drawings.join.Goals.{Else-mean-at}

meets : (c : Else-mean-at) → line c.args.left.now c.first_meeting-meeting.result ≡ line c.args.right.now c.first_meeting-meeting.result
meets c = omega (arith, ints, c.first_meeting-meeting.ensures.met, c.if-mean-at.false, c.at-mean.ensures.value, c.at.ensures.value)

pub from_units-requires : goal.from_units-requires
from_units-requires c =
    let r = mean-range c.args.left.now c.args.right.now c.requires.left c.requires.right c.requires.left_side c.requires.right_side c.first_meeting-meeting.result (meets (goal.at.from_units-requires c).Else-mean-at) in
    omega (arith, ints, r.0, r.1, c.at-mean.ensures.value)

pub returns-clause-drawn : goal.returns-clause-drawn
returns-clause-drawn c =
    let m = meets (goal.at.returns-clause-drawn c).Else-mean-at in
    record {
      meeting = c.first_meeting-meeting.result;
      early = c.first_meeting-meeting.ensures.within;
      temperature_is = ap Some (omega (arith, ints, c.from_units-2.ensures, c.first_meeting-meeting.ensures.within));
      left_mean = omega (arith, ints, c.from_units.ensures, c.at-mean.ensures.value);
      right_mean = omega (arith, ints, m, c.from_units.ensures, c.at-mean.ensures.value);
      apart = c.first_meeting-meeting.ensures.first;
      left_traced = c.in_ok-left.ensures;
      right_traced = c.in_ok-right.ensures;
    }
