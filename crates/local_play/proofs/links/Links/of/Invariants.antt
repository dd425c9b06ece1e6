use Rattle.local_play.specs.Links.{IsTableBelow}
use Rattle.local_play.proofs.links.Links.of.Given as goal

abbrev pub invariant-loop-place : goal.invariant-loop-place
invariant-loop-place l = IsTableBelow l.region.touch l.links l.place
