use Rattle.std.proofs.Common.{◌∙◌, subst, sym}
use Rattle.go_grid.specs.declared.grid.Colour.TheVariants.{Black, White}
use Rattle.cycle_solver.specs.Held.{IsSeenFor, enough}
use Rattle.cycle_solver.proofs.asking.captures_of.Goals as goal

pub winner_of-requires-clause-low : goal.winner_of-requires-clause-low
winner_of-requires-clause-low c = c.requires.low

pub winner_of-requires-clause-high : goal.winner_of-requires-clause-high
winner_of-requires-clause-high c = c.requires.high

pub winner_of-requires-clause-fits : goal.winner_of-requires-clause-fits
winner_of-requires-clause-fits c = c.requires.fits

pub returns-in-Some-Black-clause-captures : goal.returns-in-Some-Black-clause-captures
returns-in-Some-Black-clause-captures c = (Black, c.least_captures.ensures.least)

pub returns-in-Some-Black-clause-low : goal.returns-in-Some-Black-clause-low
returns-in-Some-Black-clause-low c = c.least_captures.ensures.same ∙ c.winner_of.ensures.low

pub returns-in-Some-Black-clause-high : goal.returns-in-Some-Black-clause-high
returns-in-Some-Black-clause-high c = c.winner_of.ensures.high

pub returns-in-Some-Black-clause-fits : goal.returns-in-Some-Black-clause-fits
returns-in-Some-Black-clause-fits c = c.least_captures.ensures.fits

pub returns-in-Some-White-clause-captures : goal.returns-in-Some-White-clause-captures
returns-in-Some-White-clause-captures c = (White, c.least_captures-in-Some-White.ensures.least)

pub returns-in-Some-White-clause-high : goal.returns-in-Some-White-clause-high
returns-in-Some-White-clause-high c = c.least_captures-in-Some-White.ensures.same ∙ c.winner_of.ensures.high

pub returns-in-Some-White-clause-low : goal.returns-in-Some-White-clause-low
returns-in-Some-White-clause-low c = c.winner_of.ensures.low

pub returns-in-Some-White-clause-fits : goal.returns-in-Some-White-clause-fits
returns-in-Some-White-clause-fits c = c.least_captures-in-Some-White.ensures.fits

pub least_captures-requires-in-Some-White-clause-seen : goal.least_captures-requires-in-Some-White-clause-seen
least_captures-requires-in-Some-White-clause-seen c = subst (IsSeenFor c.args.present.now White enough) (sym c.winner_of.ensures.high) c.requires.high

pub returns-in-None-clause-low : goal.returns-in-None-clause-low
returns-in-None-clause-low c = c.winner_of.ensures.low
