use Rattle.short_games.proofs.ExampleLaws.{known-numbers, known-fractions, known-order, known-sums, known-canonical, known-stops, known-walls, known-switch, known-two_steps}
use Rattle.short_games.proofs.known_values.Goals as goal

pub returns-clause-numbers : goal.returns-clause-numbers
returns-clause-numbers c = known-numbers

pub returns-clause-fractions : goal.returns-clause-fractions
returns-clause-fractions c = known-fractions

pub returns-clause-order : goal.returns-clause-order
returns-clause-order c = known-order

pub returns-clause-sums : goal.returns-clause-sums
returns-clause-sums c = known-sums

pub returns-clause-canonical : goal.returns-clause-canonical
returns-clause-canonical c = known-canonical

pub returns-clause-stops : goal.returns-clause-stops
returns-clause-stops c = known-stops

pub returns-clause-walls : goal.returns-clause-walls
returns-clause-walls c = known-walls

pub returns-clause-switch : goal.returns-clause-switch
returns-clause-switch c = known-switch

pub returns-clause-two_steps : goal.returns-clause-two_steps
returns-clause-two_steps c = known-two_steps
