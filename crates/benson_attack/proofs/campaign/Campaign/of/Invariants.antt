use Rattle.std.proofs.Common.{◌-◌, length}
use Rattle.benson_attack.specs.Attacks.{AreRuns}
use Rattle.benson_attack.specs.Reached.{IsAtRest, HasFewPlacings, number_of_stones}
use Rattle.benson_attack.proofs.campaign.Campaign.of.Given as goal

abbrev pub invariant-capturing : goal.invariant-capturing
invariant-capturing l = AreRuns l.board l.by l.runs.items × IsAtRest l.board l.by l.run × HasFewPlacings l.by l.run

abbrev pub decreases-capturing : goal.decreases-capturing
decreases-capturing l = length l.run.board.cells - number_of_stones l.by l.run.board
