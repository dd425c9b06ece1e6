use Rattle.std.proofs.Common.{◌-◌, length}
use Rattle.benson_attack.specs.Reached.{number_of_stones}
use Rattle.benson_attack.specs.inner.Reached.{IsPressed}
use Rattle.benson_attack.proofs.captures.capture.Given as goal

abbrev pub invariant-pressing : goal.invariant-pressing
invariant-pressing l = IsPressed l.colour l.victim l.initial.run l.run

abbrev pub decreases-pressing : goal.decreases-pressing
decreases-pressing l = length l.run.board.cells - number_of_stones l.colour l.run.board
