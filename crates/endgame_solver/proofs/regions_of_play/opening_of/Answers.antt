use Rattle.std.proofs.Common.{subst}
use Rattle.benson_life.specs.Territory.{IsTerritory}
use Rattle.endgame_solver.proofs.regions_of_play.opening_of.Goals as goal

pub opening_with-requires-clause-territory : goal.opening_with-requires-clause-territory
opening_with-requires-clause-territory c = subst (λ g. IsTerritory g c.in_ok-territory.territory) c.board-board.ensures.board c.in_ok-territory.ensures
