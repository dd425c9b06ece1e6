use Rattle.board_session.proofs.StandingLemmas.{moves_stand}
use Rattle.board_session.proofs.laws.board_laws.Goals as goal

pub returns : goal.returns
returns c = record { stand = moves_stand }
