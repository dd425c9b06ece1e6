use Rattle.go_play.proofs.PlaceLemmas.{one_board}
use Rattle.go_play.proofs.laws.placing_laws.Goals as goal

pub returns : goal.returns
returns c = one_board
