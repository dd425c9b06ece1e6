use Rattle.go_play.proofs.SetupLemmas.{none_unsettled}
use Rattle.gtp_engine.proofs.setups.fresh.Goals as goal

pub unreachable-requires : goal.unreachable-requires
unreachable-requires c = none_unsettled c.in_ok-board.ensures.settled (rw (c.in-Ok-of_board.ensures {u = tt}).point at c.in-Err.ensures)
