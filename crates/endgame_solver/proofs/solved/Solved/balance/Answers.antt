use Rattle.endgame_solver.proofs.WinningLaws.{held_modest}
use Rattle.endgame_solver.proofs.solved.Solved.balance.Goals as goal

pub balance_of-requires : goal.balance_of-requires
balance_of-requires c = held_modest c.self.invariant.0 c.purses.ensures
