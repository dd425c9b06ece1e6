use Rattle.std.proofs.Common.{◌≡◌, ◌-◌, ◌^◌, length}
use Rattle.endgame_solver.proofs.NextStoneLaws.{LineSoFar}
use Rattle.endgame_solver.proofs.solved.Solved.line.Given as goal

abbrev pub invariant-stones : goal.invariant-stones
invariant-stones l = LineSoFar l.fn.self.regions l.fn.self.state l.self.state l.line.items l.beyond
    × (l.self.regions ≡ l.fn.self.regions) × (l.self.trees ≡ l.fn.self.trees)

abbrev pub decreases-stones : goal.decreases-stones
decreases-stones l = 2 ^ 41 - length l.line.items
