use Rattle.std.proofs.Common.{subst, None}
use Rattle.whole_rules.specs.WholeGame.{IsFirstMove}
use Rattle.endgame_solver.proofs.solved.Solved.choose.Goals as goal

pub returns-in-None-clause-choice : goal.returns-in-None-clause-choice
returns-in-None-clause-choice c = λ h. (subst (λ s. IsFirstMove s None) c.whole.ensures c.in-None.ensures) h.0 h.1
