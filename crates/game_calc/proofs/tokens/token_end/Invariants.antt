use Rattle.std.proofs.Common.{◌-◌, length}
use Rattle.game_calc.proofs.TokenSteps.{IsRunning}
use Rattle.game_calc.proofs.tokens.token_end.Given as goal

abbrev pub invariant-running : goal.invariant-running
invariant-running l = IsRunning l.text l.start l.at

abbrev pub decreases-running : goal.decreases-running
decreases-running l = length l.text - l.at
