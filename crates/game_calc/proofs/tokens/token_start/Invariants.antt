use Rattle.std.proofs.Common.{◌-◌, length}
use Rattle.game_calc.proofs.TokenSteps.{IsPassing}
use Rattle.game_calc.proofs.tokens.token_start.Given as goal

abbrev pub invariant-passing : goal.invariant-passing
invariant-passing l = IsPassing l.text l.first l.at

abbrev pub decreases-passing : goal.decreases-passing
decreases-passing l = length l.text - l.at
