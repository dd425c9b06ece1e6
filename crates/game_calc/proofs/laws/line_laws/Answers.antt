use Rattle.game_calc.proofs.OneLineLaws.{one-line}
use Rattle.game_calc.proofs.laws.line_laws.Goals as goal

pub returns : goal.returns
returns c = record { one = one-line }
