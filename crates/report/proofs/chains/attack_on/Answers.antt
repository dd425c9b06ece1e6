use Rattle.std.proofs.Common.{inr}
use Rattle.report.proofs.chains.attack_on.Goals as goal

pub returns-in-Ok : goal.returns-in-Ok
returns-in-Ok c b at = inr (c.in-Ok.ensures.open b, c.in-Ok.ensures.attack b at)
