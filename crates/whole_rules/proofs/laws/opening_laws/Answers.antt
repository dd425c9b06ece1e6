use Rattle.whole_rules.proofs.OpeningLaws.{opens_with_each}
use Rattle.whole_rules.proofs.laws.opening_laws.Goals as goal

pub returns : goal.returns
returns c = opens_with_each
