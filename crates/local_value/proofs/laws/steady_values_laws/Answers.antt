use Rattle.local_value.proofs.SteadyLaws.{layers-serve}
use Rattle.local_value.proofs.laws.steady_values_laws.Goals as goal

pub returns : goal.returns
returns c = layers-serve
