use Rattle.benson_life.proofs.TaxLemmas.{taxed}
use Rattle.benson_life.proofs.laws.tax_laws.Goals as goal

pub returns : goal.returns
returns c g colour held groups settled nothing = taxed g colour settled nothing held groups
