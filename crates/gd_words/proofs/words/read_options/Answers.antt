use Rattle.std.proofs.Common.{subst}
use Rattle.gd_words.specs.Job.{TaxTerritory}
use Rattle.gd_words.proofs.JobLemmas.{one_choices}
use Rattle.gd_words.proofs.ListingLemmas.{at_none}
use Rattle.gd_words.proofs.words.read_options.Goals as goal

pub returns-in_err-chosen-clause-none : goal.returns-in_err-chosen-clause-none
returns-in_err-chosen-clause-none c = at_none _ _ c.from_residual.ensures (λ other choices. absurd (c.in_err-chosen.ensures.none other choices))

pub returns-then-taxes_territory-clause-none : goal.returns-then-taxes_territory-clause-none
returns-then-taxes_territory-clause-none c other choices =
    subst TaxTerritory (one_choices _ _ _ other c.in_ok-chosen.ensures.some choices) (c.taxes_territory.ensures.0 c.if-taxes_territory.true)
