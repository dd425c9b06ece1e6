-- What a refusal of the solver names.
use Rattle.report.specs.declared.values.ValuesError.{ValuesError}
use Rattle.report.specs.declared.values.ValuesError.TheVariants as values

-- the fault names a region whose value isn't shown
abbrev pub NamesRegion : ValuesError → Type 0
NamesRegion (values.Form p) = Unit {0}
NamesRegion (values.Memory e) = ⊥
