use Rattle.go_grid.specs.declared.grid.Colour.TheVariants.{Black, White}
use Rattle.local_value.specs.Remembered.{AreStonesSumsRight, options_of}
use Rattle.local_value.proofs.OptionsLaws.{IsListing}
use Rattle.local_value.proofs.values.list_options.Given as goal

abbrev pub invariant-listing : goal.invariant-listing
invariant-listing l = record {
  left : IsListing l.fn.store l.store l.ids Black l.edges l.number (options_of Black l.options);
  right : IsListing l.fn.store l.store l.ids White l.edges l.number (options_of White l.options);
  sums : AreStonesSumsRight l.store l.sums;
}
