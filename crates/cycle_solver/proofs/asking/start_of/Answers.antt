use Rattle.std.proofs.Common.{◌∙◌}
use Rattle.go_grid.specs.declared.grid.Colour.TheVariants.{Black, White}
use Rattle.cycle_solver.proofs.SumLaws.{first_places}
use Rattle.cycle_solver.proofs.asking.start_of.Goals as goal

pub start_values-requires : goal.start_values-requires
start_values-requires c = record { places = first_places Black 255 c.requires (c.deref.ensures.value ∙ c.in_ok-places.ensures {u = tt}) }

pub start_values-requires-2 : goal.start_values-requires-2
start_values-requires-2 c = record { places = first_places White 255 c.requires (c.deref-2.ensures.value ∙ c.in_ok-places.ensures {u = tt}) }
