use Rattle.std.proofs.Common.{◌≡◌, drop}
use Rattle.std.specs.Prelude.{map}
use Rattle.sgf_tree.specs.Reading.{property_text}
use Rattle.sgf_go.specs.Setup.{value_of}
use Rattle.sgf_go.proofs.properties.value_of.Given as goal

abbrev pub invariant-loop-at : goal.invariant-loop-at
invariant-loop-at l = value_of l.name (map property_text l.properties) ≡ value_of l.name (map property_text (drop l.at l.properties))
