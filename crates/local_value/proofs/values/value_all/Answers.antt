use Rattle.std.proofs.Common.{IfErr, subst}
use Rattle.go_grid.specs.Region.{Region}
use Rattle.local_value.specs.Refusals.{IsValueRefusal}
use Rattle.local_trees.specs.GraphPlaces.{IsGraphOf}
use Rattle.local_value.proofs.values.value_all.Goals as goal

pub returns-clause-refusal : goal.returns-clause-refusal
returns-clause-refusal c = subst (λ g. IfErr c.value_compact.result (λ error. (r : Region) → IsGraphOf r g → IsValueRefusal r g c.args.parts_limit error))
    c.compact.ensures c.value_compact.ensures.refusal
