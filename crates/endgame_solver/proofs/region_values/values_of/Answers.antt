use Rattle.std.proofs.Common.{◌^◌, arith, subst, length}
use Rattle.endgame_solver.specs.Faults.{HasLargeForm}
use Rattle.endgame_solver.proofs.GraphLaws.{few_units, no_large_form}
use Rattle.endgame_solver.proofs.region_values.values_of.Goals as goal

pub returns-in-Ok-clause-solved : goal.returns-in-Ok-clause-solved
returns-in-Ok-clause-solved c =
    let r = c.args.region.now in
    let g = c.args.graph.now in
    let held = c.requires.graph in
    let said = c.in-Ok.ensures in
    let are = said.values r held.graph in
    record {
      sound = record {
        points = c.requires.points;
        positions = held.positions;
        no_cycle = held.graph.no_cycle;
        forms = subst (λ n. ¬ HasLargeForm r n) c.parts.ensures.value (no_large_form r g held.graph _ _ _ are said.parts said.bounds);
      };
      graph = held;
      values = are;
      within = λ i short x h.
          let size = said.sizes r held.graph i short x h in
          let most = few_units (length g.positions) (length r.cells) (2 ^ 60) (omega (arith, held.few, c.parts.ensures.range.few_positions)) held.graph.few in
          omega (arith, size, most);
    }
