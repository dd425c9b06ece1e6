use Rattle.std.proofs.Common.{◌≡◌, ◌<◌, sym, subst, arith, length, All}
use Rattle.endgame_solver.specs.inner.Solving.{IsGraphWithin}
use Rattle.endgame_solver.proofs.GraphLaws.{cycle_places, positions_few}
use Rattle.endgame_solver.proofs.region_values.graph_of.Goals as goal

pub named_cycle-requires : goal.named_cycle-requires
named_cycle-requires g c =
    let full : length c.args.region.now.cells ≡ length c.args.region.now.points = subst (λ r. length r.cells ≡ length r.points) c.region.view_is c.region.invariant.full in
    let built = rw c.in-Err-Cycle.field-0-is at c.in-Err-Cycle.ensures.built in
    subst (All (λ m. m.place < length c.args.region.now.points)) (sym c.as_slice.ensures) (cycle_places c.args.region.now _ _ built.2 full)

pub returns-in-Ok-clause-graph : goal.returns-in-Ok-clause-graph
returns-in-Ok-clause-graph g c =
    let r = c.args.region.now in
    let full : length r.cells ≡ length r.points = subst (λ s. length s.cells ≡ length s.points) c.region.view_is c.region.invariant.full in
    let built = c.in-Ok.ensures.built in
    subst (λ n. IsGraphWithin n r c.in-Ok.graph) c.positions.ensures.value (record {
      graph = record { few = omega (arith, full, built.0); graph = built.3; order = built.4; no_cycle = built.2 };
      few = positions_few r.touch r.cells _ _ _ built.3 built.1;
      positions = built.1;
    })
