use Rattle.std.proofs.Common.{◌≡◌, arith, length, subst}
use Rattle.cycle_solver.specs.Games.{IsGraphWithin}
use Rattle.endgame_solver.proofs.GraphLaws.{positions_few}
use Rattle.cycle_solver.proofs.region_game.graph_of.Goals as goal

pub returns-in-Ok-clause-graph : goal.returns-in-Ok-clause-graph
returns-in-Ok-clause-graph g c =
    let r = c.args.region.now in
    let full : length r.cells ≡ length r.points = subst (λ s. length s.cells ≡ length s.points) c.region.view_is c.region.invariant.full in
    let built = c.in-Ok.ensures.built in
    subst (λ n. IsGraphWithin n r c.in-Ok.graph) c.positions.ensures.value (record {
      graph = record { few = omega (arith, full, built.0); graph = built.2; calm = built.3; returns = built.4; orders = built.5 };
      few = positions_few r.touch r.cells _ _ _ built.2 built.1;
      positions = built.1;
    })
