use Rattle.std.proofs.Common.{subst}
use Rattle.short_games.specs.Tree.{tree_at}
use Rattle.endgame_solver.specs.ModestGames.{most_value}
use Rattle.endgame_solver.specs.inner.Thresholds.{LiesBetween}
use Rattle.endgame_solver.proofs.MarginLaws.{lies_at, units_back}
use Rattle.endgame_solver.proofs.thresholds.stops_at.Goals as goal

pub returns : goal.returns
returns c =
    let G = tree_at c.args.store.now c.args.id in
    let right = units_back c.units.ensures.count c.units.ensures.bounds in
    let left = units_back c.units-2.ensures.count c.units-2.ensures.bounds in
    subst (λ T. T) (λ i. LiesBetween G most_value (record { right = right i; left = left i }))
    (lies_at G most_value _ _ c.node-canonical.ensures.canonical c.requires.within c.right_stop.ensures c.left_stop.ensures)
