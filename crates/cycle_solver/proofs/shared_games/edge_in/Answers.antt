use Rattle.std.proofs.Common.{◌∙◌, ap, subst, sym}
use Rattle.std.proofs.lemmas.Bool.{both_ways}
use Rattle.endgame_solver.specs.Regions.{IsStoneAt}
use Rattle.cycle_solver.specs.Turned.{own}
use Rattle.cycle_solver.proofs.ChangeLaws.{no_own_more}
use Rattle.cycle_solver.proofs.shared_games.edge_in.Goals as goal

pub edges-preserved : goal.edges-preserved
edges-preserved c =
    no_own_more c.args.region.now c.args.view.now c.args.edges.now c.args.colour c.args.point c.edges.number
    (λ h. both_ways c.is_stone_at.result c.if-is_stone_at.false
    (c.is_stone_at.ensures.1 (subst (IsStoneAt c.args.region.now c.args.colour c.args.point) (sym (c.own-own.ensures
    ∙ ap (own c.args.view.now) c.get.ensures)) h))) c.edges.invariant
