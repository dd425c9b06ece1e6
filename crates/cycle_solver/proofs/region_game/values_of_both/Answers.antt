use Rattle.std.proofs.Common.{◌∙◌, ap, arith, get_or}
use Rattle.std.proofs.lemmas.Result.{IfOk-from_err, err_from_is_err_and}
use Rattle.std.proofs.lemmas.List.{get_or_default}
use Rattle.go_grid.specs.declared.grid.Colour.TheVariants.{Black}
use Rattle.game_canon.proofs.ChangedIdLaws.{extends-on}
use Rattle.cycle_solver.proofs.BothLaws.{alone_refused, alone_solved, together_refused, together_solved}
use Rattle.cycle_solver.proofs.GameLaws.{maybe_later}
use Rattle.cycle_solver.proofs.region_game.values_of_both.Goals as goal

pub returns-then-not-has_cycle-clause-solved : goal.returns-then-not-has_cycle-clause-solved
returns-then-not-has_cycle-clause-solved c =
    alone_solved c.args.limits.now c.args.most (omega (arith, c.ranges.most.fits)) c.args.region.now c.args.graph.now c.requires.points c.requires.graph c.positions-most.ensures.range.few_positions
    c.values_of.new.store (c.has_cycle.ensures.0 c.if-not-has_cycle.true) c.in_ok-black.black c.in_ok-black.ensures.values c.alone.result c.alone.ensures.values

pub returns-then-not-has_cycle-clause-refusal : goal.returns-then-not-has_cycle-clause-refusal
returns-then-not-has_cycle-clause-refusal c =
    alone_refused c.args.limits.now c.args.most (omega (arith, c.ranges.most.fits)) c.args.region.now c.args.graph.now c.requires.points c.requires.graph c.positions-most.ensures.range.few_positions
    c.values_of.new.store (c.has_cycle.ensures.0 c.if-not-has_cycle.true) c.in_ok-black.black c.in_ok-black.ensures.values c.alone.result c.index-lowest.result.now c.alone.ensures.refusal

pub returns-in-Ok-clause-solved : goal.returns-in-Ok-clause-solved
returns-in-Ok-clause-solved c =
    together_solved c.args.limits.now c.args.most (omega (arith, c.ranges.most.fits)) c.args.region.now c.args.graph.now c.requires.points c.requires.graph c.positions-most.ensures.range.few_positions
    c.values_of-2.new.store c.in_ok-black.black c.in-Ok.white
    (maybe_later c.args.limits.now c.args.most c.args.region.now c.args.graph.now Black c.values_of.new.store c.values_of-2.new.store c.in_ok-black.black (c.in-Ok.ensures {u = tt}).kept c.in_ok-black.ensures.values)
    (c.in-Ok.ensures {u = tt}).values c.together.result c.together.ensures.values

pub returns-in-Ok-clause-refusal : goal.returns-in-Ok-clause-refusal
returns-in-Ok-clause-refusal c =
    together_refused c.args.limits.now c.args.most (omega (arith, c.ranges.most.fits)) c.args.region.now c.args.graph.now c.requires.points c.requires.graph c.positions-most.ensures.range.few_positions
    c.values_of-2.new.store c.in_ok-black.black c.in-Ok.white
    (maybe_later c.args.limits.now c.args.most c.args.region.now c.args.graph.now Black c.values_of.new.store c.values_of-2.new.store c.in_ok-black.black (c.in-Ok.ensures {u = tt}).kept c.in_ok-black.ensures.values)
    (c.in-Ok.ensures {u = tt}).values c.together.result c.index-lowest.result.now
    (c.index-lowest.ensures ∙ get_or_default c.region.inside.points.items 0 c.index-lowest.result.now 0 c.region.invariant.some
    ∙ ap (λ z. get_or z.points 0 0) c.region.view_is)
    c.together.ensures.refusal

pub returns-in_err-black-clause-kept : goal.returns-in_err-black-clause-kept
returns-in_err-black-clause-kept c = c.values_of.ensures.kept

pub returns-in_err-black-clause-solved : goal.returns-in_err-black-clause-solved
returns-in_err-black-clause-solved c =
    IfOk-from_err c.from_residual.result _ c.from_residual.ensures.0

pub returns-in_err-black-clause-refusal : goal.returns-in_err-black-clause-refusal
returns-in_err-black-clause-refusal c =
    let p = err_from_is_err_and c.from_residual.result c.from_residual.ensures.1 in rw (p.1, p.2) c.in_err-black.ensures.refusal

pub returns-then-not-has_cycle-clause-kept : goal.returns-then-not-has_cycle-clause-kept
returns-then-not-has_cycle-clause-kept c = c.values_of.ensures.kept

pub returns-in-Ok-clause-kept : goal.returns-in-Ok-clause-kept
returns-in-Ok-clause-kept c =
    extends-on c.args.store.now c.values_of.new.store c.values_of-2.new.store c.values_of.ensures.kept c.values_of-2.ensures.kept

pub returns-in-Err-clause-kept : goal.returns-in-Err-clause-kept
returns-in-Err-clause-kept c =
    extends-on c.args.store.now c.values_of.new.store c.values_of-2.new.store c.values_of.ensures.kept c.values_of-2.ensures.kept

pub returns-in-Err-clause-refusal : goal.returns-in-Err-clause-refusal
returns-in-Err-clause-refusal c = c.in-Err.ensures.refusal

pub returns-in-Err-clause-solved : goal.returns-in-Err-clause-solved
returns-in-Err-clause-solved c = tt

pub values_of-requires-clause-points : goal.values_of-requires-clause-points
values_of-requires-clause-points c = c.requires.points

pub values_of-requires-clause-graph : goal.values_of-requires-clause-graph
values_of-requires-clause-graph c = c.requires.graph

pub values_of-requires-2-clause-points : goal.values_of-requires-2-clause-points
values_of-requires-2-clause-points c = c.requires.points

pub values_of-requires-2-clause-graph : goal.values_of-requires-2-clause-graph
values_of-requires-2-clause-graph c = c.requires.graph

pub values_of-requires-clause-memo : goal.values_of-requires-clause-memo
values_of-requires-clause-memo c = c.requires.memo

pub values_of-requires-2-clause-memo : goal.values_of-requires-2-clause-memo
values_of-requires-2-clause-memo c = c.in_ok-black.ensures.memo
