use Rattle.std.proofs.Common.{◌≢◌, ◌∙◌, sym, subst, Contains}
use Rattle.std.proofs.lemmas.List.{get_or_read}
use Rattle.std.proofs.lemmas.Result.{err_from_is_err_and}
use Rattle.region_book.specs.Image.{IsShape}
use Rattle.endgame_solver.specs.Regions.{no_region}
use Rattle.endgame_solver.specs.inner.Solving.{IsRefusalOf, IsSolvedBy}
use Rattle.endgame_solver.specs.declared.view_book.Kind.{Kind}
use Rattle.endgame_solver.proofs.SharingLaws.{next_seen, partner_for, shares_new, refused_at}
use Rattle.endgame_solver.proofs.region_values.solve_next.Goals as goal

pub add_view-requires-clause-some : goal.add_view-requires-clause-some
add_view-requires-clause-some g c =
    partner_for c.in-Some.place c.index-known.result.now c.deref.ensures.value c.requires.before c.in-Some.ensures
    (sym c.index-known.ensures) c.in_ok-kind.ensures.shape

pub returns-in-Some-clause-next : goal.returns-in-Some-clause-next
returns-in-Some-clause-next g c =
    let at = get_or_read c.args.regions.now c.args.number c.index-regions-number.result c.requires.number c.index-regions-number.is no_region in
    let w = c.in_ok-add_view.ensures {u = tt} in
    rw w.graphs (next_seen c.in-Some.place c.index-known.result.now c.deref.ensures.value c.requires.before c.in-Some.ensures
    (sym c.index-known.ensures) c.in_ok-kind.ensures.shape c.requires.number c.requires.small at w.view.2 w.more c.add_view.ensures.kept w.forms w.view.1)

pub returns-in_err-graph-clause-refusal : goal.returns-in_err-graph-clause-refusal
returns-in_err-graph-clause-refusal g c =
    let at = get_or_read c.args.regions.now c.args.number c.index-regions-number.result c.requires.number c.index-regions-number.is no_region in
    let p = err_from_is_err_and c.from_residual-in_err-graph.result c.from_residual-in_err-graph.ensures.1 in
    let fault = refused_at c.requires.number c.requires.small c.requires.before.solved _
    (subst (λ r. IsRefusalOf c.args.limits.now r c.in_err-graph.field-0.0) at c.in_err-graph.ensures.refusal) in
    rw (p.1, p.2) fault

pub returns-clause-next : goal.returns-clause-next
returns-clause-next g c =
    let at = get_or_read c.args.regions.now c.args.number c.index-regions-number.result c.requires.number c.index-regions-number.is no_region in
    let kind = c.in_ok-kind.kind in
    let added = c.in_ok-add_own.ensures {u = tt} in
    let (v, seen, own) = added.view in
    let apart = subst (λ ks. (k : Kind) → Contains ks k → k.shape.spots.items ≢ kind.shape.spots.items) c.deref.ensures.value
    (c.in_default.ensures {u = tt}) in
    rw (added.graphs, added.values, seen, c.in_ok-push.ensures.items)
    (shares_new v kind c.solve_region.ensures.kept c.requires.before
    (subst (λ z. IsSolvedBy c.args.limits.now z c.in_ok-graph.graph c.solve_region.new.store c.in_ok-graph.ids) at c.in_ok-graph.ensures.solved)
    (subst (λ z. IsShape z z.cells kind.shape.spots.items kind.turn) at c.in_ok-kind.ensures.shape) apart
    (c.in_ok-kind.ensures.values ∙ c.len.ensures ∙ c.args.book.now.values.ok.0) own)
