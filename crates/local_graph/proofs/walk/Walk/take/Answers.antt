use Rattle.std.proofs.Common.{refl, subst, sym, ◌++◌, ◌∷◌, [], ◌<◌, true, length, None, Some}
use Rattle.local_graph.specs.declared.walk.Walk.{Walk}
use Rattle.local_graph.specs.inner.Walk.{Goes, place_of}
use Rattle.local_graph.proofs.WalkLemmas.{goes_past, goes_new, goes_cycle}
use Rattle.local_graph.proofs.walk.Walk.take.Goals as goal

pub returns-in-New-clause-goes : goal.returns-in-New-clause-goes
returns-in-New-clause-goes c =
    let w = c.args.self.now in
    let inside = subst (λ t. place_of t < length w.visits.items) c.in-Enter.is c.requires in
    subst (λ t. Goes w (w.tasks.items ++ t ∷ []) w (Some c.in-Enter.place)) (sym c.in-Enter.is)
    (goes_new w c.in-Enter.place c.index.result.now inside c.index.ensures c.in-New.is)

pub returns-in-OnPath-clause-goes : goal.returns-in-OnPath-clause-goes
returns-in-OnPath-clause-goes c =
    let w = c.args.self.now in
    let inside = subst (λ t. place_of t < length w.visits.items) c.in-Enter.is c.requires in
    let after : Walk = record { visits = w.visits; tasks = w.tasks; order = w.order; has_cycle = true } in
    subst (λ t. Goes w (w.tasks.items ++ t ∷ []) after None) (sym c.in-Enter.is)
    (goes_cycle w after c.in-Enter.place c.index.result.now inside c.index.ensures c.in-OnPath.is refl refl refl refl)

pub returns-in-Placed-clause-goes : goal.returns-in-Placed-clause-goes
returns-in-Placed-clause-goes c =
    let w = c.args.self.now in
    let inside = subst (λ t. place_of t < length w.visits.items) c.in-Enter.is c.requires in
    subst (λ t. Goes w (w.tasks.items ++ t ∷ []) w None) (sym c.in-Enter.is)
    (goes_past w c.in-Enter.place c.index.result.now inside c.index.ensures c.in-Placed.is)
