use Rattle.std.proofs.Common.{arith, ap, ◌∙◌, ◌≡◌, length}
use Rattle.std.specs.List.{count_by}
use Rattle.std.proofs.lemmas.Result.{err_from_is_err_and}
use Rattle.local_graph.specs.inner.Graph.{lists_of}
use Rattle.local_graph.specs.inner.Searching.{is_new}
use Rattle.local_graph.proofs.EdgeListLemmas.{none_within}
use Rattle.local_graph.proofs.ExploreLemmas.{start_fails, start_found, opening_numbered}
use Rattle.local_graph.proofs.WalkSteps.{begin_walk}
use Rattle.local_graph.proofs.graph_build.begin.Goals as goal

pub new_place-requires-clause-numbered : goal.new_place-requires-clause-numbered
new_place-requires-clause-numbered c =
    opening_numbered c.args.region.now.cells c.args.table.now.numbers (length c.args.region.now.points) c.start-opening.result c.start-opening.ensures.full
    c.requires.points c.requires.numbers c.start-opening.ensures.packed

pub returns-in_err-new_place : goal.returns-in_err-new_place
returns-in_err-new_place c =
    let p = err_from_is_err_and c.from_residual.result c.from_residual.ensures.1 in
    rw (p.1, p.2)
    (start_fails _ _ _ _ _ _ _ c.requires.none c.start-opening.ensures.packed c.in_err-new_place.ensures.placed)

pub returns-in_err-walk : goal.returns-in_err-walk
returns-in_err-walk c = let p = err_from_is_err_and c.from_residual-in_err-walk.result c.from_residual-in_err-walk.ensures.1 in rw (p.1, p.2) tt

pub returns-in_err-await_new : goal.returns-in_err-await_new
returns-in_err-await_new c = let p = err_from_is_err_and c.from_residual-in_err-await_new.result c.from_residual-in_err-await_new.ensures.1 in rw (p.1, p.2) tt

pub returns : goal.returns
returns c =
    let full : c.len.result ≡ length c.new_place.new.table.positions.items = omega (arith, c.len.ensures, c.new_place.new.table.positions.ok) in
    let edges = c.new-2.result in
    let awaited = c.in_ok-await_new.ensures.awaited edges in
    let none = ap (lists_of edges) c.new-3.ensures.items in (
      record {
        full = c.start-opening.ensures.full;
        table = c.in_ok-new_place.ensures.table;
        numbers = c.in_ok-new_place.ensures.numbers ∙ c.requires.numbers;
        so_far = start_found c.args.region.now.touch c.args.region.now.cells c.args.limit _ _ _ _ _ (lists_of edges c.new-3.result.items) _ _ _
            c.requires.none c.start-opening.ensures.packed none c.in_ok-walk.ensures.visits c.in_ok-new_place.ensures.placed full awaited;
        within = c.in_ok-await_new.ensures.within (length edges) (none_within (length edges) _ c.new-3.ensures.items);
        walk = begin_walk _ _ c.in_ok-walk.walk _ _ _ _ _ _ _ c.in_ok-walk.ensures none c.requires.none c.in_ok-new_place.ensures.placed full awaited;
      },
      omega (arith, awaited.many, ap length none, full, ap (count_by is_new) c.in_ok-walk.ensures.visits),
    )
