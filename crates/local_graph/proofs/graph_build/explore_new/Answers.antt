use Rattle.std.proofs.Common.{arith, refl, ap, sym, ◌∙◌, ◌^◌, length, drop, set}
use Rattle.std.proofs.lemmas.Result.{err_from_is_err_and}
use Rattle.std.proofs.lemmas.List.{length-map}
use Rattle.local_graph.specs.inner.Graph.{part, lists_of}
use Rattle.local_graph.proofs.ExploreLemmas.{next_position, explored_more, explored_fails, few_numbers}
use Rattle.local_graph.proofs.WalkSteps.{entering, finished, awaits, within_now, has_span, has_visit, less_now, walk_now}
use Rattle.local_graph.proofs.graph_build.explore_new.Goals as goal

pub exploring-init : goal.exploring-init
exploring-init g c = record { under_way = c.requires.under_way; counted = omega (arith, c.requires.all) }

pub returns-in_err-next-clause-limited : goal.returns-in_err-next-clause-limited
returns-in_err-next-clause-limited g c = omega (arith, c.exploring.invariant.counted, c.exploring.invariant.under_way.so_far.few)

pub returns-in_err-next-clause-finite : goal.returns-in_err-next-clause-finite
returns-in_err-next-clause-finite g c =
    let fewer = few_numbers c.args.region.now.touch c.args.region.now.cells c.args.limit (length c.args.region.now.points) _ _ _
    c.exploring.invariant.under_way.so_far c.exploring.invariant.under_way.full in
    omega (arith, c.exploring.invariant.counted, fewer)

pub returns-in_default-clause-ended : goal.returns-in_default-clause-ended
returns-in_default-clause-ended g c =
    let all = finished c.exploring.table c.exploring.found c.next.new.self c.in_ok-next.next c.exploring.invariant.under_way
    c.in_ok-next.ensures.goes c.in_default.is c.in_ok-next.ensures.done in
    (all.0, all.1, c.exploring.invariant.under_way.within, all.2)

pub returns-in_default-clause-limited : goal.returns-in_default-clause-limited
returns-in_default-clause-limited g c = omega (arith, c.exploring.invariant.counted, c.exploring.invariant.under_way.so_far.few)

pub returns-in_default-clause-finite : goal.returns-in_default-clause-finite
returns-in_default-clause-finite g c =
    let fewer = few_numbers c.args.region.now.touch c.args.region.now.cells c.args.limit (length c.args.region.now.points) _ _ _
    c.exploring.invariant.under_way.so_far c.exploring.invariant.under_way.full in
    omega (arith, c.exploring.invariant.counted, fewer)

pub returns-in_default-clause-exact : goal.returns-in_default-clause-exact
returns-in_default-clause-exact g c =
    let all = finished c.exploring.table c.exploring.found c.next.new.self c.in_ok-next.next c.exploring.invariant.under_way
    c.in_ok-next.ensures.goes c.in_default.is c.in_ok-next.ensures.done in
    omega (arith, c.exploring.invariant.counted, all.3)

pub index-position-requires : goal.index-position-requires
index-position-requires g c =
    let w = entering c.exploring.table c.exploring.found c.next.new.self c.in_ok-next.next c.in-Some.place c.exploring.invariant.under_way
    c.in_ok-next.ensures.goes c.in-Some.is in
    let s = w.so_far in
    omega (arith, w.inside, c.exploring.table.positions.ok)

pub list_position-requires-clause-table : goal.list_position-requires-clause-table
list_position-requires-clause-table g c = c.exploring.invariant.under_way.table

pub list_position-requires-clause-once : goal.list_position-requires-clause-once
list_position-requires-clause-once g c = c.exploring.invariant.under_way.so_far.once

pub list_position-requires-clause-few : goal.list_position-requires-clause-few
list_position-requires-clause-few g c = c.exploring.invariant.under_way.so_far.few

pub list_position-requires-clause-position : goal.list_position-requires-clause-position
list_position-requires-clause-position g c =
    let w = entering c.exploring.table c.exploring.found c.next.new.self c.in_ok-next.next c.in-Some.place c.exploring.invariant.under_way
    c.in_ok-next.ensures.goes c.in-Some.is in
    let s = w.so_far in
    let next = next_position c.args.region.now.touch c.args.region.now.cells c.exploring.table.positions.items c.in-Some.place
    c.index-position.result.now s.reachable w.inside c.index-position.ensures in
    let full = next.long ∙ c.exploring.invariant.under_way.full ∙ sym c.of-links.ensures.full in
    let u = c.exploring.invariant.under_way in
    record {
      touch = c.args.region.now.touch;
      cells = next.cells;
      table = c.of-links.ensures.table;
      long = full;
      packed = next.packed;
      few = omega (arith, next.long, u.full, c.requires.points);
      numbers = u.numbers ∙ ap (λ k. 3 ^ k) (sym (next.long ∙ u.full));
    }

pub returns-in_err-list_position-clause-ended : goal.returns-in_err-list_position-clause-ended
returns-in_err-list_position-clause-ended g c =
    let w = entering c.exploring.table c.exploring.found c.next.new.self c.in_ok-next.next c.in-Some.place c.exploring.invariant.under_way
    c.in_ok-next.ensures.goes c.in-Some.is in
    let s = w.so_far in
    let next = next_position c.args.region.now.touch c.args.region.now.cells c.exploring.table.positions.items c.in-Some.place
    c.index-position.result.now s.reachable w.inside c.index-position.ensures in
    let full = next.long ∙ c.exploring.invariant.under_way.full ∙ sym c.of-links.ensures.full in
    let edges = c.in_err-list_position.ensures.edges c.args.region.now.touch next.cells c.of-links.ensures.table full next.packed in
    let p = err_from_is_err_and c.from_residual-in_err-list_position.result c.from_residual-in_err-list_position.ensures.1 in
    rw (p.1, p.2) (explored_fails _ _ _ _ _ _ _ (drop (length c.exploring.found.edges) c.list_position.new.found.edges) _ s.reachable next edges)

pub returns-in_err-next-clause-ended : goal.returns-in_err-next-clause-ended
returns-in_err-next-clause-ended g c = let p = err_from_is_err_and c.from_residual.result c.from_residual.ensures.1 in rw (p.1, p.2) tt

pub returns-in_err-span-clause-ended : goal.returns-in_err-span-clause-ended
returns-in_err-span-clause-ended g c = let p = err_from_is_err_and c.from_residual-in_err-span.result c.from_residual-in_err-span.ensures.1 in rw (p.1, p.2) tt

pub returns-in_err-open-clause-ended : goal.returns-in_err-open-clause-ended
returns-in_err-open-clause-ended g c = let p = err_from_is_err_and c.from_residual-in_err-open.result c.from_residual-in_err-open.ensures.1 in rw (p.1, p.2) tt

pub returns-in_err-list_position-clause-limited : goal.returns-in_err-list_position-clause-limited
returns-in_err-list_position-clause-limited g c =
    let w = entering c.exploring.table c.exploring.found c.next.new.self c.in_ok-next.next c.in-Some.place c.exploring.invariant.under_way
    c.in_ok-next.ensures.goes c.in-Some.is in
    let s = w.so_far in
    omega (arith, c.list_position.ensures.step, c.exploring.invariant.counted, w.some, w.many, s.few)

pub returns-in_err-list_position-clause-finite : goal.returns-in_err-list_position-clause-finite
returns-in_err-list_position-clause-finite g c =
    let w = entering c.exploring.table c.exploring.found c.next.new.self c.in_ok-next.next c.in-Some.place c.exploring.invariant.under_way
    c.in_ok-next.ensures.goes c.in-Some.is in
    let s = w.so_far in
    let fewer = few_numbers c.args.region.now.touch c.args.region.now.cells c.args.limit (length c.args.region.now.points) _ _ _
    c.exploring.invariant.under_way.so_far c.exploring.invariant.under_way.full in
    omega (arith, c.list_position.ensures.step, c.exploring.invariant.counted, w.some, w.many, fewer)

pub returns-in_err-span-clause-limited : goal.returns-in_err-span-clause-limited
returns-in_err-span-clause-limited g c =
    let w = entering c.exploring.table c.exploring.found c.next.new.self c.in_ok-next.next c.in-Some.place c.exploring.invariant.under_way
    c.in_ok-next.ensures.goes c.in-Some.is in
    let s = w.so_far in
    omega (arith, c.list_position.ensures.step, c.exploring.invariant.counted, w.some, w.many, s.few)

pub returns-in_err-span-clause-finite : goal.returns-in_err-span-clause-finite
returns-in_err-span-clause-finite g c =
    let w = entering c.exploring.table c.exploring.found c.next.new.self c.in_ok-next.next c.in-Some.place c.exploring.invariant.under_way
    c.in_ok-next.ensures.goes c.in-Some.is in
    let s = w.so_far in
    let fewer = few_numbers c.args.region.now.touch c.args.region.now.cells c.args.limit (length c.args.region.now.points) _ _ _
    c.exploring.invariant.under_way.so_far c.exploring.invariant.under_way.full in
    omega (arith, c.list_position.ensures.step, c.exploring.invariant.counted, w.some, w.many, fewer)

pub returns-in_err-open-clause-limited : goal.returns-in_err-open-clause-limited
returns-in_err-open-clause-limited g c = omega (arith, c.exploring.invariant.counted, c.exploring.invariant.under_way.so_far.few)

pub returns-in_err-open-clause-finite : goal.returns-in_err-open-clause-finite
returns-in_err-open-clause-finite g c =
    let fewer = few_numbers c.args.region.now.touch c.args.region.now.cells c.args.limit (length c.args.region.now.points) _ _ _
    c.exploring.invariant.under_way.so_far c.exploring.invariant.under_way.full in
    omega (arith, c.exploring.invariant.counted, fewer)

pub list_position-requires-clause-spans : goal.list_position-requires-clause-spans
list_position-requires-clause-spans g c =
    let w = entering c.exploring.table c.exploring.found c.next.new.self c.in_ok-next.next c.in-Some.place c.exploring.invariant.under_way
    c.in_ok-next.ensures.goes c.in-Some.is in
    omega (arith, w.so_far.beside, length-map c.exploring.found.spans.items (part c.exploring.found.edges))

pub list_position-requires-clause-visits : goal.list_position-requires-clause-visits
list_position-requires-clause-visits g c =
    let w = entering c.exploring.table c.exploring.found c.next.new.self c.in_ok-next.next c.in-Some.place c.exploring.invariant.under_way
    c.in_ok-next.ensures.goes c.in-Some.is in
    omega (arith, w.so_far.seen, ap length c.in_ok-open.ensures.same.visits)

pub index_mut-requires : goal.index_mut-requires
index_mut-requires g c =
    let u = c.exploring.invariant.under_way in
    let w = entering c.exploring.table c.exploring.found c.next.new.self c.in_ok-next.next c.in-Some.place u c.in_ok-next.ensures.goes c.in-Some.is in
    let next = next_position c.args.region.now.touch c.args.region.now.cells c.exploring.table.positions.items c.in-Some.place
    c.index-position.result.now w.so_far.reachable w.inside c.index-position.ensures in
    let full = next.long ∙ u.full ∙ sym c.of-links.ensures.full in
    let listed = c.in_ok-list_position.ensures.edges c.args.region.now.touch next.cells c.of-links.ensures.table full next.packed in
    let after = c.list_position.new.table.positions.items in
    let now = c.list_position.new.found in
    let inside = has_span c.exploring.table c.exploring.found now c.next.new.self c.open.new.self c.in_ok-next.next c.in-Some.place u c.in_ok-next.ensures.goes c.in-Some.is
    c.in_ok-open.ensures after listed.0 listed.2.0 listed.2.1 c.in_ok-list_position.ensures.noted _ c.in_ok-span.span _ _ refl c.in_ok-span.ensures
    c.len-first.ensures c.len-end.ensures _ refl in
    omega (arith, inside, now.spans.ok)

pub index_mut-requires-in-exploring : goal.index_mut-requires-in-exploring
index_mut-requires-in-exploring g c =
    let u = c.exploring.invariant.under_way in
    let w = entering c.exploring.table c.exploring.found c.next.new.self c.in_ok-next.next c.in-Some.place u c.in_ok-next.ensures.goes c.in-Some.is in
    let next = next_position c.args.region.now.touch c.args.region.now.cells c.exploring.table.positions.items c.in-Some.place
    c.index-position.result.now w.so_far.reachable w.inside c.index-position.ensures in
    let full = next.long ∙ u.full ∙ sym c.of-links.ensures.full in
    let listed = c.in_ok-list_position.ensures.edges c.args.region.now.touch next.cells c.of-links.ensures.table full next.packed in
    let after = c.list_position.new.table.positions.items in
    let now = c.list_position.new.found in
    let inside = has_visit c.exploring.table c.exploring.found now c.next.new.self c.open.new.self c.in_ok-next.next c.in-Some.place u c.in_ok-next.ensures.goes c.in-Some.is
    c.in_ok-open.ensures after listed.0 listed.2.0 listed.2.1 c.in_ok-list_position.ensures.noted _ c.in_ok-span.span _ _ refl c.in_ok-span.ensures
    c.len-first.ensures c.len-end.ensures _ refl in
    omega (arith, inside, now.walk.visits.ok)

pub exploring-smaller : goal.exploring-smaller
exploring-smaller g c =
    let u = c.exploring.invariant.under_way in
    let w = entering c.exploring.table c.exploring.found c.next.new.self c.in_ok-next.next c.in-Some.place u c.in_ok-next.ensures.goes c.in-Some.is in
    let next = next_position c.args.region.now.touch c.args.region.now.cells c.exploring.table.positions.items c.in-Some.place
    c.index-position.result.now w.so_far.reachable w.inside c.index-position.ensures in
    let full = next.long ∙ u.full ∙ sym c.of-links.ensures.full in
    let listed = c.in_ok-list_position.ensures.edges c.args.region.now.touch next.cells c.of-links.ensures.table full next.packed in
    let after = c.list_position.new.table.positions.items in
    let now = c.list_position.new.found in
    let less = less_now c.exploring.table c.exploring.found now c.next.new.self c.open.new.self c.in_ok-next.next c.in-Some.place u c.in_ok-next.ensures.goes c.in-Some.is
    c.in_ok-open.ensures after listed.0 listed.2.0 listed.2.1 c.in_ok-list_position.ensures.noted _ c.in_ok-span.span _ _ refl c.in_ok-span.ensures
    c.len-first.ensures c.len-end.ensures _ refl in
    omega (arith, less, w.so_far.few, listed.2.2, w.many)

pub exploring-preserved : goal.exploring-preserved
exploring-preserved g c =
    let u = c.exploring.invariant.under_way in
    let w = entering c.exploring.table c.exploring.found c.next.new.self c.in_ok-next.next c.in-Some.place u c.in_ok-next.ensures.goes c.in-Some.is in
    let next = next_position c.args.region.now.touch c.args.region.now.cells c.exploring.table.positions.items c.in-Some.place
    c.index-position.result.now w.so_far.reachable w.inside c.index-position.ensures in
    let full = next.long ∙ u.full ∙ sym c.of-links.ensures.full in
    let listed = c.in_ok-list_position.ensures.edges c.args.region.now.touch next.cells c.of-links.ensures.table full next.packed in
    let after = c.list_position.new.table.positions.items in
    let now = c.list_position.new.found in
    let less = less_now c.exploring.table c.exploring.found now c.next.new.self c.open.new.self c.in_ok-next.next c.in-Some.place u c.in_ok-next.ensures.goes c.in-Some.is
    c.in_ok-open.ensures after listed.0 listed.2.0 listed.2.1 c.in_ok-list_position.ensures.noted _ c.in_ok-span.span _ _ refl c.in_ok-span.ensures
    c.len-first.ensures c.len-end.ensures _ refl in
    let spans = set now.spans.items c.in-Some.place c.in_ok-span.span in
    let E = lists_of c.exploring.found.edges c.exploring.found.spans.items in
    let es = drop (length c.exploring.found.edges) now.edges in
    let awaits = awaits c.exploring.table c.exploring.found now c.next.new.self c.open.new.self c.in_ok-next.next c.in-Some.place u c.in_ok-next.ensures.goes c.in-Some.is
    c.in_ok-open.ensures after listed.0 listed.2.0 listed.2.1 c.in_ok-list_position.ensures.noted _ c.in_ok-span.span _ _ refl c.in_ok-span.ensures
    c.len-first.ensures c.len-end.ensures _ refl in
    record {
      under_way = record {
        full = u.full;
        table = c.in_ok-list_position.ensures.table;
        numbers = c.in_ok-list_position.ensures.numbers ∙ u.numbers;
        so_far = explored_more c.args.region.now.touch c.args.region.now.cells c.args.limit _ after E (set E c.in-Some.place es) (lists_of now.edges spans) _ _ _
            _ _ (length after) listed.0 es c.in_ok-list_position.field-0 w.so_far next listed.1 listed.2 refl refl awaits refl;
        within = within_now c.exploring.table c.exploring.found now c.next.new.self c.open.new.self c.in_ok-next.next c.in-Some.place u c.in_ok-next.ensures.goes c.in-Some.is
            c.in_ok-open.ensures after listed.0 listed.2.0 listed.2.1 c.in_ok-list_position.ensures.noted _ c.in_ok-span.span _ _ refl c.in_ok-span.ensures
            c.len-first.ensures c.len-end.ensures _ refl;
        walk = walk_now c.exploring.table c.exploring.found now c.next.new.self c.open.new.self c.in_ok-next.next c.in-Some.place u c.in_ok-next.ensures.goes c.in-Some.is
            c.in_ok-open.ensures after listed.0 listed.2.0 listed.2.1 c.in_ok-list_position.ensures.noted _ c.in_ok-span.span _ _ refl c.in_ok-span.ensures
            c.len-first.ensures c.len-end.ensures _ refl;
      };
      counted = omega (arith, c.in_ok-list_position.ensures.step, c.exploring.invariant.counted, less, w.many);
    }
