-- Exploring by a walk, in the words of the code.
use Rattle.std.proofs.Common.{◌≡◌, ℕ, zero, suc, inl, inr, Ok, ◌+◌, ◌-◌, ◌<◌, ◌≤◌, arith, refl, sym, ap, ◌∙◌, Bool, false, List, [], ◌∷◌, ◌++◌, length, length-append, drop, get_or, set, subst, Option, None, Some, IfNone, IfSome, Vec, Global}
use Rattle.std.specs.List.{Contains, count_by}
use Rattle.std.proofs.lemmas.List.{length-set, length_push, get_or_default, get_or_past}
use Rattle.std.proofs.lemmas.List.Elements.{Contains-push, Contains-push_cases}
use Rattle.go_grid.specs.declared.grid.Cell.{Cell}
use Rattle.go_grid.specs.declared.region.Touch.{Touch}
use Rattle.local_play.specs.declared.local_move.LocalMove.{LocalMove}
use Rattle.local_graph.specs.declared.edge_lists.Span.{Span}
use Rattle.local_graph.specs.declared.graph.Edge.{Edge}
use Rattle.local_graph.specs.declared.graph_build.Exploration.{Exploration}
use Rattle.local_graph.specs.declared.place_table.PlaceTable.{PlaceTable}
use Rattle.local_graph.specs.declared.search.Visit.{Visit}
use Rattle.local_graph.specs.declared.search.Visit.TheVariants.{New, OnPath}
use Rattle.local_graph.specs.declared.walk.Task.{Task}
use Rattle.local_graph.specs.declared.walk.Task.TheVariants.{Enter, Leave}
use Rattle.local_graph.specs.declared.walk.Walk.{Walk}
use Rattle.local_graph.specs.LocalGraph.{AreEdges, IsGraph, IsOrderOfPlaces}
use Rattle.local_graph.specs.inner.Exploring.{AreNoted, Exploring, IsExploring}
use Rattle.local_graph.specs.inner.Found.{Grows, Placed, AddsPositions, AreAwaited}
use Rattle.local_graph.specs.inner.Graph.{lists_of, AreWithin}
use Rattle.local_graph.specs.inner.Searching.{visit_at, is_new}
use Rattle.local_graph.specs.inner.Walk.{place_of, task_at, IsWalk, Ordering, WalksWith, Goes, AreTargets, IsBegun, IsOpened}
use Rattle.local_graph.proofs.EdgeListLemmas.{lists_put, within_put}
use Rattle.local_graph.proofs.ExploreLemmas.{explore_on, explored_all}
use Rattle.local_graph.proofs.NotingLemmas.{awaited_put, noted_spans}
use Rattle.local_graph.proofs.SearchLemmas.{new_apart, new_placed}
use Rattle.local_graph.proofs.WalkLemmas.{other_task, none_new, one_new_less, walk_ends, walk_orders, added_target, enter_walk, placed_still, targets_still}

-- a new place is entered next
pub record Entering (touch : List Touch) (opening : List Cell) (limit : ℕ) (positions : List ℕ) (edges : List (List Edge)) (first walk : Walk) (p : ℕ) : Type 0 where
  pub so_far : Exploring touch opening limit positions edges walk.visits.items
  pub inside : p < length positions
  pub new : visit_at walk.visits.items p ≡ New
  pub goes_on : WalksWith edges walk (walk.tasks.items ++ Enter p ∷ [])
  pub many : count_by is_new walk.visits.items ≡ count_by is_new first.visits.items
  pub some : 0 < count_by is_new walk.visits.items

pub entering : {touch : List Touch} → {opening : List Cell} → {limit places : ℕ} → (t : PlaceTable) (found : Exploration) (walk : Walk) (next : Option ℕ) (p : ℕ)
    → IsExploring touch opening limit places t found → Goes found.walk found.walk.tasks.items walk next → next ≡ Some p
    → Entering touch opening limit t.positions.items (lists_of found.edges found.spans.items) found.walk walk p
entering {touch} {opening} {limit} {places} t found walk next p u goes is =
    let E = lists_of found.edges found.spans.items in
    let g = subst (Goes found.walk found.walk.tasks.items walk) is goes in
    let w = g.walk E u.walk in
    let lt = w.inside (Enter p) (Contains-push walk.tasks.items (Enter p)) in
    let less = one_new_less walk.visits.items p lt g.new in
    record {
      so_far = explore_on touch opening limit t.positions.items E found.walk.visits.items walk.visits.items u.so_far g.visits;
      inside = omega (arith, lt, g.visits.long, u.so_far.seen);
      new = g.new;
      goes_on = w;
      many = g.visits.many;
      some = omega (arith, less);
    }

-- nothing is left to do
pub finished : {touch : List Touch} → {opening : List Cell} → {limit places : ℕ} → (t : PlaceTable) (found : Exploration) (walk : Walk) (next : Option ℕ)
    → IsExploring touch opening limit places t found → Goes found.walk found.walk.tasks.items walk next → next ≡ None → IfNone next (walk.tasks.items ≡ [])
    → IsGraph touch opening t.positions.items (lists_of found.edges found.spans.items) × (length t.positions.items ≤ limit)
    × (walk.has_cycle ≡ false → IsOrderOfPlaces (lists_of found.edges found.spans.items) walk.order.items)
    × (count_by is_new found.walk.visits.items ≡ 0)
finished {touch} {opening} {limit} {places} t found walk next u goes is done =
    let E = lists_of found.edges found.spans.items in
    let g = subst (Goes found.walk found.walk.tasks.items walk) is goes in
    let none = subst (λ n. IfNone n (walk.tasks.items ≡ [])) is done in
    let w = g.walk E u.walk in
    let s = explore_on touch opening limit t.positions.items E found.walk.visits.items walk.visits.items u.so_far g.visits in
    let known = walk_ends E walk.visits.items walk.tasks.items walk.order.items walk.has_cycle w none in
    let all = explored_all touch opening limit t.positions.items E E walk.visits.items s known refl in (
      all.0,
      all.1,
      walk_orders E walk.visits.items walk.tasks.items walk.order.items walk.has_cycle w none (s.seen ∙ sym s.beside),
      sym g.visits.many ∙ none_new walk.visits.items known,
    )

-- the edges that were listed last, as the list of a place
pub put_lists : (edges after : List Edge) (spans : List Span) (span : Span) (p first end : ℕ) → AreWithin (length edges) spans
    → after ≡ edges ++ drop (length edges) after → span ≡ record { start = first; end = end } → first ≡ length edges → end ≡ length after
    → (lists_of after (set spans p span) ≡ set (lists_of edges spans) p (drop (length edges) after)) × AreWithin (length after) (set spans p span)
put_lists edges after spans span p first end within behind is from to =
    let from' = ap (λ (s : Span). s.start) is ∙ from in
    let to' = ap (λ (s : Span). s.end) is ∙ to in
    let more = drop (length edges) after in (
      lists_put edges more after spans (set spans p span) span p within behind refl from' to',
      within_put edges more after spans (set spans p span) span p within behind refl from' to',
    )

pub edges_lead : (positions : List ℕ) (moves : List LocalMove) (es : List Edge) → AreEdges positions moves es → (e : Edge) → Contains es e
    → e.next < length positions
edges_lead positions moves es (long, each) e (k, lt, at) =
    let none : LocalMove = record { colour = e.colour; place = 0; next = 0; taken = 0 } in
    let inside : k < length moves = omega (arith, lt, long) in
    let w = each k (get_or moves k none) e lt (get_or_default moves k (get_or moves k none) none inside) at in
    w.inside

-- the place is entered
module _ {touch : List Touch} {opening : List Cell} {limit : ℕ} (positions after : List ℕ) (E put E' : List (List Edge)) (first walk : Walk)
    (still : List Visit) (p count : ℕ) (es : List Edge) (moves : List LocalMove) (w : Entering touch opening limit positions E first walk p)
    (x : AddsPositions positions moves after) (linked : AreEdges after moves es) (is : put ≡ set E p es) (full : count ≡ length after)
    (a : AreAwaited put walk.visits.items count E' still) where
  longer : length positions ≤ length after
  longer = omega (arith, ap length x.appended, length-append positions x.more)

  awaited : AreAwaited (set E p es) walk.visits.items (length after) E' still
  awaited = subst (λ n. AreAwaited (set E p es) walk.visits.items n E' still) full (subst (λ l. AreAwaited l walk.visits.items count E' still) is a)

  pub still_as_many : length still ≡ length after
  still_as_many = omega (arith, awaited.seen, length-set E p es, w.so_far.beside, w.so_far.seen)

  pub inside_still : p < length still
  inside_still = omega (arith, still_as_many, longer, w.inside)

  pub one_less : (visits : List Visit) → visits ≡ set still p OnPath
      → count_by is_new visits + 1 + length positions ≡ count_by is_new walk.visits.items + length after
  one_less visits entered =
      let less = one_new_less still p inside_still (awaited.known p ∙ w.new) in
      omega (arith, ap (count_by is_new) entered, less, awaited.many, length-set E p es, w.so_far.beside)

  pub walk_entered : (visits : List Visit) (tasks : List Task) (order : List ℕ) (cycle : Bool) → visits ≡ set still p OnPath
      → AreTargets still es (walk.tasks.items ++ Leave p ∷ []) tasks → order ≡ walk.order.items → cycle ≡ walk.has_cycle
      → IsWalk E' visits tasks order cycle
  walk_entered visits tasks order cycle put_there targets same_order same_cycle =
      let on_path = targets_still still (set still p OnPath) es _ _ (placed_still still p (awaited.known p ∙ w.new)) targets in
      let done = enter_walk E E' walk.visits.items still walk.tasks.items tasks p es walk.order.items (length after)
      (omega (arith, w.inside, w.so_far.seen)) w.new (w.so_far.beside ∙ sym w.so_far.seen) awaited (omega (arith, longer, w.so_far.seen)) on_path
      (edges_lead after moves es linked)
      (λ i late lt. added_target positions after moves es x linked i (omega (arith, late, w.so_far.seen)) lt) walk.has_cycle w.goes_on in
      rw (put_there, same_order, same_cycle) done

-- the edges of the place that is entered next were listed, it has its span, and is on the path
module _ {touch : List Touch} {opening : List Cell} {limit places : ℕ} (t : PlaceTable) (found now : Exploration) (walk opened : Walk) (next : Option ℕ)
    (p : ℕ) (u : IsExploring touch opening limit places t found) (goes : Goes found.walk found.walk.tasks.items walk next) (is : next ≡ Some p)
    (o : IsOpened p walk opened) (after : List ℕ) (moves : List LocalMove)
    (x : AddsPositions t.positions.items moves after) (linked : AreEdges after moves (drop (length found.edges) now.edges))
    (n : AreNoted (length after) (drop (length found.edges) now.edges) (record { edges = found.edges; spans = found.spans; walk = opened }) now)
    (spans : List Span) (span : Span) (first end : ℕ) (put : spans ≡ set now.spans.items p span) (stands : span ≡ record { start = first; end = end })
    (from : first ≡ length found.edges) (to : end ≡ length now.edges) (visits : List Visit) (on : visits ≡ set now.walk.visits.items p OnPath) where
  abbrev pub lists_before : List (List Edge)
  lists_before = lists_of found.edges found.spans.items

  abbrev pub edges_listed : List Edge
  edges_listed = drop (length found.edges) now.edges

  w : Entering touch opening limit t.positions.items lists_before found.walk walk p
  w = entering t found walk next p u goes is

  listed : (lists_of now.edges (set now.spans.items p span) ≡ set (lists_of found.edges now.spans.items) p edges_listed)
      × AreWithin (length now.edges) (set now.spans.items p span)
  listed = put_lists found.edges now.edges now.spans.items span p first end (n.within (length found.edges) u.within) n.edges stands from to

  kept : length t.positions.items ≤ length after
  kept = omega (arith, ap length x.appended, length-append t.positions.items x.more)

  pub awaits : AreAwaited (set lists_before p edges_listed) walk.visits.items (length after) (lists_of now.edges spans) now.walk.visits.items
  awaits =
      subst (λ l. AreAwaited (set lists_before p edges_listed) walk.visits.items (length after) l now.walk.visits.items) (sym (ap (lists_of now.edges) put ∙ listed.0))
      (awaited_put lists_before (lists_of found.edges now.spans.items) walk.visits.items now.walk.visits.items p (length after) edges_listed
      (subst (λ v. AreAwaited lists_before v (length after) (lists_of found.edges now.spans.items) now.walk.visits.items) o.same.visits (n.awaited found.edges))
      (omega (arith, w.inside, w.so_far.beside)) (omega (arith, kept, w.so_far.beside)))

  pub within_now : AreWithin (length now.edges) spans
  within_now = subst (AreWithin (length now.edges)) (sym put) listed.1

  pub has_span : p < length now.spans.items
  has_span = omega (arith, noted_spans (length after) edges_listed _ now n, kept, w.inside)

  pub has_visit : p < length now.walk.visits.items
  has_visit = inside_still t.positions.items after lists_before (set lists_before p edges_listed) (lists_of now.edges spans) found.walk walk now.walk.visits.items p (length after) edges_listed moves w x
      linked refl refl awaits

  pub less_now : count_by is_new visits + 1 + length t.positions.items ≡ count_by is_new walk.visits.items + length after
  less_now = one_less t.positions.items after lists_before (set lists_before p edges_listed) (lists_of now.edges spans) found.walk walk now.walk.visits.items p (length after) edges_listed moves w x
      linked refl refl awaits visits on

  pub walk_now : IsWalk (lists_of now.edges spans) visits now.walk.tasks.items now.walk.order.items now.walk.has_cycle
  walk_now =
      walk_entered t.positions.items after lists_before (set lists_before p edges_listed) (lists_of now.edges spans) found.walk walk now.walk.visits.items
      p (length after) edges_listed moves w x linked refl refl awaits visits now.walk.tasks.items now.walk.order.items now.walk.has_cycle on
      (subst (λ l. AreTargets now.walk.visits.items edges_listed l now.walk.tasks.items) o.tasks n.targets)
      (n.order ∙ o.same.order) (n.has_cycle ∙ o.same.has_cycle)

-- a walk that has entered no place yet
begin_order : (E : List (List Edge)) (visits : List Visit) → ((i : ℕ) → visit_at visits i ≡ New) → Ordering E visits (Enter 0 ∷ []) []
begin_order E visits all = record {
  on_path = λ i on. absurd (new_apart _ (all i) on);
  not_new = λ k i e. absurd (none_left k i e);
  ahead = λ k i e at. absurd (none_left k i at);
  placed = λ i done. absurd (new_placed _ (all i) done);
  of_order = λ i among. absurd (omega (arith, among.1));
  once = λ i j d lt short. absurd (omega (arith, short));
  ends_first = λ k e lt. absurd (omega (arith, lt));
}
  where
    none_left : (k i : ℕ) → task_at (Enter 0 ∷ []) k ≡ Leave i → ⊥
    none_left zero i e = other_task (Enter 0) 0 i refl e
    none_left (suc k) i e = other_task (task_at (Enter 0 ∷ []) (suc k)) 0 i (get_or_past (Enter 0 ∷ []) (suc k) (Enter 0) (omega arith)) e

pub begin_walk : (E none : List (List Edge)) (w : Walk) (visits : List Visit) (limit start place count : ℕ) (first positions : List ℕ) → IsBegun w
    → none ≡ [] → first ≡ [] → Placed first start limit positions (Ok place) → count ≡ length positions
    → AreAwaited none w.visits.items count E visits → IsWalk E visits w.tasks.items w.order.items w.has_cycle
begin_walk E none w visits limit start place count first positions b no_lists no_first p full a = record {
  inside = λ t among. only t (subst (λ l. Contains l t) b.tasks among);
  new = λ i lt new. let zero_is : 0 ≡ i = omega (arith, lt, long) in
      subst (λ l. Contains l (Enter i)) (sym b.tasks) (subst (λ j. Contains (Enter 0 ∷ []) (Enter j)) zero_is (Contains-push [] (Enter 0)));
  ordering = λ h. rw (b.tasks, b.order) (begin_order E visits (λ i. a.known i ∙ ap (λ l. visit_at l i) b.visits));
}
  where
    one : Grows first start positions → length positions ≡ 1
    one (inl same) = absurd (omega (arith, ap length same, ap length no_first, p.1))
    one (inr (is, new)) = omega (arith, ap length is, length_push first start, ap length no_first)

    long : length visits ≡ 1
    long = omega (arith, a.seen, ap length no_lists, ap length b.visits, full, one p.0)

    only : (t : Task) → Contains (Enter 0 ∷ []) t → place_of t < length visits
    only t among = elim (Contains-push_cases [] (Enter 0) t among) [
      | inl none ↦ absurd (omega (arith, none.1))
      | inr e ↦ subst (λ u. place_of u < length visits) e (omega (arith, long))
    ]

-- what exploring gives
pub graph_walked : (touch : List Touch) (opening : List Cell) (limit : ℕ) (positions : List ℕ) (edges edges' : List (List Edge)) (walk : Walk)
    (order : Option (Vec ℕ Global)) → edges' ≡ edges → IfSome order (λ o. (walk.has_cycle ≡ false) × (o.items ≡ walk.order.items))
    → IsGraph touch opening positions edges → length positions ≤ limit → (walk.has_cycle ≡ false → IsOrderOfPlaces edges walk.order.items)
    → IsGraph touch opening positions edges' × (length positions ≤ limit) × IfSome order (λ o. IsOrderOfPlaces edges' o.items)
graph_walked touch opening limit positions edges edges' walk order is from g few ordered =
    rw is (g, few, kept order from)
  where
    kept : (order : Option (Vec ℕ Global)) → IfSome order (λ o. (walk.has_cycle ≡ false) × (o.items ≡ walk.order.items))
        → IfSome order (λ o. IsOrderOfPlaces edges o.items)
    kept None h = tt
    kept (Some o) (none, same) = subst (IsOrderOfPlaces edges) (sym same) (ordered none)
