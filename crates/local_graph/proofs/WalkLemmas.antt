-- A walk through places as they are found.
use Rattle.std.proofs.Common.{◌≡◌, ◌≢◌, ℕ, ◌+◌, ◌-◌, ◌<◌, ◌≤◌, ◌⊎◌, inl, inr, suc, arith, refl, sym, ap, ◌∙◌, Bool, true, false, cond, List, [], ◌∷◌, ◌++◌, length, length-append, get_or, set, subst, append_assoc, Option, None, Some}
use Rattle.std.specs.List.{Contains, count_by}
use Rattle.std.proofs.lemmas.Bool.{cases_eq, cases_lt, both_ways}
use Rattle.std.proofs.Math.Seq.{get_or-append_seam}
use Rattle.std.proofs.lemmas.List.{length_push, length-set, get_or-set_same, get_or-set_other, get_or_past, get_or_push, get_or_append_left, get_or-append-add, get_or_default}
use Rattle.std.proofs.lemmas.List.Elements.{Contains-get_or, Contains-push, Contains-push_cases, Contains-append_cases, Contains-append_left, Contains-append_right}
use Rattle.std.proofs.lemmas.List.Quantifiers.{all_pairs_push}
use Rattle.std.proofs.lemmas.List.Sums.{sum_by-set, sum_by-cons}
use Rattle.local_play.specs.declared.local_move.LocalMove.{LocalMove}
use Rattle.local_graph.specs.declared.graph.Edge.{Edge}
use Rattle.local_graph.specs.declared.search.Visit.{Visit}
use Rattle.local_graph.specs.declared.search.Visit.TheVariants.{New, OnPath, Placed}
use Rattle.local_graph.specs.declared.walk.Task.{Task}
use Rattle.local_graph.specs.declared.walk.Task.TheVariants.{Enter, Leave}
use Rattle.local_graph.specs.declared.walk.Walk.{Walk}
use Rattle.local_graph.specs.LocalGraph.{AreEdges, IsOrderOfPlaces}
use Rattle.local_graph.specs.inner.Found.{AddsPositions, AreAwaited}
use Rattle.local_graph.specs.inner.Graph.{edges_at, no_edge}
use Rattle.local_graph.specs.inner.Searching.{visit_at, is_new}
use Rattle.local_graph.specs.inner.Walk.{place_of, task_at, IsAbove, Ordering, AreInside, IsWalk, WalksWith, KeepsNew, Goes, AreTargets}
use Rattle.local_graph.proofs.OrderLemmas.{same_place}
use Rattle.local_graph.proofs.SearchLemmas.{known_inside, new_apart, new_placed, path_placed}

pub other_task : (t : Task) (i j : ℕ) → t ≡ Enter i → t ≡ Leave j → ⊥
other_task t i j a b = cc

same_leave : (t : Task) (i j : ℕ) → t ≡ Leave i → t ≡ Leave j → i ≡ j
same_leave t i j a b = ap place_of (sym a ∙ b)

-- a place that is left is that of a task
task_inside : (tasks : List Task) (k i : ℕ) → task_at tasks k ≡ Leave i → k < length tasks
task_inside tasks k i e = elim (cases_lt k (length tasks)) as (λ _. k < length tasks) [
  | inl lt ↦ lt
  | inr le ↦ absurd (other_task _ 0 i (get_or_past tasks k (Enter 0) le) e)
]

-- no place is new where none of them is
pub none_new : (visits : List Visit) → ((i : ℕ) → i < length visits → visit_at visits i ≢ New) → count_by is_new visits ≡ 0
none_new [] none = refl
none_new (New ∷ vs) none = absurd (none 0 (omega arith) refl)
none_new (OnPath ∷ vs) none =
    omega (arith, sum_by-cons (λ v. cond (is_new v) 1 0) OnPath vs, none_new vs (λ i lt. none (suc i) (omega (arith, lt))))
none_new (Placed ∷ vs) none =
    omega (arith, sum_by-cons (λ v. cond (is_new v) 1 0) Placed vs, none_new vs (λ i lt. none (suc i) (omega (arith, lt))))

-- a new place on the path is new no more
pub one_new_less : (visits : List Visit) (i : ℕ) → i < length visits → visit_at visits i ≡ New
    → count_by is_new (set visits i OnPath) + 1 ≡ count_by is_new visits
one_new_less visits i inside new =
    let count = sum_by-set (λ v. cond (is_new v) 1 0) visits i OnPath New inside in
    let count' = rw new at count in
    omega (arith, count')

set_other : (visits : List Visit) (p : ℕ) (v : Visit) (i : ℕ) → i ≢ p → visit_at (set visits p v) i ≡ visit_at visits i
set_other visits p v i ne = rw get_or-set_other refl

pub keeps_all : (visits : List Visit) → KeepsNew visits visits
keeps_all visits = record { long = refl; new = λ i new. new; many = refl }

pub keeps_more : (a b c : List Visit) → KeepsNew a b → KeepsNew b c → KeepsNew a c
keeps_more a b c x y = record { long = y.long ∙ x.long; new = λ i new. y.new i (x.new i new); many = y.many ∙ x.many }

-- a place on the path that is placed
pub keeps_placed : (visits : List Visit) (p : ℕ) → visit_at visits p ≡ OnPath → KeepsNew visits (set visits p Placed)
keeps_placed visits p on =
    let inside = known_inside visits p (λ e. new_apart _ e on) in
    let count = sum_by-set (λ v. cond (is_new v) 1 0) visits p Placed New inside in
    let count' = rw on at count in
    record {
      long = length-set visits p Placed;
      new = λ i new. elim (cases_eq i p) [
        | inl e ↦ absurd (new_apart _ (subst (λ x. visit_at visits x ≡ New) e new) on)
        | inr ne ↦ set_other visits p Placed i ne ∙ new
      ];
      many = omega (arith, count');
    }

-- the last task is taken
module _ (E : List (List Edge)) (visits : List Visit) (front : List Task) (t : Task) (order : List ℕ) where
  inside_front : AreInside visits (front ++ t ∷ []) → AreInside visits front
  inside_front inside u among = inside u (Contains-append_left front (t ∷ []) u among)

  new_front : (has_cycle : Bool) → IsWalk E visits (front ++ t ∷ []) order has_cycle → ((i : ℕ) → t ≡ Enter i → visit_at visits i ≢ New)
      → (i : ℕ) → i < length visits → visit_at visits i ≡ New → Contains front (Enter i)
  new_front has_cycle w known i lt new = elim (Contains-push_cases front t (Enter i) (w.new i lt new)) [
    | inl old ↦ old
    | inr e ↦ absurd (known i e new)
  ]

  at_front : (k i : ℕ) → task_at front k ≡ Leave i → task_at (front ++ t ∷ []) k ≡ Leave i
  at_front k i e = get_or_append_left front (t ∷ []) (Enter 0) k (task_inside front k i e) ∙ e

  -- what stands above among the tasks so far, without the last
  above_front : (k i : ℕ) → IsAbove (front ++ t ∷ []) k i → IsAbove front k i ⊎ (place_of t ≡ i)
  above_front k i (j, more, lt, at) = elim (cases_lt j (length front)) [
    | inl less ↦ inl (j, more, less, ap place_of (sym (get_or_append_left front (t ∷ []) (Enter 0) j less)) ∙ at)
    | inr le ↦
        let last : length front ≡ j = omega (arith, le, lt, length_push front t) in
        inr (ap place_of (sym (get_or_push front t (Enter 0) j last)) ∙ at)
  ]

  -- a task that changes nothing, since its place is placed
  pub skip_task : (has_cycle : Bool) → IsWalk E visits (front ++ t ∷ []) order has_cycle → visit_at visits (place_of t) ≡ Placed
      → (p : ℕ) → t ≡ Enter p → IsWalk E visits front order has_cycle
  skip_task has_cycle w here p is = record {
    inside = inside_front w.inside;
    new = new_front has_cycle w (λ i e new. new_placed _ new (subst (λ u. visit_at visits (place_of u) ≡ Placed) e here));
    ordering = λ none. let o = w.ordering none in record {
      on_path = λ i on. elim (Contains-push_cases front t (Leave i) (o.on_path i on)) [
        | inl old ↦ old
        | inr e ↦ absurd (other_task t p i is e)
      ];
      not_new = λ k i e. o.not_new k i (at_front k i e);
      ahead = λ k i e at among. elim (o.ahead k i e (at_front k i at) among) [
        | inl done ↦ inl done
        | inr above ↦ elim (above_front k e.next above) [
          | inl old ↦ inr old
          | inr same ↦ inl (subst (λ x. visit_at visits x ≡ Placed) same here)
        ]
      ];
      placed = o.placed;
      of_order = o.of_order;
      once = o.once;
      ends_first = o.ends_first;
    };
  }

  -- a cycle was met, and there is no order
  pub no_order : (has_cycle now : Bool) → IsWalk E visits (front ++ t ∷ []) order has_cycle → ((i : ℕ) → t ≡ Enter i → visit_at visits i ≢ New)
      → now ≡ true → IsWalk E visits front order now
  no_order has_cycle now w known is = record {
    inside = inside_front w.inside;
    new = new_front has_cycle w known;
    ordering = λ none. absurd (both_ways now none is);
  }

-- a place on the path is left
module _ (E : List (List Edge)) (visits : List Visit) (front : List Task) (p : ℕ) (order : List ℕ) (on : visit_at visits p ≡ OnPath) where
  here_inside : p < length visits
  here_inside = known_inside visits p (λ e. new_apart _ e on)

  set_here : visit_at (set visits p Placed) p ≡ Placed
  set_here = get_or-set_same visits p Placed New here_inside

  stays_new : (i : ℕ) → visit_at (set visits p Placed) i ≡ New → visit_at visits i ≡ New
  stays_new i new = elim (cases_eq i p) [
    | inl e ↦ absurd (new_placed _ new (rw e set_here))
    | inr ne ↦ sym (set_other visits p Placed i ne) ∙ new
  ]

  kept : (i : ℕ) → visit_at visits i ≡ Placed → visit_at (set visits p Placed) i ≡ Placed
  kept i done = elim (cases_eq i p) [ inl e ↦ rw e set_here | inr ne ↦ set_other visits p Placed i ne ∙ done ]

  left_order : Ordering E visits (front ++ Leave p ∷ []) order → Ordering E (set visits p Placed) front (order ++ p ∷ [])
  left_order o = record {
    on_path = λ i path. elim (cases_eq i p) [
      | inl e ↦ absurd (path_placed _ path (rw e set_here))
      | inr ne ↦ elim (Contains-push_cases front (Leave p) (Leave i) (o.on_path i (sym (set_other visits p Placed i ne) ∙ path))) [
        | inl old ↦ old
        | inr e ↦ absurd (ne (same_leave (Leave p) i p (sym (sym e)) refl))
      ]
    ];
    not_new = λ k i e new. o.not_new k i (at_front E visits front (Leave p) order k i e) (stays_new i new);
    ahead = λ k i e at among. elim (o.ahead k i e (at_front E visits front (Leave p) order k i at) among) [
      | inl done ↦ inl (kept e.next done)
      | inr above ↦ elim (above_front E visits front (Leave p) order k e.next above) [
        | inl old ↦ inr old
        | inr same ↦ inl (subst (λ x. visit_at (set visits p Placed) x ≡ Placed) same set_here)
      ]
    ];
    placed = λ i done. elim (cases_eq i p) [
      | inl e ↦ rw e (Contains-push order p)
      | inr ne ↦ Contains-append_left order (p ∷ []) i (o.placed i (sym (set_other visits p Placed i ne) ∙ done))
    ];
    of_order = λ i among. elim (Contains-push_cases order p i among) [
      | inl old ↦ kept i (o.of_order i old)
      | inr e ↦ subst (λ x. visit_at (set visits p Placed) x ≡ Placed) e set_here
    ];
    once = all_pairs_push (λ a b. a ≢ b) order p o.once
        (λ k d lt e. path_placed _ on (subst (λ x. visit_at visits x ≡ Placed) e (o.of_order (get_or order k d) (Contains-get_or order k d lt))));
    ends_first = λ k e lt among. elim (cases_lt k (length order)) [
      | inl less ↦
          let old = get_or_append_left order (p ∷ []) 0 k less in
          let w = o.ends_first k e less (subst (λ x. Contains (edges_at E x) e) old among) in
          (w.0, w.1, get_or_append_left order (p ∷ []) 0 w.0 (omega (arith, w.1, less)) ∙ w.2)
      | inr le ↦
          let last : length order ≡ k = omega (arith, le, lt, length_push order p) in
          let new = get_or_push order p 0 k last in
          leads k le e (subst (λ x. Contains (edges_at E x) e) new among)
    ];
  }
    where
      leads : (k : ℕ) → length order ≤ k → (e : Edge) → Contains (edges_at E p) e → (j : ℕ) × (j < k) × (get_or (order ++ p ∷ []) j 0 ≡ e.next)
      leads k le e among =
          let whole = get_or-append_seam front (Leave p) [] (Enter 0) in
          let done : visit_at visits e.next ≡ Placed = elim (o.ahead (length front) p e whole among) [
            | inl done ↦ done
            | inr (j, more, lt, at) ↦ absurd (omega (arith, more, lt, length_push front (Leave p)))
          ] in
          let w = o.placed e.next done in
          let is : get_or order w.0 0 ≡ e.next = get_or_default order w.0 0 e.next w.1 ∙ w.2 in
          (w.0, omega (arith, w.1, le), get_or_append_left order (p ∷ []) 0 w.0 w.1 ∙ is)

  pub leave_place : (has_cycle : Bool) → IsWalk E visits (front ++ Leave p ∷ []) order has_cycle
      → IsWalk E (set visits p Placed) front (order ++ p ∷ []) has_cycle
  leave_place has_cycle w = record {
    inside = λ t among. omega (arith, inside_front E visits front (Leave p) order w.inside t among, length-set visits p Placed);
    new = λ i lt new. new_front E visits front (Leave p) order has_cycle w (λ j e. absurd (other_task (Leave p) j p e refl))
        i (omega (arith, lt, length-set visits p Placed)) (stays_new i new);
    ordering = λ none. left_order (w.ordering none);
  }

-- the same in the words of the code
at_place : (visits : List Visit) (p : ℕ) (v w : Visit) → p < length visits → v ≡ get_or visits p v → v ≡ w → visit_at visits p ≡ w
at_place visits p v w inside at is = get_or_default visits p New v inside ∙ sym at ∙ is

module _ (before after : Walk) where
  pub goes_left : (p : ℕ) (v : Visit) → p < length before.visits.items → v ≡ get_or before.visits.items p v → v ≡ OnPath
      → after.visits.items ≡ set before.visits.items p Placed → after.tasks.items ≡ before.tasks.items
      → after.order.items ≡ before.order.items ++ p ∷ [] → after.has_cycle ≡ before.has_cycle
      → Goes before (before.tasks.items ++ Leave p ∷ []) after None
  goes_left p v inside at is visits tasks order cycle =
      let on = at_place before.visits.items p v OnPath inside at is in
      record {
        visits = rw visits (keeps_placed before.visits.items p on);
        new = tt;
        walk = λ E w. rw (visits, tasks, order, cycle) (leave_place E before.visits.items before.tasks.items p before.order.items on before.has_cycle w);
      }

  pub goes_without : (t : Task) → ((i : ℕ) → t ≡ Enter i → visit_at before.visits.items i ≢ New)
      → after.visits.items ≡ before.visits.items → after.tasks.items ≡ before.tasks.items
      → after.order.items ≡ before.order.items → after.has_cycle ≡ true
      → Goes before (before.tasks.items ++ t ∷ []) after None
  goes_without t known visits tasks order cycle = record {
    visits = rw visits (keeps_all before.visits.items);
    new = tt;
    walk = λ E w. rw (visits, tasks, order)
        (no_order E before.visits.items before.tasks.items t before.order.items before.has_cycle after.has_cycle w known cycle);
  }

-- what a task comes to
pub goes_cycle : (before after : Walk) (p : ℕ) (v : Visit) → p < length before.visits.items → v ≡ get_or before.visits.items p v → v ≡ OnPath
    → after.visits.items ≡ before.visits.items → after.tasks.items ≡ before.tasks.items
    → after.order.items ≡ before.order.items → after.has_cycle ≡ true
    → Goes before (before.tasks.items ++ Enter p ∷ []) after None
goes_cycle before after p v inside at is visits tasks order cycle =
    let on = at_place before.visits.items p v OnPath inside at is in
    goes_without before after (Enter p)
    (λ i e new. new_apart _ (subst (λ x. visit_at before.visits.items x ≡ New) (ap place_of (sym e)) new) on) visits tasks order cycle

pub goes_past : (w : Walk) (p : ℕ) (v : Visit) → p < length w.visits.items → v ≡ get_or w.visits.items p v → v ≡ Placed
    → Goes w (w.tasks.items ++ Enter p ∷ []) w None
goes_past w p v inside at is =
    let done = at_place w.visits.items p v Placed inside at is in
    record {
      visits = keeps_all w.visits.items;
      new = tt;
      walk = λ E h. skip_task E w.visits.items w.tasks.items (Enter p) w.order.items w.has_cycle h done p refl;
    }

pub goes_new : (w : Walk) (p : ℕ) (v : Visit) → p < length w.visits.items → v ≡ get_or w.visits.items p v → v ≡ New
    → Goes w (w.tasks.items ++ Enter p ∷ []) w (Some p)
goes_new w p v inside at is = record {
  visits = keeps_all w.visits.items;
  new = at_place w.visits.items p v New inside at is;
  walk = λ E h. h;
}

-- one task after another, where it was taken from the others
pub goes_more : (first : Walk) (tasks : List Task) (between popped : Walk) (whole : List Task) (after : Walk) (found : Option ℕ)
    → Goes first tasks between None → popped.visits.items ≡ between.visits.items → popped.order.items ≡ between.order.items
    → popped.has_cycle ≡ between.has_cycle → between.tasks.items ≡ whole → Goes popped whole after found → Goes first tasks after found
goes_more first tasks between popped whole after found x visits order cycle e y = record {
  visits = keeps_more first.visits.items between.visits.items after.visits.items x.visits (subst (λ l. KeepsNew l after.visits.items) visits y.visits);
  new = y.new;
  walk = λ E w. y.walk E (rw (visits, order, cycle) (subst (WalksWith E between) e (x.walk E w)));
}

pub goes_same : (first : Walk) (tasks : List Task) (between after : Walk)
    → Goes first tasks between None → after.visits.items ≡ between.visits.items → after.order.items ≡ between.order.items
    → after.has_cycle ≡ between.has_cycle → after.tasks.items ≡ between.tasks.items → Goes first tasks after None
goes_same first tasks between after x visits order cycle e = record {
  visits = subst (KeepsNew first.visits.items) (sym visits) x.visits;
  new = tt;
  walk = λ E w. rw (visits, order, cycle, e) (x.walk E w);
}

pub goes_start : (w : Walk) → Goes w w.tasks.items w None
goes_start w = record { visits = keeps_all w.visits.items; new = tt; walk = λ E h. h }

pub last_inside : (visits : List Visit) (whole front : List Task) (t : Task) → AreInside visits whole → whole ≡ front ++ t ∷ []
    → place_of t < length visits
last_inside visits whole front t inside ends = inside t (subst (λ l. Contains l t) (sym ends) (Contains-push front t))

pub still_inside : (visits visits' : List Visit) (whole front tasks : List Task) (t : Task) → AreInside visits whole → whole ≡ front ++ t ∷ []
    → tasks ≡ front → length visits' ≡ length visits → AreInside visits' tasks
still_inside visits visits' whole front tasks t inside ends is long u among =
    let old = inside u (subst (λ l. Contains l u) (sym ends) (Contains-append_left front (t ∷ []) u (subst (λ l. Contains l u) is among))) in
    omega (arith, old, long)

-- nothing is left to do: each place is placed
pub walk_ends : (E : List (List Edge)) (visits : List Visit) (tasks : List Task) (order : List ℕ) (has_cycle : Bool)
    → IsWalk E visits tasks order has_cycle → tasks ≡ [] → (i : ℕ) → i < length visits → visit_at visits i ≢ New
walk_ends E visits tasks order has_cycle w none i lt new =
    let h = subst (λ l. Contains l (Enter i)) none (w.new i lt new) in absurd (omega (arith, h.1))

pub walk_orders : (E : List (List Edge)) (visits : List Visit) (tasks : List Task) (order : List ℕ) (has_cycle : Bool)
    → IsWalk E visits tasks order has_cycle → tasks ≡ [] → length visits ≡ length E → has_cycle ≡ false → IsOrderOfPlaces E order
walk_orders E visits tasks order has_cycle w none long no_cycle =
    let o = w.ordering no_cycle in
    record {
      once = o.once;
      inside = λ k lt. let done = o.of_order (get_or order k 0) (Contains-get_or order k 0 lt) in
          let inside = known_inside visits (get_or order k 0) (λ e. new_placed _ e done) in omega (arith, inside, long);
      every = λ i lt. o.placed i (placed o i (omega (arith, lt, long)) (visit_at visits i) refl);
      ends_first = o.ends_first;
    }
  where
    placed : Ordering E visits tasks order → (i : ℕ) → i < length visits → (v : Visit) → visit_at visits i ≡ v → visit_at visits i ≡ Placed
    placed o i lt New is = absurd (walk_ends E visits tasks order has_cycle w none i lt is)
    placed o i lt OnPath is = let h = subst (λ l. Contains l (Leave i)) none (o.on_path i is) in absurd (omega (arith, h.1))
    placed o i lt Placed is = is

-- where edges lead, up to a number
-- one edge more, whose target is placed or entered behind the tasks
module _ (visits : List Visit) (es : List Edge) (e : Edge) (before so_far : List Task) (t : AreTargets visits es before so_far) where
  pub target_placed : visit_at visits e.next ≡ Placed → AreTargets visits (es ++ e ∷ []) before so_far
  target_placed done = record {
    more = t.more;
    behind = t.behind;
    only = λ u among. let w = t.only u among in (w.0, Contains-append_left es (e ∷ []) w.0 w.1, w.2);
    each = λ f among. elim (Contains-push_cases es e f among) [
      | inl old ↦ t.each f old
      | inr same ↦ inl (subst (λ x. visit_at visits x.next ≡ Placed) same done)
    ];
  }

  pub target_entered : (after : List Task) → after ≡ so_far ++ Enter e.next ∷ [] → AreTargets visits (es ++ e ∷ []) before after
  target_entered after put = record {
    more = t.more ++ Enter e.next ∷ [];
    behind = put ∙ ap (λ l. l ++ Enter e.next ∷ []) t.behind ∙ append_assoc before t.more (Enter e.next ∷ []);
    only = λ u among. elim (Contains-push_cases t.more (Enter e.next) u among) [
      | inl old ↦ let w = t.only u old in (w.0, Contains-append_left es (e ∷ []) w.0 w.1, w.2)
      | inr same ↦ (e, Contains-push es e, sym same)
    ];
    each = λ f among. elim (Contains-push_cases es e f among) [
      | inl old ↦ elim (t.each f old) [
        | inl done ↦ inl done
        | inr waits ↦ inr (Contains-append_left t.more (Enter e.next ∷ []) (Enter f.next) waits)
      ]
      | inr same ↦ inr (subst (λ x. Contains (t.more ++ Enter e.next ∷ []) (Enter x.next)) same (Contains-push t.more (Enter e.next)))
    ];
  }

-- what is placed stays so
pub targets_still : (visits still : List Visit) (es : List Edge) (before after : List Task)
    → ((i : ℕ) → visit_at visits i ≡ Placed → visit_at still i ≡ Placed) → AreTargets visits es before after → AreTargets still es before after
targets_still visits still es before after kept t = record {
  more = t.more;
  behind = t.behind;
  only = t.only;
  each = λ e among. elim (t.each e among) [
    | inl done ↦ inl (kept e.next done)
    | inr waits ↦ inr waits
  ];
}

-- a new place on the path changes none that is placed
pub placed_still : (visits : List Visit) (p : ℕ) → visit_at visits p ≡ New → (i : ℕ) → visit_at visits i ≡ Placed
    → visit_at (set visits p OnPath) i ≡ Placed
placed_still visits p new i done = elim (cases_eq i p) [
  | inl same ↦ absurd (new_placed _ (ap (visit_at visits) same ∙ new) done)
  | inr ne ↦ set_other visits p OnPath i ne ∙ done
]

-- a place that was added is where an edge leads
pub added_target : (positions after : List ℕ) (moves : List LocalMove) (es : List Edge) → AddsPositions positions moves after
    → AreEdges after moves es → (i : ℕ) → length positions ≤ i → i < length after → (e : Edge) × Contains es e × (e.next ≡ i)
added_target positions after moves es x (long, each) i late lt = elim (x.new (get_or after i 0) (Contains-get_or after i 0 lt)) [
  | inl (k, less, at) ↦
      let first : get_or after k 0 ≡ get_or after i 0 =
      ap (λ l. get_or l k 0) x.appended ∙ get_or_append_left positions x.more 0 k less ∙ get_or_default positions k 0 (get_or after i 0) less ∙ at in
      absurd (x.once k i 0 (omega (arith, less, late)) lt first)
  | inr (m, (k, less, at), is) ↦
      let short : k < length es = omega (arith, less, long) in
      let e = get_or es k no_edge in
      let w = each k m e short at (get_or_default es k e no_edge short) in
      let same = same_place after e.next i x.once w.inside lt (w.next ∙ is) in
      (e, Contains-get_or es k no_edge short, same)
]

-- a new place is entered, whose edges are listed then, and places that they lead to are added
module _ (E E' : List (List Edge)) (visits still : List Visit) (front tasks : List Task) (p : ℕ) (es : List Edge) (order : List ℕ)
    (count : ℕ) (inside : p < length visits) (new : visit_at visits p ≡ New) (beside : length E ≡ length visits)
    (a : AreAwaited (set E p es) visits count E' still) (more : length visits ≤ count)
    (targets : AreTargets (set still p OnPath) es (front ++ Leave p ∷ []) tasks)
    (leads : (e : Edge) → Contains es e → e.next < count)
    (added : (i : ℕ) → length visits ≤ i → i < count → (e : Edge) × Contains es e × (e.next ≡ i)) where
  still_long : length still ≡ count
  still_long = omega (arith, a.seen, length-set E p es, beside)

  on_here : visit_at (set still p OnPath) p ≡ OnPath
  on_here = get_or-set_same still p OnPath New (omega (arith, still_long, inside, more))

  visit_elsewhere : (i : ℕ) → i ≢ p → visit_at (set still p OnPath) i ≡ visit_at visits i
  visit_elsewhere i ne = set_other still p OnPath i ne ∙ a.known i

  still_placed : (i : ℕ) → visit_at visits i ≡ Placed → visit_at (set still p OnPath) i ≡ Placed
  still_placed i done = elim (cases_eq i p) [
    | inl e ↦ absurd (new_placed _ (subst (λ x. visit_at visits x ≡ New) (sym e) new) done)
    | inr ne ↦ visit_elsewhere i ne ∙ done
  ]

  was_new : (i : ℕ) → visit_at (set still p OnPath) i ≡ New → visit_at visits i ≡ New
  was_new i fresh = elim (cases_eq i p) [
    | inl e ↦ subst (λ x. visit_at visits x ≡ New) (sym e) new
    | inr ne ↦ sym (visit_elsewhere i ne) ∙ fresh
  ]

  edges_here : edges_at E' p ≡ es
  edges_here = a.lists p ∙ get_or-set_same E p es [] (omega (arith, inside, beside))

  edges_elsewhere : (i : ℕ) → i ≢ p → edges_at E' i ≡ edges_at E i
  edges_elsewhere i ne = a.lists i ∙ other i ne
    where
      other : (i : ℕ) → i ≢ p → get_or (set E p es) i [] ≡ get_or E i []
      other i ne = rw get_or-set_other refl

  whole : tasks ≡ front ++ Leave p ∷ targets.more
  whole = targets.behind ∙ append_assoc front (Leave p ∷ []) targets.more

  whole_long : length tasks ≡ length front + 1 + length targets.more
  whole_long = omega (arith, ap length targets.behind, length-append (front ++ Leave p ∷ []) targets.more, length_push front (Leave p))

  at_first : (k : ℕ) → k < length front → task_at tasks k ≡ task_at front k
  at_first k lt = ap (λ l. task_at l k) whole ∙ get_or_append_left front (Leave p ∷ targets.more) (Enter 0) k lt

  at_here : task_at tasks (length front) ≡ Leave p
  at_here = ap (λ l. task_at l (length front)) whole ∙ get_or-append_seam front (Leave p) targets.more (Enter 0)

  at_more : (j : ℕ) → task_at tasks (length front + 1 + j) ≡ task_at targets.more j
  at_more j =
      ap (λ l. task_at l (length front + 1 + j)) targets.behind
      ∙ ap (λ n. task_at ((front ++ Leave p ∷ []) ++ targets.more) (n + j)) (sym (length_push front (Leave p)))
      ∙ get_or-append-add (front ++ Leave p ∷ []) targets.more j (Enter 0)

  -- a task that leaves a place is one of the tasks before, or leaves this one
  leaving : (k i : ℕ) → task_at tasks k ≡ Leave i → ((k < length front) × (task_at front k ≡ Leave i)) ⊎ ((k ≡ length front) × (i ≡ p))
  leaving k i e = elim (cases_lt k (length front)) [
    | inl lt ↦ inl (lt, sym (at_first k lt) ∙ e)
    | inr le ↦ elim (cases_eq k (length front)) [
      | inl same ↦ inr (same, same_leave (task_at tasks k) i p e (ap (task_at tasks) same ∙ at_here))
      | inr ne ↦
          let j = k - (length front + 1) in
          let far : length front + 1 + j ≡ k = omega (arith, le, ne) in
          let its = sym (at_more j) ∙ ap (task_at tasks) far ∙ e in
          let lt = task_inside targets.more j i its in
          let w = targets.only (task_at targets.more j) (Contains-get_or targets.more j (Enter 0) lt) in
          absurd (other_task _ w.0.next i w.2 its)
    ]
  ]

  among_front : (t : Task) → Contains (front ++ Enter p ∷ []) t → Contains front t ⊎ (Enter p ≡ t)
  among_front t among = Contains-push_cases front (Enter p) t among

  still_front : (t : Task) → Contains front t → Contains tasks t
  still_front t among = subst (λ l. Contains l t) (sym whole) (Contains-append_left front (Leave p ∷ targets.more) t among)

  waits_here : Contains tasks (Leave p)
  waits_here = subst (λ l. Contains l (Leave p)) (sym targets.behind)
      (Contains-append_left (front ++ Leave p ∷ []) targets.more (Leave p) (Contains-push front (Leave p)))

  waits_more : (t : Task) → Contains targets.more t → Contains tasks t
  waits_more t among = subst (λ l. Contains l t) (sym targets.behind) (Contains-append_right (front ++ Leave p ∷ []) targets.more t among)

  enter_inside : AreInside visits (front ++ Enter p ∷ []) → AreInside (set still p OnPath) tasks
  enter_inside first t among =
      let long = length-set still p OnPath in
      elim (Contains-append_cases (front ++ Leave p ∷ []) targets.more t (subst (λ l. Contains l t) targets.behind among)) [
        | inl old ↦ elim (Contains-push_cases front (Leave p) t old) [
          | inl before ↦ let lt = first t (Contains-append_left front (Enter p ∷ []) t before) in omega (arith, lt, long, still_long, more)
          | inr e ↦ subst (λ u. place_of u < length (set still p OnPath)) e (omega (arith, inside, long, still_long, more))
        ]
        | inr late ↦
            let w = targets.only t late in
            let lt = leads w.0 w.1 in
            let lt' : w.0.next < length (set still p OnPath) = omega (arith, lt, long, still_long) in
            subst (λ u. place_of u < length (set still p OnPath)) (sym w.2) lt'
      ]

  enter_new : ((i : ℕ) → i < length visits → visit_at visits i ≡ New → Contains (front ++ Enter p ∷ []) (Enter i))
      → (i : ℕ) → i < length (set still p OnPath) → visit_at (set still p OnPath) i ≡ New → Contains tasks (Enter i)
  enter_new first i lt fresh = elim (cases_lt i (length visits)) [
    | inl old ↦ elim (among_front (Enter i) (first i old (was_new i fresh))) [
      | inl waits ↦ still_front (Enter i) waits
      | inr e ↦
          let same : p ≡ i = ap place_of e in
          absurd (new_apart _ fresh (subst (λ x. visit_at (set still p OnPath) x ≡ OnPath) same on_here))
    ]
    | inr late ↦
        let w = added i late (omega (arith, lt, length-set still p OnPath, still_long)) in
        elim (targets.each w.0 w.1) [
          | inl done ↦ absurd (new_placed _ fresh (subst (λ x. visit_at (set still p OnPath) x ≡ Placed) w.2 done))
          | inr waits ↦ subst (λ x. Contains tasks (Enter x)) w.2 (waits_more (Enter w.0.next) waits)
        ]
  ]

  enter_order : Ordering E visits (front ++ Enter p ∷ []) order → Ordering E' (set still p OnPath) tasks order
  enter_order o = record {
    on_path = λ i on. elim (cases_eq i p) [
      | inl e ↦ rw e waits_here
      | inr ne ↦ elim (among_front (Leave i) (o.on_path i (sym (visit_elsewhere i ne) ∙ on))) [
        | inl waits ↦ still_front (Leave i) waits
        | inr e ↦ absurd (other_task (Leave i) p i (sym e) refl)
      ]
    ];
    not_new = λ k i e fresh. elim (leaving k i e) [
      | inl (lt, first) ↦ o.not_new k i (whole_at k lt ∙ first) (was_new i fresh)
      | inr (at, same) ↦ new_apart _ fresh (subst (λ x. visit_at (set still p OnPath) x ≡ OnPath) (sym same) on_here)
    ];
    ahead = λ k i e at among. elim (leaving k i at) [
      | inl (lt, first) ↦
          let known = o.not_new k i (whole_at k lt ∙ first) in
          let among' = subst (λ l. Contains l e) (edges_elsewhere i (λ same. known (subst (λ x. visit_at visits x ≡ New) (sym same) new))) among in
          elim (o.ahead k i e (whole_at k lt ∙ first) among') [
            | inl done ↦ inl (still_placed e.next done)
            | inr above ↦ inr (above_still k e.next lt above)
          ]
      | inr (same, its) ↦ elim (targets.each e (subst (λ l. Contains l e) edges_here (subst (λ x. Contains (edges_at E' x) e) its among))) [
        | inl done ↦ inl done
        | inr (j, lt, is) ↦
            let there : task_at targets.more j ≡ Enter e.next = get_or_default targets.more j (Enter 0) (Enter e.next) lt ∙ is in
            inr (length front + 1 + j, omega (arith, same), omega (arith, lt, whole_long), ap place_of (at_more j ∙ there))
      ]
    ];
    placed = λ i done. o.placed i (was_placed i done);
    of_order = λ i among. still_placed i (o.of_order i among);
    once = o.once;
    ends_first = λ k e lt among.
        let done = o.of_order (get_or order k 0) (Contains-get_or order k 0 lt) in
        let other = edges_elsewhere (get_or order k 0) (λ same. new_placed _ (subst (λ x. visit_at visits x ≡ New) (sym same) new) done) in
        o.ends_first k e lt (subst (λ l. Contains l e) other among);
  }
    where
      whole_at : (k : ℕ) → k < length front → task_at (front ++ Enter p ∷ []) k ≡ task_at front k
      whole_at k lt = get_or_append_left front (Enter p ∷ []) (Enter 0) k lt

      was_placed : (i : ℕ) → visit_at (set still p OnPath) i ≡ Placed → visit_at visits i ≡ Placed
      was_placed i done = elim (cases_eq i p) [
        | inl e ↦ absurd (path_placed _ on_here (subst (λ x. visit_at (set still p OnPath) x ≡ Placed) e done))
        | inr ne ↦ sym (visit_elsewhere i ne) ∙ done
      ]

      above_still : (k i : ℕ) → k < length front → IsAbove (front ++ Enter p ∷ []) k i → IsAbove tasks k i
      above_still k i low (j, later, lt, at) = elim (cases_lt j (length front)) [
        | inl less ↦ (j, later, omega (arith, less, whole_long), ap place_of (at_first j less ∙ sym (whole_at j less)) ∙ at)
        | inr le ↦
            let last : length front ≡ j = omega (arith, le, lt, length_push front (Enter p)) in
            let is = ap place_of (sym (get_or_push front (Enter p) (Enter 0) j last)) ∙ at in
            (length front, low, omega (arith, whole_long), ap place_of at_here ∙ is)
      ]

  pub enter_walk : (has_cycle : Bool) → IsWalk E visits (front ++ Enter p ∷ []) order has_cycle
      → IsWalk E' (set still p OnPath) tasks order has_cycle
  enter_walk has_cycle w = record {
    inside = enter_inside w.inside;
    new = enter_new w.new;
    ordering = λ none. enter_order (w.ordering none);
  }
