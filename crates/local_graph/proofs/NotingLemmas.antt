-- What is noted of a position's edges, one after another.
use Rattle.std.proofs.Common.{◌≡◌, ◌≢◌, ℕ, ◌+◌, ◌<◌, ◌≤◌, inl, inr, arith, refl, sym, ap, ◌∙◌, List, [], ◌∷◌, ◌++◌, length, length-set, append-nil, append_assoc, get_or, set, subst}
use Rattle.std.proofs.lemmas.Bool.{cases_eq}
use Rattle.std.proofs.lemmas.List.{get_or-set_same, get_or-set_other, length-map, length_push}
use Rattle.local_graph.specs.declared.graph.Edge.{Edge}
use Rattle.local_graph.specs.declared.graph_build.Exploration.{Exploration}
use Rattle.local_graph.specs.declared.search.Visit.{Visit}
use Rattle.local_graph.specs.inner.Exploring.{IsNoted, AreNoted}
use Rattle.local_graph.specs.inner.Found.{AreAwaited, Grows}
use Rattle.local_graph.specs.inner.Graph.{lists_of, part, AreWithin}
use Rattle.local_graph.specs.inner.Walk.{AreTargets}
use Rattle.local_graph.proofs.WalkLemmas.{target_placed, target_entered, targets_still}

-- nothing is noted yet
pub noted_none : (positions : List ℕ) (found : Exploration) → length found.spans.items ≡ length positions → AreNoted (length positions) [] found found
noted_none positions found long = record {
  edges = sym (append-nil found.edges);
  awaited = λ edges.
      let lists = length-map found.spans.items (part edges) in
      record { long = lists ∙ long; lists = λ i. refl; seen = omega (arith, lists, long); known = λ i. refl; many = omega (arith, lists, long) };
  within = λ n w. w;
  targets = record {
    more = [];
    behind = sym (append-nil found.walk.tasks.items);
    only = λ t among. absurd (omega (arith, among.1));
    each = λ e among. absurd (omega (arith, among.1));
  };
  order = refl;
  has_cycle = refl;
}

module _ (count : ℕ) (more : List Edge) (before between after : Exploration) (a : AreNoted count more before between) where
  -- one edge more
  pub noted_edge : (e : Edge) → IsNoted e between after → AreNoted count (more ++ e ∷ []) before after
  noted_edge e w = record {
    edges = w.edges ∙ ap (λ l. l ++ e ∷ []) a.edges ∙ append_assoc before.edges more (e ∷ []);
    awaited = λ edges. subst (λ v. AreAwaited (lists_of edges before.spans.items) before.walk.visits.items count (lists_of edges after.spans.items) v)
        (sym w.walk.same.visits)
        (subst (λ s. AreAwaited (lists_of edges before.spans.items) before.walk.visits.items count (lists_of edges s) between.walk.visits.items)
        (sym w.spans) (a.awaited edges));
    within = λ n h. subst (AreWithin n) (sym w.spans) (a.within n h);
    targets = subst (λ v. AreTargets v (more ++ e ∷ []) before.walk.tasks.items after.walk.tasks.items) (sym w.walk.same.visits) (elim w.walk.tasks [
      | inl (done, same) ↦
          subst (AreTargets between.walk.visits.items (more ++ e ∷ []) before.walk.tasks.items) (sym same)
          (target_placed between.walk.visits.items more e before.walk.tasks.items between.walk.tasks.items a.targets done)
      | inr put ↦ target_entered between.walk.visits.items more e before.walk.tasks.items between.walk.tasks.items a.targets after.walk.tasks.items put
    ]);
    order = w.walk.same.order ∙ a.order;
    has_cycle = w.walk.same.has_cycle ∙ a.has_cycle;
  }

  -- new places behind the others
  pub noted_places : (count' : ℕ)
      → ((edges : List Edge) → AreAwaited (lists_of edges between.spans.items) between.walk.visits.items count' (lists_of edges after.spans.items)
      after.walk.visits.items)
      → ((n : ℕ) → AreWithin n between.spans.items → AreWithin n after.spans.items) → after.edges ≡ between.edges
      → after.walk.tasks.items ≡ between.walk.tasks.items → after.walk.order.items ≡ between.walk.order.items
      → after.walk.has_cycle ≡ between.walk.has_cycle → AreNoted count' more before after
  noted_places count' w within edges tasks order cycle = record {
    edges = edges ∙ a.edges;
    awaited = λ es.
        let u = a.awaited es in
        let v = w es in
        record {
          long = v.long;
          lists = λ i. v.lists i ∙ u.lists i;
          seen = omega (arith, u.seen, v.seen, u.long);
          known = λ i. v.known i ∙ u.known i;
          many = omega (arith, u.many, v.many, u.long);
        };
    within = λ n h. within n (a.within n h);
    targets = subst (AreTargets after.walk.visits.items more before.walk.tasks.items) (sym tasks)
        (targets_still between.walk.visits.items after.walk.visits.items more before.walk.tasks.items between.walk.tasks.items
        (λ i done. (w []).known i ∙ done) a.targets);
    order = order ∙ a.order;
    has_cycle = cycle ∙ a.has_cycle;
  }

-- how many places there are then
pub noted_seen : (count : ℕ) (more : List Edge) (before after : Exploration) → AreNoted count more before after
    → length before.walk.visits.items ≡ length before.spans.items → length after.walk.visits.items ≡ count
noted_seen count more before after a beside =
    omega (arith, (a.awaited []).seen, length-map before.spans.items (part []), beside)

pub noted_spans : (count : ℕ) (more : List Edge) (before after : Exploration) → AreNoted count more before after → length after.spans.items ≡ count
noted_spans count more before after a = sym (length-map after.spans.items (part [])) ∙ (a.awaited []).long

-- positions that grow aren't fewer
pub grown_more : (before : List ℕ) (n : ℕ) (after : List ℕ) → Grows before n after → length before ≤ length after
grown_more before n after (inl same) = omega (arith, ap length same)
grown_more before n after (inr (more, new)) = omega (arith, ap length more, length_push before n)

-- the list of a place that was there before
pub awaited_put : (E E' : List (List Edge)) (visits still : List Visit) (p count : ℕ) (es : List Edge) → AreAwaited E visits count E' still
    → p < length E → length E ≤ count → AreAwaited (set E p es) visits count (set E' p es) still
awaited_put E E' visits still p count es a lt more = record {
  long = length-set E' p es ∙ a.long;
  lists = λ i. elim (cases_eq i p) [
    | inl same ↦ subst (λ k. get_or (set E' p es) k [] ≡ get_or (set E p es) k []) (sym same)
        (get_or-set_same E' p es [] (omega (arith, lt, more, a.long)) ∙ sym (get_or-set_same E p es [] lt))
    | inr ne ↦ other E' i ne ∙ a.lists i ∙ sym (other E i ne)
  ];
  seen = omega (arith, length-set E p es, a.seen);
  known = a.known;
  many = omega (arith, length-set E p es, a.many);
}
  where
    other : (lists : List (List Edge)) (i : ℕ) → i ≢ p → get_or (set lists p es) i [] ≡ get_or lists i []
    other lists i ne = rw get_or-set_other refl
