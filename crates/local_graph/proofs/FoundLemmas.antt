-- Positions in the order in which they were found.
use Rattle.std.proofs.Common.{◌≡◌, ◌≢◌, ℕ, ◌+◌, ◌<◌, ◌≤◌, ◌⊎◌, inl, inr, arith, refl, sym, ap, ◌∙◌, List, [], ◌∷◌, ◌++◌, Bool, true, false, cond, length, drop, get_or, if◌then◌else◌, nat_eq, subst, append_assoc, append-nil, length-append}
use Rattle.std.specs.List.{AllPairs, Contains, list_any}
use Rattle.std.proofs.lemmas.Bool.{cases_eq, cases_lt, both_ways, eq-eqb}
use Rattle.std.proofs.Math.Seq.{drop-append_seam}
use Rattle.std.proofs.lemmas.List.{get_or_append_left, get_or_push, get_or_past, length_push, length-map, map-append}
use Rattle.std.proofs.lemmas.List.Folds.{list_any_at}
use Rattle.std.proofs.lemmas.List.Elements.{All-push, Contains-push, Contains-push_cases, Contains-append_left, Contains-get_or}
use Rattle.std.proofs.lemmas.List.Quantifiers.{all_pairs_push}
use Rattle.std.proofs.lemmas.List.Sums.{sum_by_push}
use Rattle.local_play.specs.declared.local_move.LocalMove.{LocalMove}
use Rattle.local_graph.specs.declared.graph.Edge.{Edge}
use Rattle.local_graph.specs.declared.edge_lists.Span.{Span}
use Rattle.local_graph.specs.declared.search.Visit.{Visit}
use Rattle.local_graph.specs.declared.search.Visit.TheVariants.{New}
use Rattle.local_graph.specs.inner.Graph.{part, lists_of, no_edges, AreWithin}
use Rattle.local_graph.specs.inner.Searching.{is_new}
use Rattle.local_graph.specs.LocalGraph.{IsEdgeOf, AreEdges}
use Rattle.local_graph.specs.inner.Found.{Grows, AddsPositions, AreAwaited, edge_of}

absent : (n : ℕ) (ns : List ℕ) → list_any (nat_eq n) ns ≡ false → ¬ Contains ns n
absent n ns none (k, lt, at) = both_ways _ none (list_any_at (nat_eq n) ns k n lt (eq-eqb n (get_or ns k n) (sym at)))

pub grows_from_key : (before after : List ℕ) (n : ℕ)
    → after ≡ (if list_any (nat_eq n) before then before else before ++ n ∷ []) → Grows before n after
grows_from_key before after n e = go (list_any (nat_eq n) before) refl
  where
    go : (b : Bool) → list_any (nat_eq n) before ≡ b → Grows before n after
    go true is = inl (e ∙ ap (λ (x : Bool). if x then before else before ++ n ∷ []) is)
    go false is = inr (e ∙ ap (λ (x : Bool). if x then before else before ++ n ∷ []) is, absent n before is)

-- a number that was not there stands last
pub grows_few : (before after : List ℕ) (n place limit : ℕ) → Grows before n after → place < length after
    → get_or after place 0 ≡ n → place < limit → length before ≤ limit → length after ≤ limit
grows_few before after n place limit (inl same) inside at low few = let l = ap length same in omega arith
grows_few before after n place limit (inr (e, new)) inside at low few =
    let l = ap length e in
    let p = length_push before n in
    elim (cases_lt place (length before)) [
      | inl lt ↦
          let first = get_or_append_left before (n ∷ []) 0 place lt in
          let there : get_or before place 0 ≡ n = sym first ∙ ap (λ x. get_or x place 0) (sym e) ∙ at in
          absurd (new (subst (Contains before) there (Contains-get_or before place 0 lt)))
      | inr le ↦ omega arith
    ]

pub once_grows : (before after : List ℕ) (n : ℕ) → AllPairs (λ a b. a ≢ b) before → Grows before n after → AllPairs (λ a b. a ≢ b) after
once_grows before after n once (inl same) = subst (AllPairs (λ a b. a ≢ b)) (sym same) once
once_grows before after n once (inr (e, new)) =
    subst (AllPairs (λ a b. a ≢ b)) (sym e)
    (all_pairs_push (λ a b. a ≢ b) before n once
    (λ k d lt same. new (subst (Contains before) same (Contains-get_or before k d lt))))

-- the edges so far, of the moves that were given
pub record Linking (before : List ℕ) (given : List LocalMove) (limit : ℕ) (after : List ℕ) (edges : List Edge) : Type 0 where
  pub extends : AddsPositions before given after
  pub few : length after ≤ limit
  pub edges_are : AreEdges after given edges

pub linking_start : (before : List ℕ) (limit : ℕ) → AllPairs (λ a b. a ≢ b) before → length before ≤ limit → Linking before [] limit before []
linking_start before limit once few = record {
  extends = record { more = []; appended = sym (append-nil before); new = λ n h. inl h; once = once };
  few = few;
  edges_are = (refl, λ k m e lt. absurd (omega arith));
}

-- positions afterwards keep their places
pub edge_more : (before more after : List ℕ) (m : LocalMove) (e : Edge) → after ≡ before ++ more → IsEdgeOf before m e → IsEdgeOf after m e
edge_more before more after m e is w = record {
  colour = w.colour;
  place = w.place;
  taken = w.taken;
  inside = let l = ap length is in omega (arith, length-append before more, w.inside);
  next = ap (λ x. get_or x e.next 0) is ∙ get_or_append_left before more 0 e.next w.inside ∙ w.next;
}

grown : (before after : List ℕ) (n : ℕ) → Grows before n after → (more : List ℕ) × (after ≡ before ++ more)
grown before after n (inl same) = ([], same ∙ sym (append-nil before))
grown before after n (inr (e, new)) = (n ∷ [], e)

pub extends_grows : (before between after : List ℕ) (given : List LocalMove) (m : LocalMove) → AddsPositions before given between
    → Grows between m.next after → AddsPositions before (given ++ m ∷ []) after
extends_grows before between after given m s g =
    let w = grown between after m.next g in
    record {
      more = s.more ++ w.0;
      appended = w.1 ∙ ap (λ l. l ++ w.0) s.appended ∙ append_assoc before s.more w.0;
      new = λ n h. from n g h;
      once = once_grows between after m.next s.once g;
    }
  where
    earlier : (n : ℕ) → Contains before n ⊎ ((x : LocalMove) × Contains given x × (x.next ≡ n))
        → Contains before n ⊎ ((x : LocalMove) × Contains (given ++ m ∷ []) x × (x.next ≡ n))
    earlier n (inl old) = inl old
    earlier n (inr (x, among, is)) = inr (x, Contains-append_left given (m ∷ []) x among, is)

    from : (n : ℕ) → Grows between m.next after → Contains after n
        → Contains before n ⊎ ((x : LocalMove) × Contains (given ++ m ∷ []) x × (x.next ≡ n))
    from n (inl same) h = earlier n (s.new n (subst (λ l. Contains l n) same h))
    from n (inr (e, new)) h = elim (Contains-push_cases between m.next n (subst (λ l. Contains l n) e h)) [
      | inl old ↦ earlier n (s.new n old)
      | inr is ↦ inr (m, Contains-push given m, is)
    ]

linking_push : (before between after : List ℕ) (given : List LocalMove) (limit : ℕ) (edges : List Edge) (m : LocalMove) (e : Edge)
    → Linking before given limit between edges → Grows between m.next after → length after ≤ limit → IsEdgeOf after m e
    → Linking before (given ++ m ∷ []) limit after (edges ++ e ∷ [])
linking_push before between after given limit edges m e s g few new =
    let w = grown between after m.next g in
    let long = s.edges_are.0 in
    record {
      extends = extends_grows before between after given m s.extends g;
      few = few;
      edges_are = (
        length_push edges e ∙ ap (λ n. n + 1) long ∙ sym (length_push given m),
        λ k x f less at is. elim (cases_eq k (length edges)) [
          | inl same ↦
              let x' : x ≡ m = sym at ∙ get_or_push given m x k (sym long ∙ sym same) in
              let f' : f ≡ e = sym is ∙ get_or_push edges e f k (sym same) in
              subst (λ y. IsEdgeOf after y f) (sym x') (subst (IsEdgeOf after m) (sym f') new)
          | inr ne ↦
              let short : k < length edges = omega (arith, less, ne, length_push edges e) in
              edge_more between w.0 after x f w.1
              (s.edges_are.1 k x f short (sym (get_or_append_left given (m ∷ []) x k (omega (arith, short, long))) ∙ at)
              (sym (get_or_append_left edges (e ∷ []) f k short) ∙ is))
        ],
      );
    }

-- the same with the edge that the code makes
pub linking_edge : (before between after : List ℕ) (given : List LocalMove) (limit : ℕ) (edges : List Edge) (m : LocalMove) (e : Edge) (place : ℕ)
    → Linking before given limit between edges → Grows between m.next after → length after ≤ limit
    → place < length after → get_or after place 0 ≡ m.next → e ≡ edge_of m place
    → Linking before (given ++ m ∷ []) limit after (edges ++ e ∷ [])
linking_edge before between after given limit edges m e place s g few inside next made =
    rw made (linking_push before between after given limit edges m (edge_of m place) s g few record {
      colour = refl;
      place = refl;
      taken = refl;
      inside = inside;
      next = next;
    })

-- the same in the words of the code
pub placed : (old new : List ℕ) (v n place limit : ℕ) → v ≡ n → new ≡ (if list_any (nat_eq v) old then old else old ++ v ∷ [])
    → place < length new → get_or new place 0 ≡ v → place < limit → length old ≤ limit
    → Grows old n new × (place < length new) × (get_or new place 0 ≡ n) × (length new ≤ limit)
placed old new v n place limit e key inside at low few =
    let grows = subst (λ x. Grows old x new) e (grows_from_key old new v key) in
    let at' = at ∙ e in
    (grows, inside, at', grows_few old new n place limit grows inside at' low few)

-- what stands behind the first edges
pub edges_behind : (first whole edges : List Edge) → whole ≡ first ++ edges → drop (length first) whole ≡ edges
edges_behind first whole edges is = ap (drop (length first)) is ∙ drop-append_seam first edges

pub linking_all : (before : List ℕ) (given : List LocalMove) (limit : ℕ) (after : List ℕ) (first whole edges : List Edge)
    → whole ≡ first ++ edges → Linking before given limit after edges
    → AddsPositions before given after × AreEdges after given (drop (length first) whole) × (length after ≤ limit)
linking_all before given limit after first whole edges is s =
    (s.extends, subst (AreEdges after given) (sym (edges_behind first whole edges is)) s.edges_are, s.few)

-- one more of what stands for each past the last changes none
default_push : {X : Type 0} (xs : List X) (d : X) (i : ℕ) → get_or (xs ++ d ∷ []) i d ≡ get_or xs i d
default_push xs d i = elim (cases_lt i (length xs)) [
  | inl lt ↦ get_or_append_left xs (d ∷ []) d i lt
  | inr low ↦ elim (cases_eq i (length xs)) [
    | inl e ↦ get_or_push xs d d i (sym e) ∙ sym (get_or_past xs i d low)
    | inr ne ↦ get_or_past (xs ++ d ∷ []) i d (omega (arith, low, ne, length_push xs d)) ∙ sym (get_or_past xs i d low)
  ]
]

-- one place more is new
awaited_push : (all after : List (List Edge)) (visits still : List Visit) (after' : List (List Edge)) (still' : List Visit)
    → AreAwaited all visits (length after) after still → still' ≡ still ++ New ∷ []
    → after' ≡ after ++ [] ∷ [] → AreAwaited all visits (length after') after' still'
awaited_push all after visits still after' still' s es ea = rw (es, ea) record {
  long = refl;
  lists = λ i. default_push after [] i ∙ s.lists i;
  seen = omega (arith, s.seen, length_push after [], length_push still New);
  known = λ i. default_push still New i ∙ s.known i;
  many = omega (arith, s.many, length_push after [], sum_by_push (λ v. cond (is_new v) 1 0) still New);
}

-- the same in the words of the code
pub awaited_span : (edges : List Edge) (spans after after' : List Span) (visits still still' : List Visit)
    → AreAwaited (lists_of edges spans) visits (length after) (lists_of edges after) still
    → still' ≡ still ++ New ∷ [] → after' ≡ after ++ no_edges ∷ []
    → AreAwaited (lists_of edges spans) visits (length after') (lists_of edges after') still'
awaited_span edges spans after after' visits still still' w es ea =
    let long = length-map after (part edges) in
    let more : lists_of edges after' ≡ lists_of edges after ++ [] ∷ [] =
    ap (lists_of edges) ea ∙ map-append (part edges) after (no_edges ∷ []) in
    subst (λ n. AreAwaited (lists_of edges spans) visits n (lists_of edges after') still') (length-map after' (part edges))
    (awaited_push (lists_of edges spans) (lists_of edges after) visits still (lists_of edges after') still'
    (subst (λ n. AreAwaited (lists_of edges spans) visits n (lists_of edges after) still) (sym long) w) es more)

pub within_empty : (count : ℕ) (spans after : List Span) → AreWithin count spans → after ≡ spans ++ no_edges ∷ [] → AreWithin count after
within_empty count spans after within e =
    subst (AreWithin count) (sym e) (All-push (λ s. (s.start ≤ s.end) × (s.end ≤ count)) spans no_edges within (omega arith, omega arith))
