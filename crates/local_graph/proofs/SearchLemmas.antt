-- A depth-first search under way.
use Rattle.std.proofs.Common.{◌≡◌, ◌≢◌, ℕ, ◌+◌, ◌^◌, ◌<◌, ◌≤◌, inl, inr, arith, refl, sym, ap, ◌∙◌, List, [], ◌∷◌, ◌++◌, length, get_or, set, cond, subst, append_assoc, ◌-◌, take, slice_get, Some}
use Rattle.std.specs.List.{AllPairs, Contains}
use Rattle.std.proofs.lemmas.Bool.{cases_eq, cases_lt}
use Rattle.std.proofs.lemmas.List.{length_push, length-set, map-append, get_or-set_same, get_or-set_other, get_or_past, get_or_push, get_or_append_left, get_or_default, take_more, take_all}
use Rattle.std.proofs.lemmas.List.Elements.{Contains-get_or, Contains-push, Contains-push_cases, Contains-append_left}
use Rattle.std.proofs.lemmas.List.Quantifiers.{all_pairs_push}
use Rattle.std.proofs.lemmas.List.Sums.{sum_by-set, sum_by_push}
use Rattle.std.proofs.Math.Seq.{set-append_seam}
use Rattle.std.proofs.lemmas.Option.{slice_get_within, get_or_from_slice_get}
use Rattle.local_graph.specs.declared.graph.Edge.{Edge}
use Rattle.local_graph.specs.declared.search.Frame.{Frame}
use Rattle.local_graph.specs.declared.search.Visit.{Visit}
use Rattle.local_graph.specs.declared.search.Visit.TheVariants.{New, OnPath, Placed}
use Rattle.local_graph.specs.LocalGraph.{IsOrderOfPlaces}
use Rattle.local_graph.specs.inner.Built.{IsRooted, Follows}
use Rattle.local_graph.specs.inner.Graph.{edges_at, no_edge, edge_at}
use Rattle.local_graph.specs.inner.Searching.{visit_at, nodes_of, EndsIn, GoesOn, Trail, IsPath, Searching, Returns, is_new, work_left}
use Rattle.local_graph.proofs.PathLemmas.{last_frame, path_end, path_trail, trail_push}

pub new_apart : (v : Visit) → v ≡ New → v ≡ OnPath → ⊥
new_apart v a b = cc

pub new_placed : (v : Visit) → v ≡ New → v ≡ Placed → ⊥
new_placed v a b = cc

pub path_placed : (v : Visit) → v ≡ OnPath → v ≡ Placed → ⊥
path_placed v a b = cc

-- what is known of a node is of one that there is
pub known_inside : (visits : List Visit) (i : ℕ) → (visit_at visits i ≡ New → ⊥) → i < length visits
known_inside visits i known = elim (cases_lt i (length visits)) as (λ _. i < length visits) [
  | inl lt ↦ lt
  | inr le ↦ absurd (known (get_or_past visits i New le))
]

nodes_push : (front : List Frame) (f : Frame) → nodes_of (front ++ f ∷ []) ≡ nodes_of front ++ f.node ∷ []
nodes_push front f = map-append (λ f. f.node) front (f ∷ [])

-- of the front of a list of different nodes
front_apart : (ns : List ℕ) (n : ℕ) → AllPairs (λ a b. a ≢ b) (ns ++ n ∷ [])
    → AllPairs (λ a b. a ≢ b) ns × ((i : ℕ) → Contains ns i → i ≢ n)
front_apart ns n apart = (
  λ i j d lt short.
      let a = get_or_append_left ns (n ∷ []) d i (omega arith) in
      let b = get_or_append_left ns (n ∷ []) d j short in
      λ e. apart i j d lt (omega (arith, length_push ns n)) (a ∙ e ∙ sym b),
  λ i (k, lt, at) e.
      let a = get_or_append_left ns (n ∷ []) i k lt in
      let b = get_or_push ns n i (length ns) refl in
      apart k (length ns) i lt (omega (arith, length_push ns n)) (a ∙ at ∙ e ∙ sym b),
)

module _ (E : List (List Edge)) (front : List Frame) (f : Frame) (visits : List Visit) (order : List ℕ)
    (s : Searching E (front ++ f ∷ []) visits order) where
  there : Contains (nodes_of (front ++ f ∷ [])) f.node
  there = subst (λ l. Contains l f.node) (sym (nodes_push front f)) (Contains-push (nodes_of front) f.node)

  pub last_on_path : visit_at visits f.node ≡ OnPath
  last_on_path = s.of_path f.node there

  pub last_inside : f.node < length visits
  last_inside = known_inside visits f.node (λ e. new_apart _ e last_on_path)

  pub last_left : f.left ≤ length (edges_at E f.node)
  last_left = (last_frame E visits 0 front f s.path_is).1

  parted : AllPairs (λ a b. a ≢ b) (nodes_of front) × ((i : ℕ) → Contains (nodes_of front) i → i ≢ f.node)
  parted = front_apart (nodes_of front) f.node (subst (AllPairs (λ a b. a ≢ b)) (nodes_push front f) s.apart)

  -- all edges from the one that is left on lead to placed nodes
  edges_placed : (k : ℕ) → f.left ≤ k → k < length (edges_at E f.node) → visit_at visits (edge_at E f.node k).next ≡ Placed
  edges_placed k le lt =
      let w = last_frame E visits 0 front f s.path_is in
      elim (cases_eq k f.left) [
        | inr ne ↦ w.2 k (omega arith) lt
        | inl e ↦ elim w.3 [
          | inl past ↦ absurd (omega (arith, past.0))
          | inr here ↦ subst (λ x. visit_at visits (edge_at E f.node x).next ≡ Placed) (sym e) here.1
        ]
      ]

  -- the last node is placed when all its edges lead to placed nodes
  pub place_last : f.left ≡ 0 → Searching E front (set visits f.node Placed) (order ++ f.node ∷ [])
  place_last none = record {
    long = length-set visits f.node Placed ∙ s.long;
    path_is = subst (IsPath E (set visits f.node Placed) 0) (append_nil front)
        (path_end E visits (set visits f.node Placed) 0 front f [] s.path_is kept (set_here Placed));
    on_path = λ i on. elim (cases_eq i f.node) [
      | inl e ↦ absurd (path_placed _ on (rw e (set_here Placed)))
      | inr ne ↦ elim (Contains-push_cases (nodes_of front) f.node i (subst (λ l. Contains l i) (nodes_push front f)
          (s.on_path i (sym (get_or-set_other' i ne) ∙ on)))) [
            | inl old ↦ old
            | inr e ↦ absurd (ne (sym e))
          ]
    ];
    of_path = λ i among.
        get_or-set_other' i (parted.1 i among)
        ∙ s.of_path i (subst (λ l. Contains l i) (sym (nodes_push front f)) (Contains-append_left (nodes_of front) (f.node ∷ []) i among));
    apart = parted.0;
    placed = λ i on. elim (cases_eq i f.node) [
      | inl e ↦ rw e (Contains-push order f.node)
      | inr ne ↦ Contains-append_left order (f.node ∷ []) i (s.placed i (sym (get_or-set_other' i ne) ∙ on))
    ];
    of_order = λ i among. elim (Contains-push_cases order f.node i among) [
      | inl old ↦ get_or-set_other' i (apart_old i old) ∙ s.of_order i old
      | inr e ↦ subst (λ x. visit_at (set visits f.node Placed) x ≡ Placed) e (set_here Placed)
    ];
    once = all_pairs_push (λ a b. a ≢ b) order f.node s.once
        (λ k d lt. apart_old (get_or order k d) (Contains-get_or order k d lt));
    ends_first = λ k e lt among. elim (cases_lt k (length order)) [
      | inl less ↦
          let old = get_or_append_left order (f.node ∷ []) 0 k less in
          let w = s.ends_first k e less (subst (λ x. Contains (edges_at E x) e) old among) in
          (w.0, w.1, get_or_append_left order (f.node ∷ []) 0 w.0 (omega (arith, w.1)) ∙ w.2)
      | inr le ↦
          let last : length order ≡ k = omega (arith, length_push order f.node) in
          let new = get_or_push order f.node 0 k last in
          leads k (omega arith) e (subst (λ x. Contains (edges_at E x) e) new among)
    ];
  }
    where
      append_nil : (l : List Frame) → l ++ [] ≡ l
      append_nil [] = refl
      append_nil (x ∷ l) = ap (λ m. x ∷ m) (append_nil l)

      set_here : (v : Visit) → visit_at (set visits f.node v) f.node ≡ v
      set_here v = get_or-set_same visits f.node v New last_inside

      get_or-set_other' : (i : ℕ) → i ≢ f.node → visit_at (set visits f.node Placed) i ≡ visit_at visits i
      get_or-set_other' i ne = rw get_or-set_other refl

      kept : (q : ℕ) → visit_at visits q ≡ Placed → visit_at (set visits f.node Placed) q ≡ Placed
      kept q p = elim (cases_eq q f.node) [ inl e ↦ rw e (set_here Placed) | inr ne ↦ get_or-set_other' q ne ∙ p ]

      apart_old : (i : ℕ) → Contains order i → i ≢ f.node
      apart_old i old e = path_placed _ last_on_path (subst (λ x. visit_at visits x ≡ Placed) e (s.of_order i old))

      leads : (k : ℕ) → length order ≤ k → (e : Edge) → Contains (edges_at E f.node) e
          → (j : ℕ) × (j < k) × (get_or (order ++ f.node ∷ []) j 0 ≡ e.next)
      leads k le e (m, lt, at) =
          let same : edge_at E f.node m ≡ e = get_or_default (edges_at E f.node) m no_edge e lt ∙ at in
          let w = s.placed e.next (subst (λ x. visit_at visits x.next ≡ Placed) same (edges_placed m (omega arith) lt)) in
          let is : get_or order w.0 0 ≡ e.next = get_or_default order w.0 0 e.next w.1 ∙ w.2 in
          (w.0, omega (arith, w.1), get_or_append_left order (f.node ∷ []) 0 w.0 w.1 ∙ is)

  pub place_last_less : f.left ≡ 0 → work_left front (set visits f.node Placed) < work_left (front ++ f ∷ []) visits
  place_last_less none =
      let count = sum_by-set (λ v. cond (is_new v) 1 0) visits f.node Placed New last_inside in
      let count' = rw last_on_path at count in
      omega (arith, count', sum_by_push (λ f. f.left + 1) front f)

  -- the same in the words of the code
  pub said_place : (whole path : List Frame) (now : List Visit) (after : List ℕ) → whole ≡ front ++ f ∷ [] → f.left ≡ 0 → path ≡ front
      → now ≡ set visits f.node Placed → after ≡ order ++ f.node ∷ []
      → Searching E path now after × (work_left path now < work_left whole visits)
  said_place whole path now after ew none ep en ea = rw (ew, ep, en, ea) (place_last none, place_last_less none)

  pub edges_inside : (k : ℕ) → k < f.left → k < length (edges_at E f.node)
  edges_inside k lt = omega (arith, lt, last_left)

  pub nexts_inside : IsRooted E → (k : ℕ) → k < f.left → (edge_at E f.node k).next < length visits
  nexts_inside r k lt =
      let inside = r.inside f.node (edge_at E f.node k) (Contains-get_or (edges_at E f.node) k no_edge (edges_inside k lt)) in
      omega (arith, inside, s.long)

  -- the frame with fewer edges left
  module _ (g : Frame) (w : GoesOn E visits f g) where
    same : g.node ≡ f.node
    same = w.node

    nodes_same : nodes_of (front ++ g ∷ []) ≡ nodes_of (front ++ f ∷ [])
    nodes_same = nodes_push front g ∙ ap (λ n. nodes_of front ++ n ∷ []) same ∙ sym (nodes_push front f)

    pub edge_inside : g.left < length (edges_at E g.node)
    edge_inside = subst (λ x. g.left < length (edges_at E x)) (sym same) (edges_inside g.left w.fewer)

    -- all edges past the one that is left lead to placed nodes
    past_placed : (k : ℕ) → g.left < k → k < length (edges_at E f.node) → visit_at visits (edge_at E f.node k).next ≡ Placed
    past_placed k past short = elim (cases_lt k f.left) [ inl lt ↦ w.over k past lt | inr le ↦ edges_placed k le short ]

    pub next_inside : IsRooted E → (edge_at E g.node g.left).next < length visits
    next_inside r =
        let inside = r.inside g.node (edge_at E g.node g.left) (Contains-get_or (edges_at E g.node) g.left no_edge edge_inside) in
        omega (arith, inside, s.long)

    -- the path that ends in this frame and goes on from the node that its edge leads to
    path_on : (now : List Visit) (rest : List Frame) → ((q : ℕ) → visit_at visits q ≡ Placed → visit_at now q ≡ Placed)
        → IsPath E now (edge_at E g.node g.left).next rest → IsPath E now 0 (front ++ g ∷ rest)
    path_on now rest kept new =
        path_end E visits now 0 front f (g ∷ rest) s.path_is kept (subst (λ x. IsPath E now x (g ∷ rest)) same (
          refl,
          omega (arith, edge_inside),
          λ k past short. kept (edge_at E g.node k).next
              (subst (λ x. visit_at visits (edge_at E x k).next ≡ Placed) (sym same)
              (past_placed k past (subst (λ x. k < length (edges_at E x)) same short))),
          inr (edge_inside, new),
        ))

    -- the edge leads to a placed node
    pub skip_edge : visit_at visits (edge_at E g.node g.left).next ≡ Placed → Searching E (front ++ g ∷ []) visits order
    skip_edge placed = record {
      long = s.long;
      path_is = path_on visits [] (λ q p. p) placed;
      on_path = λ i on. subst (λ l. Contains l i) (sym nodes_same) (s.on_path i on);
      of_path = λ i among. s.of_path i (subst (λ l. Contains l i) nodes_same among);
      apart = subst (AllPairs (λ a b. a ≢ b)) (sym nodes_same) s.apart;
      placed = s.placed;
      of_order = s.of_order;
      once = s.once;
      ends_first = s.ends_first;
    }

    pub skip_edge_less : work_left (front ++ g ∷ []) visits < work_left (front ++ f ∷ []) visits
    skip_edge_less = omega (arith, sum_by_push (λ f. f.left + 1) front f, sum_by_push (λ f. f.left + 1) front g, w.fewer)

    -- the edge leads to a node of the path
    pub come_back : visit_at visits (edge_at E g.node g.left).next ≡ OnPath → Returns E (front ++ g ∷ []) (edge_at E g.node g.left).next
    come_back on = record {
      trail = trail_push E 0 front g (subst (Trail E 0 front) (sym same) (path_trail E visits 0 front f s.path_is)) edge_inside;
      there = subst (λ l. Contains l (edge_at E g.node g.left).next) (sym nodes_same) (s.on_path _ on);
      apart = subst (AllPairs (λ a b. a ≢ b)) (sym nodes_same) s.apart;
    }

    -- the edge leads to a new node
    module _ (h : Frame) (next : h.node ≡ (edge_at E g.node g.left).next) (new : visit_at visits h.node ≡ New)
        (inside : h.node < length visits) (whole : h.left ≡ length (edges_at E h.node)) where
      entered : List Visit
      entered = set visits h.node OnPath

      enter_here : visit_at (set visits h.node OnPath) h.node ≡ OnPath
      enter_here = get_or-set_same visits h.node OnPath New inside

      enter_other : (i : ℕ) → i ≢ h.node → visit_at (set visits h.node OnPath) i ≡ visit_at visits i
      enter_other i ne = rw get_or-set_other refl

      nodes_more : nodes_of ((front ++ g ∷ []) ++ h ∷ []) ≡ nodes_of (front ++ f ∷ []) ++ h.node ∷ []
      nodes_more = nodes_push (front ++ g ∷ []) h ∙ ap (λ l. l ++ h.node ∷ []) nodes_same

      apart_new : (i : ℕ) → (visit_at visits i ≡ New → ⊥) → i ≢ h.node
      apart_new i known e = known (subst (λ x. visit_at visits x ≡ New) (sym e) new)

      pub enter_edge : Searching E ((front ++ g ∷ []) ++ h ∷ []) (set visits h.node OnPath) order
      enter_edge = record {
        long = length-set visits h.node OnPath ∙ s.long;
        path_is = subst (IsPath E (set visits h.node OnPath) 0) (sym (append_assoc front (g ∷ []) (h ∷ [])))
            (path_on (set visits h.node OnPath) (h ∷ [])
            (λ q p. enter_other q (apart_new q (λ e. new_placed _ e p)) ∙ p)
            (next, at_most, λ k past short. absurd (omega (arith, past, short, at_most', here)), inl (here, refl)));
        on_path = λ i on. elim (cases_eq i h.node) [
          | inl e ↦ subst (λ l. Contains l i) (sym nodes_more) (subst (Contains (nodes_of (front ++ f ∷ []) ++ h.node ∷ [])) (sym e)
              (Contains-push (nodes_of (front ++ f ∷ [])) h.node))
          | inr ne ↦ subst (λ l. Contains l i) (sym nodes_more) (Contains-append_left (nodes_of (front ++ f ∷ [])) (h.node ∷ []) i
              (s.on_path i (sym (enter_other i ne) ∙ on)))
        ];
        of_path = λ i among. elim (Contains-push_cases (nodes_of (front ++ f ∷ [])) h.node i (subst (λ l. Contains l i) nodes_more among)) [
          | inl old ↦ let was = s.of_path i old in enter_other i (apart_new i (λ e. new_apart _ e was)) ∙ was
          | inr e ↦ subst (λ x. visit_at (set visits h.node OnPath) x ≡ OnPath) e enter_here
        ];
        apart = subst (AllPairs (λ a b. a ≢ b)) (sym nodes_more) (all_pairs_push (λ a b. a ≢ b) (nodes_of (front ++ f ∷ [])) h.node s.apart
            (λ k d lt. let was = s.of_path (get_or (nodes_of (front ++ f ∷ [])) k d) (Contains-get_or (nodes_of (front ++ f ∷ [])) k d lt) in
            apart_new _ (λ e. new_apart _ e was)));
        placed = λ i on. elim (cases_eq i h.node) [
          | inl e ↦ absurd (path_placed _ (subst (λ x. visit_at (set visits h.node OnPath) x ≡ OnPath) (sym e) enter_here) on)
          | inr ne ↦ s.placed i (sym (enter_other i ne) ∙ on)
        ];
        of_order = λ i among. let was = s.of_order i among in enter_other i (apart_new i (λ e. new_placed _ e was)) ∙ was;
        once = s.once;
        ends_first = s.ends_first;
      }
        where
          here : h.left ≡ length (edges_at E (edge_at E g.node g.left).next)
          here = whole ∙ ap (λ x. length (edges_at E x)) next

          at_most : h.left ≤ length (edges_at E (edge_at E g.node g.left).next)
          at_most = omega (arith, here)

          at_most' : length (edges_at E (edge_at E g.node g.left).next) ≤ h.left
          at_most' = omega (arith, here)

      pub enter_edge_less : h.left < 2 ^ 64
          → work_left ((front ++ g ∷ []) ++ h ∷ []) (set visits h.node OnPath) < work_left (front ++ f ∷ []) visits
      enter_edge_less fits =
          let count = sum_by-set (λ v. cond (is_new v) 1 0) visits h.node OnPath New inside in
          let count' = rw new at count in
          omega (
            arith,
            count',
            fits,
            w.fewer,
            sum_by_push (λ f. f.left + 1) front f,
            sum_by_push (λ f. f.left + 1) front g,
            sum_by_push (λ f. f.left + 1) (front ++ g ∷ []) h,
          )

-- with nothing on the path all nodes are in the order
pub search_end : (E : List (List Edge)) (visits : List Visit) (order : List ℕ) → IsRooted E → Searching E [] visits order → IsOrderOfPlaces E order
search_end E visits order r s = record {
  once = s.once;
  inside = λ k lt.
      let on = s.of_order (get_or order k 0) (Contains-get_or order k 0 lt) in
      omega (arith, s.long, known_inside visits (get_or order k 0) (λ e. new_placed _ e on));
  every = λ i lt. let w = r.reached i lt in reach 0 i w.0 (s.placed 0 s.path_is) w.1;
  ends_first = s.ends_first;
}
  where
    reach : (i j : ℕ) (es : List Edge) → Contains order i → Follows E i es j → Contains order j
    reach i j [] here f = subst (Contains order) f here
    reach i j (e ∷ es) (k, lt, at) f =
        let is : get_or order k 0 ≡ i = get_or_default order k 0 i lt ∙ at in
        let w = s.ends_first k e lt (subst (λ x. Contains (edges_at E x) e) (sym is) f.0) in
        let short : w.0 < length order = omega (arith, w.1) in
        reach e.next j es (subst (Contains order) w.2 (Contains-get_or order w.0 0 short)) f.1

-- an item in place of the last
pub frame_there : {X : Type 0} (front path : List X) (f g : X) (k : ℕ) → path ≡ front ++ f ∷ [] → k + 1 ≡ length path
    → set path k g ≡ front ++ g ∷ []
frame_there front path f g k ends at =
    let here : k ≡ length front = omega (arith, at, ap length ends, length_push front f) in
    ap (λ l. set l k g) ends ∙ ap (λ j. set (front ++ f ∷ []) j g) here ∙ set-append_seam front f [] g

pub path_some : {X : Type 0} (front path : List X) (f : X) → path ≡ front ++ f ∷ [] → 0 < length path
path_some front path f ends = omega (arith, ap length ends, length_push front f)

-- the same in the words of the code, whose path is a list that ends in the frame
module _ (E : List (List Edge)) (whole : List Frame) (f : Frame) (visits : List Visit) (order : List ℕ) (ends : EndsIn whole f)
    (under : Searching E whole visits order) where
  said : Searching E (ends.0 ++ f ∷ []) visits order
  said = subst (λ p. Searching E p visits order) ends.1 under

  pub said_inside : (k : ℕ) → k < f.left → k < length (edges_at E f.node)
  said_inside = edges_inside E ends.0 f visits order said

  pub said_left : f.left ≤ length (edges_at E f.node)
  said_left = last_left E ends.0 f visits order said

  pub said_nexts : IsRooted E → (k : ℕ) → k < f.left → (edge_at E f.node k).next < length visits
  said_nexts = nexts_inside E ends.0 f visits order said

  module _ (g : Frame) (w : GoesOn E visits f g) where
    pub goes_inside : g.left < length (edges_at E g.node)
    goes_inside = edge_inside E ends.0 f visits order said g w

    pub goes_next : IsRooted E → (edge_at E g.node g.left).next < length visits
    goes_next = next_inside E ends.0 f visits order said g w

    module _ (n : ℕ) (edge : Edge) (seen : Visit) (r : IsRooted E) (len : n ≡ length whole) (is : edge ≡ edge_at E g.node g.left)
        (look : seen ≡ get_or visits edge.next seen) where
      ended : set whole (n - 1) g ≡ ends.0 ++ g ∷ []
      ended = frame_there ends.0 whole f g (n - 1) ends.1 (omega (arith, len, path_some ends.0 whole f ends.1))

      seen_inside : edge.next < length visits
      seen_inside = let next : edge.next ≡ (edge_at E g.node g.left).next = ap (λ e. e.next) is in omega (arith, next, goes_next r)

      seen_is : (v : Visit) → seen ≡ v → visit_at visits edge.next ≡ v
      seen_is v e = get_or_default visits edge.next New seen seen_inside ∙ sym look ∙ e

      seen_there : (v : Visit) → seen ≡ v → visit_at visits (edge_at E g.node g.left).next ≡ v
      seen_there v e = subst (λ x. visit_at visits x.next ≡ v) is (seen_is v e)

      less_work : (path : List Frame) (now : List Visit) → work_left path now < work_left (ends.0 ++ f ∷ []) visits
          → work_left path now < work_left whole visits
      less_work path now = subst (λ p. work_left path now < work_left p visits) (sym ends.1)

      pub said_skip : seen ≡ Placed → Searching E (set whole (n - 1) g) visits order
          × (work_left (set whole (n - 1) g) visits < work_left whole visits)
      said_skip on = rw ended (
        skip_edge E ends.0 f visits order said g w (seen_there Placed on),
        less_work (ends.0 ++ g ∷ []) visits (skip_edge_less E ends.0 f visits order said g w),
      )

      pub said_back : seen ≡ OnPath → Returns E (set whole (n - 1) g) edge.next
      said_back on = rw (ended, is) (come_back E ends.0 f visits order said g w (seen_there OnPath on))

      pub said_enter : (path : List Frame) (now : List Visit) (after : List ℕ) → seen ≡ New
          → path ≡ set whole (n - 1) g ++ record { node = edge.next; left = length (edges_at E edge.next) } ∷ []
          → now ≡ set visits edge.next OnPath → after ≡ order → length (edges_at E edge.next) < 2 ^ 64
          → Searching E path now after × (work_left path now < work_left whole visits)
      said_enter path now after on ep en ea fits =
          let h : Frame = record { node = edge.next; left = length (edges_at E edge.next) } in
          let next : edge.next ≡ (edge_at E g.node g.left).next = ap (λ e. e.next) is in
          rw (ep, ended, en, ea) (
            enter_edge E ends.0 f visits order said g w h next (seen_is New on) seen_inside refl,
            less_work ((ends.0 ++ g ∷ []) ++ h ∷ []) (set visits edge.next OnPath)
                (enter_edge_less E ends.0 f visits order said g w h next (seen_is New on) seen_inside refl fits),
          )

-- what `last` answers is the list's last item
pub ends_in : {X : Type 0} (path now : List X) (f : X) → now ≡ path → slice_get now (length now - 1) ≡ Some f
    → path ≡ take (length path - 1) path ++ f ∷ []
ends_in path now f same e =
    let e' : slice_get path (length path - 1) ≡ Some f = subst (λ l. slice_get l (length l - 1) ≡ Some f) same e in
    let lt = slice_get_within path (length path - 1) f e' in
    let whole : take (length path - 1 + 1) path ≡ path = take_all (length path - 1 + 1) path (omega (arith, lt)) in
    sym whole ∙ take_more path (length path - 1) f lt
    ∙ ap (λ x. take (length path - 1) path ++ x ∷ []) (get_or_from_slice_get path (length path - 1) f f e')
