-- The local moves of a position: they can be listed, and in a graph they are its edges.
use Rattle.std.proofs.Common.{zero, suc, ◌≡◌, ◌⊎◌, arith, inl, inr, refl, List, ◌∷◌, ℕ, ◌+◌, ◌-◌, ◌<◌, ◌≤◌, sym, ap, ◌∙◌, subst, [], length, Bool, true, false, Option, Some, None, Contains, Ok, ◌++◌, get_or, set, cond, count_by, map}
use Rattle.std.specs.List.{range_with_len}
use Rattle.std.proofs.lemmas.List.FromFn.{get_or-map-range_with_len, length-map-range_with_len}
use Rattle.std.proofs.lemmas.Bool.{cases_eq, cases_lt}
use Rattle.std.proofs.lemmas.List.{ext_get_or, get_or_past, length-set, get_or_default}
use Rattle.std.proofs.lemmas.List.Sums.{sum_by-cons, sum_by-set, count_by-le-length}
use Rattle.go_grid.specs.declared.grid.Cell.{Cell}
use Rattle.go_grid.specs.declared.grid.Cell.TheVariants as cell
use Rattle.go_grid.specs.declared.grid.Colour.{Colour}
use Rattle.go_grid.specs.declared.grid.Colour.TheVariants.{Black, White}
use Rattle.go_grid.specs.declared.region.Touch.{Touch}
use Rattle.go_grid.specs.Board.{other, stone}
use Rattle.go_grid.specs.Region.{touch_at, Region}
use Rattle.go_grid.proofs.PathLemmas.{leads_end, leads_start}
use Rattle.local_play.specs.LocalPlay.{held_at, is_beside, is_stone, with_stone, Holds, IsBeside, IsLinked, IsLocalMove, IsNumberTaken}
use Rattle.local_play.specs.inner.LocalPlay.{InLocalChain, IsFree, IsOpen, IsRemoved}
use Rattle.local_trees.specs.LocalGame.{Step}
use Rattle.local_trees.specs.PositionTree.{IsStep}
use Rattle.go_grid.proofs.DecidedLemmas.{Decided, alike, both, denied, either, leads_or_not, some_below}
use Rattle.go_grid.proofs.PlayLemmas.{long_after, held_inside}
use Rattle.go_grid.proofs.BoardLemmas.{same_or_not}
use Rattle.local_graph.specs.Built.{Built}
use Rattle.local_graph.specs.Graph.{Graph}
use Rattle.local_graph.specs.LocalGraph.{IsGraph}
use Rattle.local_trees.specs.GraphPlaces.{IsGraphOf, IsPlaceOf}
use Rattle.std.proofs.lemmas.List.Elements.{Contains-get_or}
use Rattle.local_play.specs.declared.local_move.LocalMove.{LocalMove}
use Rattle.local_play.specs.Packed.{pack}
use Rattle.local_play.proofs.PackLemmas.{pack_same}
use Rattle.local_graph.specs.declared.cycle.CycleMove.{CycleMove}
use Rattle.local_graph.specs.declared.graph.Edge.{Edge}
use Rattle.local_graph.specs.inner.Graph.{edges_at}
use Rattle.local_graph.proofs.EdgeListLemmas.{node_inside}
use Rattle.local_graph.proofs.OrderLemmas.{edge_for}
use Rattle.local_graph.proofs.PlayLemmas.{plays_more, plays_long, one_after}
use Rattle.local_trees.proofs.GraphMoves.{step_of, step_for, steps_of}

-- The items of a list with one more in front.

pub contains-head : (P : Type 0) (x : P) (xs : List P) → Contains (x ∷ xs) x
contains-head P x xs = (0, omega arith, refl)

pub contains-tail : (P : Type 0) (x y : P) (xs : List P) → Contains xs y → Contains (x ∷ xs) y
contains-tail P x y xs h = (suc h.0, omega (arith, h.1), h.2)

pub contains-cases : (P : Type 0) (x y : P) (xs : List P) → Contains (x ∷ xs) y → (x ≡ y) ⊎ Contains xs y
contains-cases P x y xs (zero, l, e) = inl e
contains-cases P x y xs (suc k, l, e) = inr (k, omega (arith, l), e)

-- The local moves of a position can be listed, since it can be decided which places are free and which chains are removed.

true_or_not : (b : Bool) → Decided (b ≡ true)
true_or_not true = inl refl
true_or_not false = inr (λ e. cc)

some_at : (o : Option ℕ) (P : ℕ → Type 0) → ((j : ℕ) → Decided (P j)) → Decided ((j : ℕ) × (o ≡ Some j) × P j)
some_at None P d = inr (λ (j, e, p). cc)
some_at (Some k) P d = elim (d k) [
  | inl p ↦ inl (k, refl, p)
  | inr f ↦ inr (λ (j, e, p). let same : k ≡ j = cc in f (subst P (sym same) p))
]

-- a list of so many cells
pub made : ℕ → (ℕ → Cell) → List Cell
made n f = map f (range_with_len 0 n)

pub length-made : (n : ℕ) (f : ℕ → Cell) → length (made n f) ≡ n
unfolding made
length-made n f = length-map-range_with_len f 0 n

pub made-at : (n : ℕ) (f : ℕ → Cell) (i : ℕ) → i < n → held_at (made n f) i ≡ f i
unfolding made
made-at n f i lt = get_or-map-range_with_len f 0 n i i cell.Empty lt (omega arith)

-- 1 for a stone
abbrev weight : Cell → ℕ
weight x = cond (is_stone x) 1 0

weight-stone : (c : Colour) → weight (stone c) ≡ 1
weight-stone Black = refl
weight-stone White = refl

count_less : (a b : List Cell) → length a ≡ length b → ((i : ℕ) → (held_at a i ≡ cell.Empty) ⊎ (held_at a i ≡ held_at b i))
    → count_by is_stone a ≤ count_by is_stone b
count_less [] b e h = omega arith
count_less (x ∷ a) [] e h = absurd (omega (arith, e))
count_less (x ∷ a) (y ∷ b) e h =
    let rest = count_less a b (omega (arith, e)) (λ i. h (suc i)) in
    let first : weight x ≤ weight y = elim (h 0) [
      | inl none ↦ let zero' = ap weight none in omega (arith, zero')
      | inr same ↦ let one = ap weight same in omega (arith, one)
    ] in
    omega (arith, rest, first, sum_by-cons weight x a, sum_by-cons weight y b)

pub same_cells_or_not : (a b : List Cell) → Decided (a ≡ b)
same_cells_or_not a b = alike _ _ (λ (long, e). pack_same a b long e) (λ e. (ap length e, ap pack e))
    (both _ _ (cases_eq (length a) (length b)) (cases_eq (pack a) (pack b)))

some_either : (A B P : ℕ → Type 0) → Decided ((j : ℕ) × A j × P j) → Decided ((j : ℕ) × B j × P j) → Decided ((j : ℕ) × (A j ⊎ B j) × P j)
some_either A B P (inl (j, a, p)) d = inl (j, inl a, p)
some_either A B P (inr f) (inl (j, b, p)) = inl (j, inr b, p)
some_either A B P (inr f) (inr g) = inr (λ (j, e, p). elim e [ inl a ↦ f (j, a, p) | inr b ↦ g (j, b, p) ])

module _ (touch : List Touch) where
  some_linked : (i : ℕ) (P : ℕ → Type 0) → ((j : ℕ) → Decided (P j)) → Decided ((j : ℕ) × IsLinked touch i j × P j)
  some_linked i P d =
      let t = touch_at touch i in
      some_either _ _ P (some_at t.up P d) (some_either _ _ P (some_at t.left P d) (some_either _ _ P (some_at t.right P d) (some_at t.down P d)))

  linked_or_not : (i j : ℕ) → Decided (IsLinked touch i j)
  linked_or_not i j = alike _ _ (λ (k, link, e). subst (IsLinked touch i) e link) (λ link. (j, link, refl)) (some_linked i (λ k. k ≡ j) (λ k. cases_eq k j))

  module _ (cells : List Cell) where
    chain_or_not : (c : Colour) (i j : ℕ) → Decided (InLocalChain touch cells c i j)
    chain_or_not c i j =
        leads_or_not (IsLinked touch) (Holds cells c) (length cells) (held_inside cells c) linked_or_not (λ k. same_or_not (held_at cells k) (stone c)) i j

    free_or_not : (c : Colour) (i : ℕ) → Decided (IsFree touch cells c i)
    free_or_not c i =
        alike _ _ (λ (j, lt, (chain, breath)). (j, chain, breath))
        (λ (j, chain, breath). (j, held_inside cells c j (leads_end (IsLinked touch) (Holds cells c) i j chain), (chain, breath)))
        (some_below (length cells) (λ j. InLocalChain touch cells c i j × (IsOpen touch cells j ⊎ IsBeside touch c j))
        (λ j. both _ _ (chain_or_not c i j)
        (either _ _ (some_linked j (λ k. held_at cells k ≡ cell.Empty) (λ k. same_or_not (held_at cells k) cell.Empty))
        (true_or_not (is_beside (touch_at touch j) c)))))

    removed_or_not : (p : ℕ) (d : Colour) (j : ℕ) → Decided (IsRemoved touch cells p d j)
    removed_or_not p d j =
        alike _ _ (λ (i, link, (chain, bound)). (i, link, chain, bound)) (λ (i, link, chain, bound). (i, link, (chain, bound)))
        (some_linked p (λ i. InLocalChain touch cells d i j × ¬ IsFree touch cells d i) (λ i. both _ _ (chain_or_not d i j) (denied _ (free_or_not d i))))

  emptied : (P : Type 0) → Decided P → Cell → Cell
  emptied P (inl p) x = cell.Empty
  emptied P (inr f) x = x

  emptied-is : (P : Type 0) (d : Decided P) (x y : Cell) → y ≡ emptied P d x → (P × (y ≡ cell.Empty)) ⊎ (¬ P × (y ≡ x))
  unfolding emptied
  emptied-is P (inl p) x y e = inl (p, e)
  emptied-is P (inr f) x y e = inr (f, e)

  module _ (cells : List Cell) (c : Colour) where
    abbrev placed : ℕ → List Cell
    placed p = with_stone cells p c

    abbrev Removed : ℕ → ℕ → Type 0
    Removed p i = IsRemoved touch (placed p) p (other c) i

    gone_or_not : (p i : ℕ) → Decided (Removed p i)
    gone_or_not p i = removed_or_not (placed p) p (other c) i

    -- the position after a stone at a place
    next : ℕ → List Cell
    next p = made (length cells) (λ i. emptied (Removed p i) (gone_or_not p i) (held_at (placed p) i))

    length-next : (p : ℕ) → length (next p) ≡ length cells
    unfolding next
    length-next p = length-made (length cells) _

    placed_long : (p : ℕ) → length (placed p) ≡ length cells
    placed_long p = length-set cells p (stone c)

    -- what is removed is empty there, and the rest is as it was placed; a place past the region is empty before and after
    outcome : (p i : ℕ) → (Removed p i × (held_at (next p) i ≡ cell.Empty)) ⊎ (¬ Removed p i × (held_at (next p) i ≡ held_at (placed p) i))
    unfolding next
    outcome p i = elim (cases_lt i (length cells)) [
      | inl lt ↦ emptied-is _ (gone_or_not p i) _ _ (made-at (length cells) _ i lt)
      | inr le ↦ (
          let none = get_or_past (next p) i cell.Empty (omega (arith, le, length-next p)) in
          let before = get_or_past (placed p) i cell.Empty (omega (arith, le, placed_long p)) in
          elim (gone_or_not p i) [ inl h ↦ inl (h, none) | inr f ↦ inr (f, none ∙ sym before) ]
          )
    ]

    abbrev IsLegal : ℕ → Type 0
    IsLegal p = (p < length cells) × ((held_at cells p ≡ cell.Empty) × IsFree touch (next p) c p)

    legal_or_not : (p : ℕ) → Decided (IsLegal p)
    legal_or_not p =
        let inside : Decided (p < length cells) = elim (cases_lt p (length cells)) [ inl lt ↦ inl lt | inr le ↦ inr (λ lt. omega (arith, lt, le)) ] in
        both _ _ inside (both _ _ (same_or_not (held_at cells p) cell.Empty) (free_or_not (next p) c p))

    gone : (p i : ℕ) → Removed p i → held_at (next p) i ≡ cell.Empty
    gone p i h = elim (outcome p i) [ inl w ↦ w.1 | inr w ↦ absurd (w.0 h) ]

    kept : (p i : ℕ) → ¬ Removed p i → held_at (next p) i ≡ held_at (placed p) i
    kept p i f = elim (outcome p i) [ inl w ↦ absurd (f w.0) | inr w ↦ w.1 ]

    legal_move : (p : ℕ) → IsLegal p → IsLocalMove touch cells c p (next p)
    legal_move p (place, (free, stands)) = record {
      place = place;
      free = free;
      without = record { long = length-next p ∙ sym (placed_long p); gone = gone p; kept = kept p };
      stands = stands;
    }

    -- each local move is one of these
    move_is : (p : ℕ) (after : List Cell) → IsLocalMove touch cells c p after → IsLegal p × (after ≡ next p)
    move_is p after m =
        let same : after ≡ next p = ext_get_or cell.Empty after (next p) (long_after m ∙ sym (length-next p)) (λ i _.
        elim (outcome p i) [ inl w ↦ m.without.gone i w.0 ∙ sym w.1 | inr w ↦ m.without.kept i w.0 ∙ sym w.1 ]) in
        ((m.place, (m.free, subst (λ x. IsFree touch x c p) same m.stands)), same)

    -- whether some local move of the player leads to the position
    pub move_or_not : (after : List Cell) → Decided ((p : ℕ) × IsLocalMove touch cells c p after)
    move_or_not after = alike _ _ (λ (p, lt, (l, e)). (p, subst (IsLocalMove touch cells c p) (sym e) (legal_move p l)))
        (λ (p, m). (p, m.place, move_is p after m))
        (some_below (length cells) (λ p. IsLegal p × (after ≡ next p)) (λ p. both _ _ (legal_or_not p) (same_cells_or_not after (next p))))

    taken : ℕ → ℕ
    taken p = (count_by is_stone cells + 1) - count_by is_stone (next p)

    number_taken : (p : ℕ) → IsLegal p → IsNumberTaken cells (next p) (taken p)
    unfolding taken
    number_taken p l =
        let one = sum_by-set weight cells p (stone c) cell.Empty l.0 in
        let none : weight (held_at cells p) ≡ 0 = ap weight l.1.0 in
        let less = count_less (next p) (placed p) (length-next p ∙ sym (placed_long p)) (λ i.
        elim (outcome p i) [ inl w ↦ inl w.1 | inr w ↦ inr w.1 ]) in
        omega (arith, one, none, weight-stone c, less)

    -- the moves of the player, with what each takes, as steps between values of `P`
    module _ (P : Type 0) (to : List Cell → P) where
      step : ℕ → Step P
      step p = record { to = to (next p); taken = taken p }

      with_step : (p : ℕ) → Decided (IsLegal p) → List (Step P) → List (Step P)
      with_step p (inl l) xs = step p ∷ xs
      with_step p (inr f) xs = xs

      steps_below : ℕ → List (Step P)
      steps_below zero = []
      steps_below (suc n) = with_step n (legal_or_not n) (steps_below n)

      pub steps : List (Step P)
      steps = steps_below (length cells)

      from_below : (n : ℕ) (x : Step P) → Contains (steps_below n) x → (p : ℕ) × IsLegal p × (step p ≡ x)
      unfolding steps_below with_step
      from_below zero x h = absurd (omega (arith, h.1))
      from_below (suc n) x h =
          elim (legal_or_not n) as (λ d. Contains (with_step n d (steps_below n)) x → (p : ℕ) × IsLegal p × (step p ≡ x)) [
            | inl l ↦ λ i. elim (contains-cases (Step P) (step n) x (steps_below n) i) [ inl e ↦ (n, l, e) | inr k ↦ from_below n x k ]
            | inr f ↦ λ i. from_below n x i
          ] h

      in_below : (n p : ℕ) → p < n → IsLegal p → Contains (steps_below n) (step p)
      unfolding steps_below with_step
      in_below zero p lt l = absurd (omega (arith, lt))
      in_below (suc n) p lt l = elim (legal_or_not n) as (λ d. Contains (with_step n d (steps_below n)) (step p)) [
        | inl k ↦ elim (cases_eq p n) as (λ _. Contains (step n ∷ steps_below n) (step p)) [
          | inl e ↦ (0, omega arith, ap step (sym e))
          | inr ne ↦ contains-tail (Step P) (step n) (step p) (steps_below n) (in_below n p (omega (arith, lt, ne)) l)
        ]
        | inr f ↦ elim (cases_eq p n) as (λ _. Contains (steps_below n) (step p)) [
          | inl e ↦ absurd (f (subst IsLegal e l))
          | inr ne ↦ in_below n p (omega (arith, lt, ne)) l
        ]
      ]

      -- a listed step is a local move
      pub step_out : (x : Step P) → Contains steps x
          → (y : Step (List Cell)) × IsStep touch c cells y × (to y.to ≡ x.to) × (y.taken ≡ x.taken)
      unfolding steps step
      step_out x h =
          let (p, l, e) = from_below (length cells) x h in
          (record { to = next p; taken = taken p }, (p, legal_move p l, number_taken p l), ap (λ z. z.to) e, ap (λ z. z.taken) e)

      -- and each local move is listed
      pub step_in : (y : Step (List Cell)) → IsStep touch c cells y → Contains steps (record { to = to y.to; taken = y.taken })
      unfolding steps step
      step_in y (p, move, number) =
          let (l, same) = move_is p y.to move in
          let here = in_below (length cells) p l.0 l in
          let count : taken p ≡ y.taken = (let n = number_taken p l in
          let m = subst (λ z. IsNumberTaken cells z y.taken) same number in omega (arith, n, m)) in
          subst (Contains (steps_below (length cells))) (λ i. record { to = to (sym same i); taken = count i }) here

-- a graph that was built is that of its region
pub graph_of : (r : Region) (g : Graph) (limit : ℕ) → length r.cells ≡ length r.points → Built r limit (Ok g) → IsGraphOf r g
graph_of r g limit full built = record {
  few = omega (arith, full, built.0);
  graph = built.3;
  order = built.4;
  no_cycle = built.2;
}

-- The edges of a graph are the local moves of its positions.

-- the edge of a local move, or the move of an edge
pub record IsEdgeFor (positions : List ℕ) (cells next : List Cell) (c : Colour) (i n : ℕ) (e : Edge) : Type 0 where
  pub colour : e.colour ≡ c
  pub place : e.place ≡ i
  pub inside : e.next < length positions
  pub leads : get_or positions e.next 0 ≡ pack next
  pub number : IsNumberTaken cells next e.taken
  pub taken : e.taken ≡ n

module _ (r : Region) (g : Graph) (graph : IsGraph r.touch r.cells g.positions g.edges) where
  -- an edge is a local move
  pub graph_move : (k : ℕ) (cells : List Cell) (e : Edge) → IsPlaceOf r g k cells → Contains (edges_at g.edges k) e
      → (next : List Cell) × IsLocalMove r.touch cells e.colour e.place next × IsEdgeFor g.positions cells next e.colour e.place e.taken e
  graph_move k cells e has (j, lt, at) =
      let h = graph.moves k cells has.inside has.reachable has.packed in
      let none : LocalMove = record { colour = e.colour; place = 0; next = 0; taken = 0 } in
      let short : j < length h.0 = omega (arith, lt, h.2.0) in
      let m = get_or h.0 j none in
      let w = h.2.1 j m e lt (get_or_default h.0 j m none short) at in
      let legal = h.1.legal m (Contains-get_or h.0 j none short) in
      let move = subst (λ x. IsLocalMove r.touch cells x m.place legal.after) (sym w.colour) legal.move in (
        legal.after,
        subst (λ x. IsLocalMove r.touch cells e.colour x legal.after) (sym w.place) move,
        record {
          colour = refl;
          place = refl;
          inside = w.inside;
          leads = w.next ∙ legal.next;
          number = subst (IsNumberTaken cells legal.after) (sym w.taken) legal.taken;
          taken = refl;
        },
      )

  -- a local move is an edge
  pub graph_edge : (k : ℕ) (cells next : List Cell) (c : Colour) (i n : ℕ) → IsPlaceOf r g k cells → IsLocalMove r.touch cells c i next
      → IsNumberTaken cells next n → (e : Edge) × Contains (edges_at g.edges k) e × IsEdgeFor g.positions cells next c i n e
  graph_edge k cells next c i n has move number =
      let h = edge_for r.touch r.cells g.positions g.edges graph k cells next (record { colour = c; place = i })
      has.inside has.reachable has.packed move in
      let (after, its_move, edge) = graph_move k cells h.e has h.among in
      let move' = subst (λ d. IsLocalMove r.touch cells d h.e.place next) (sym h.colour)
      (subst (λ x. IsLocalMove r.touch cells c x next) (sym h.place) move) in
      let same : after ≡ next = one_after r.touch cells after next h.e.colour h.e.place its_move move' in
      let number' : IsNumberTaken cells next h.e.taken = subst (λ x. IsNumberTaken cells x h.e.taken) same edge.number in (
        h.e,
        h.among,
        record {
          colour = h.colour;
          place = h.place;
          inside = h.inside;
          leads = h.leads;
          number = number';
          taken = omega (arith, number', number);
        },
      )

  -- it leads to a place of the graph
  pub graph_next : (k : ℕ) (cells next : List Cell) (c : Colour) (i n : ℕ) (e : Edge) → IsPlaceOf r g k cells → IsLocalMove r.touch cells c i next
      → IsEdgeFor g.positions cells next c i n e → IsPlaceOf r g e.next next
  graph_next k cells next c i n e has move edge =
      let m : CycleMove = record { colour = c; place = i } in record {
        inside = edge.inside;
        reachable = (has.reachable.0 ++ m ∷ [], plays_more r.touch r.cells cells next has.reachable.0 m has.reachable.1 move);
        packed = edge.leads;
      }

  -- a place of the graph is that of some position
  pub graph_position : (k : ℕ) → k < length g.positions → (cells : List Cell) × IsPlaceOf r g k cells
  graph_position k short =
      let (cells, reach, packed) = graph.reachable (get_or g.positions k 0) (Contains-get_or g.positions k 0 short) in
      (cells, record { inside = short; reachable = reach; packed = packed })

  -- each place with an edge is that of some position
  pub graph_cells : (k : ℕ) (e : Edge) → Contains (edges_at g.edges k) e → (cells : List Cell) × IsPlaceOf r g k cells
  graph_cells k e (j, lt, at) = graph_position k (omega (arith, node_inside g.edges k j lt, graph.beside))

  -- a move takes fewer stones than there are places
  pub graph_taken : (k : ℕ) (e : Edge) → Contains (edges_at g.edges k) e → e.taken < length r.cells
  graph_taken k e among =
      let (cells, has) = graph_cells k e among in
      let (after, move, edge) = graph_move k cells e has among in
      let long = plays_long r.touch r.cells cells has.reachable.0 has.reachable.1 in
      let free : weight (held_at cells e.place) ≡ 0 = ap weight move.free in
      let one = sum_by-set weight cells e.place cell.Black cell.Empty move.place in
      let room = count_by-le-length is_stone (set cells e.place cell.Black) in
      let stands : weight (held_at after e.place) ≡ 1 =
      ap weight (leads_start _ _ e.place move.stands.0 move.stands.1) ∙ weight-stone e.colour in
      let some = sum_by-set weight after e.place cell.Empty cell.Empty (omega (arith, move.place, long_after move)) in
      omega (arith, edge.number, free, one, room, length-set cells e.place cell.Black, stands, some, long)

module _ (r : Region) (g : Graph) (of : IsGraphOf r g) where
  pub move_of : (k : ℕ) (cells : List Cell) (e : Edge) → IsPlaceOf r g k cells → Contains (edges_at g.edges k) e
      → (next : List Cell) × IsLocalMove r.touch cells e.colour e.place next × IsEdgeFor g.positions cells next e.colour e.place e.taken e
  move_of = graph_move r g of.graph

  pub edge_of : (k : ℕ) (cells next : List Cell) (c : Colour) (i n : ℕ) → IsPlaceOf r g k cells → IsLocalMove r.touch cells c i next
      → IsNumberTaken cells next n → (e : Edge) × Contains (edges_at g.edges k) e × IsEdgeFor g.positions cells next c i n e
  edge_of = graph_edge r g of.graph

  pub next_place : (k : ℕ) (cells next : List Cell) (c : Colour) (i n : ℕ) (e : Edge) → IsPlaceOf r g k cells → IsLocalMove r.touch cells c i next
      → IsEdgeFor g.positions cells next c i n e → IsPlaceOf r g e.next next
  next_place = graph_next r g of.graph

  pub position_at : (k : ℕ) → k < length g.positions → (cells : List Cell) × IsPlaceOf r g k cells
  position_at = graph_position r g of.graph

  pub cells_at : (k : ℕ) (e : Edge) → Contains (edges_at g.edges k) e → (cells : List Cell) × IsPlaceOf r g k cells
  cells_at = graph_cells r g of.graph

  pub taken_less : (k : ℕ) (e : Edge) → Contains (edges_at g.edges k) e → e.taken < length r.cells
  taken_less = graph_taken r g of.graph

-- The steps of a graph are its edges, by player.

module _ (P : Type 0) (to : ℕ → P) where
  -- the edge is the step of a player
  pub record IsStepOf (c : Colour) (es : List Edge) (x : Step P) : Type 0 where
    pub edge : Edge
    pub among : Contains es edge
    pub colour : edge.colour ≡ c
    pub is : step_of P to edge ≡ x

  -- an edge comes in front where it is the player's
  in-front : (c d : Colour) (e : Edge) (steps : List (Step P))
      → ((d ≡ c) × (step_for P to c e d steps ≡ step_of P to e ∷ steps)) ⊎ ((d ≡ c → ⊥) × (step_for P to c e d steps ≡ steps))
  in-front Black Black e steps = inl (refl, refl)
  in-front White White e steps = inl (refl, refl)
  in-front Black White e steps = inr (λ i. cc, refl)
  in-front White Black e steps = inr (λ i. cc, refl)

  pub steps-out : (c : Colour) (es : List Edge) (x : Step P) → Contains (steps_of P to c es) x → IsStepOf c es x
  steps-out c [] x h = absurd (omega (arith, h.1))
  steps-out c (e ∷ es) x h = elim (in-front c e.colour e (steps_of P to c es)) [
    | inl (same, is) ↦ elim (contains-cases (Step P) (step_of P to e) x (steps_of P to c es) (subst (λ xs. Contains xs x) is h)) [
      | inl s ↦ record { edge = e; among = contains-head Edge e es; colour = same; is = s }
      | inr w ↦ later (steps-out c es x w)
    ]
    | inr (_, is) ↦ later (steps-out c es x (subst (λ xs. Contains xs x) is h))
  ]
    where
      later : IsStepOf c es x → IsStepOf c (e ∷ es) x
      later s = record { edge = s.edge; among = contains-tail Edge e s.edge es s.among; colour = s.colour; is = s.is }

  pub steps-in : (c : Colour) (es : List Edge) (e : Edge) → Contains es e → e.colour ≡ c → Contains (steps_of P to c es) (step_of P to e)
  steps-in c [] e h same = absurd (omega (arith, h.1))
  steps-in c (d ∷ es) e h same = elim (in-front c d.colour d (steps_of P to c es)) [
    | inl (_, is) ↦ subst (λ xs. Contains xs (step_of P to e)) (sym is) (elim (contains-cases Edge d e es h) [
      | inl w ↦ (0, omega arith, ap (step_of P to) w)
      | inr w ↦ contains-tail (Step P) (step_of P to d) (step_of P to e) (steps_of P to c es) (steps-in c es e w same)
    ])
    | inr (other, is) ↦ subst (λ xs. Contains xs (step_of P to e)) (sym is) (elim (contains-cases Edge d e es h) [
      | inl w ↦ absurd (other (ap (λ y. y.colour) w ∙ same))
      | inr w ↦ steps-in c es e w same
    ])
  ]
