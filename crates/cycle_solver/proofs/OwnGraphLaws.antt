-- Where a pairing carries one opening onto another, the graph of the first region, turned, is a graph of the second.
use Rattle.std.proofs.Common.{zero-add, ◌≡◌, ◌≢◌, ℕ, zero, suc, ◌+◌, ◌*◌, ◌/◌, ◌%◌, ◌<◌, ◌≤◌, ◌⊎◌, inl, inr, refl, sym, ap, ◌∙◌, subst, arith, cond, ltb, eqb, List, [], ◌∷◌, map, length, get_or, Bool, true, false, Contains, AllPairs}
use Rattle.std.specs.List.{position_or_len, range_with_len}
use Rattle.std.proofs.lemmas.Bool.{cases_Bool, cases_lt, both_ways, eq-eqb, eqb-true, ltb-true, ltb-false}
use Rattle.std.proofs.lemmas.List.{get_or_default, get_or-map, get_or_past, length-map}
use Rattle.std.proofs.lemmas.List.Elements.{Contains-get_or}
use Rattle.std.proofs.lemmas.List.FromFn.{get_or-range_with_len, length-range_with_len}
use Rattle.std.proofs.lemmas.List.Sums.{fails_before_first, passes_at_first}
use Rattle.go_grid.specs.declared.grid.Cell.{Cell}
use Rattle.go_grid.specs.declared.grid.Cell.TheVariants as cell
use Rattle.go_grid.specs.declared.grid.Colour.{Colour}
use Rattle.go_grid.specs.declared.grid.Colour.TheVariants.{Black, White}
use Rattle.go_grid.specs.Region.{Region}
use Rattle.local_play.specs.declared.local_move.LocalMove.{LocalMove}
use Rattle.local_play.specs.LocalPlay.{held_at, IsLocalMove}
use Rattle.local_play.specs.Moves.{IsMoveFrom, ListsLocalMoves}
use Rattle.local_play.specs.Packed.{code, pack}
use Rattle.local_play.proofs.PackLemmas.{pack_cons, pack_nil, pack_same}
use Rattle.local_graph.specs.declared.cycle.CycleMove.{CycleMove}
use Rattle.local_graph.specs.declared.graph.Edge.{Edge}
use Rattle.local_graph.specs.inner.Graph.{edges_at, no_edge}
use Rattle.local_graph.specs.LocalGraph.{AreEdges, HasMoves, IsEdgeOf, IsGraph, IsReachable}
use Rattle.local_graph.specs.ReturnGraph.{ReturnGraph}
use Rattle.local_graph.proofs.OrderLemmas.{edge_for}
use Rattle.local_graph.proofs.PlayLemmas.{plays_long}
use Rattle.local_value.specs.BudgetValues.{plain_graph}
use Rattle.local_trees.specs.GraphPlaces.{IsPlaceOf}
use Rattle.local_trees.proofs.MoveLaws.{graph_cells, graph_move, graph_next, graph_position}
use Rattle.region_book.specs.Shape.{cell_after, colour_after}
use Rattle.region_book.proofs.SymmetryLaws.{colour_back}
use Rattle.endgame_solver.proofs.CarriedLaws.{Matched, matched_back, matched_one, move_matched, reach_matched}
use Rattle.cycle_solver.specs.declared.views.View.{View}
use Rattle.cycle_solver.specs.Turned.{cell_of, cells_of, key, key_of, own, own_cell, own_edges, own_graph, own_number, put}

-- Positions and their numbers.

cell_of_code : (c : Cell) → cell_of (code c) ≡ c
cell_of_code cell.Empty = refl
cell_of_code cell.Black = refl
cell_of_code cell.White = refl

code_small : (c : Cell) → code c < 4
code_small cell.Empty = omega arith
code_small cell.Black = omega arith
code_small cell.White = omega arith

cells_nil : (n : ℕ) → cells_of 0 n ≡ []
unfolding cells_of
cells_nil n = refl

cells_step : (k n : ℕ) → cells_of (suc k) n ≡ cell_of (n % 4) ∷ cells_of k (n / 4)
unfolding cells_of
cells_step k n = refl

number_is : (v : View) (n : ℕ) → own_number v n ≡ pack (map (own_cell v (cells_of 32 n)) (range_with_len 0 32))
unfolding own_number
number_is v n = refl

-- the cells of a position's number are those of the position
unpacked : (k : ℕ) (cells : List Cell) → length cells ≤ k → (i : ℕ) → held_at (cells_of k (pack cells)) i ≡ held_at cells i
unpacked zero [] le i = ap (λ cs. held_at cs i) (cells_nil (pack []))
unpacked zero (c ∷ cells) le i = absurd (omega (arith, le))
unpacked (suc k) [] le i =
    ap (λ cs. held_at cs i) (ap (cells_of (suc k)) pack_nil ∙ cells_step k 0) ∙ below (λ i. unpacked k [] (omega arith) i) i
  where
    below : ((i : ℕ) → held_at (cells_of k (pack [])) i ≡ cell.Empty) → (i : ℕ) → held_at (cell.Empty ∷ cells_of k 0) i ≡ cell.Empty
    below rest zero = refl
    below rest (suc i) = ap (λ n. held_at (cells_of k n) i) (sym pack_nil) ∙ rest i
unpacked (suc k) (c ∷ cells) le i =
    ap (λ cs. held_at cs i) (ap (cells_of (suc k)) (pack_cons c cells) ∙ cells_step k (code c + 4 * pack cells))
    ∙ below (code_small c) (λ i. unpacked k cells (omega (arith, le)) i) i
  where
    below : code c < 4 → ((i : ℕ) → held_at (cells_of k (pack cells)) i ≡ held_at cells i) → (i : ℕ)
        → held_at (cell_of ((code c + 4 * pack cells) % 4) ∷ cells_of k ((code c + 4 * pack cells) / 4)) i ≡ held_at (c ∷ cells) i
    below small rest zero = (let last : (code c + 4 * pack cells) % 4 ≡ code c = omega (arith, small) in ap cell_of last ∙ cell_of_code c)
    below small rest (suc i) =
        (let others : (code c + 4 * pack cells) / 4 ≡ pack cells = omega (arith, small) in ap (λ n. held_at (cells_of k n) i) others ∙ rest i)

-- cells past the end are empty
same_number : (a b : List Cell) → ((i : ℕ) → held_at a i ≡ held_at b i) → pack a ≡ pack b
same_number [] [] same = refl
same_number [] (d ∷ b) same =
    let rest = same_number [] b (λ i. same (suc i)) in
    let first : code d ≡ 0 = ap code (sym (same 0)) in
    omega (arith, pack_cons d b, rest, first, pack_nil)
same_number (c ∷ a) [] same =
    let rest = same_number a [] (λ i. same (suc i)) in
    let first : code c ≡ 0 = ap code (same 0) in
    omega (arith, pack_cons c a, rest, first, pack_nil)
same_number (c ∷ a) (d ∷ b) same =
    let rest = same_number a b (λ i. same (suc i)) in
    let first : code c ≡ code d = ap code (same 0) in
    omega (arith, pack_cons c a, pack_cons d b, rest, first)

empty_after : (colours : Bool) → cell_after colours cell.Empty ≡ cell.Empty
empty_after false = refl
empty_after true = refl

-- Moves in order.

-- each later one has a greater key
abbrev Rising : List Edge → Type 0
Rising [] = Unit {0}
Rising (e ∷ es) = ((f : Edge) → Contains es f → key e < key f) × Rising es

here : (e f : Edge) (es : List Edge) → Contains (e ∷ es) f → (e ≡ f) ⊎ Contains es f
here e f es (zero, lt, is) = inl is
here e f es (suc i, lt, is) = inr (i, omega (arith, lt), is)

first : (e : Edge) (es : List Edge) → Contains (e ∷ es) e
first e es = (0, omega arith, refl)

later : (e f : Edge) (es : List Edge) → Contains es f → Contains (e ∷ es) f
later e f es (i, lt, is) = (suc i, omega (arith, lt), is)

put_front : (e f : Edge) (fs : List Edge) → ltb (key f) (key e) ≡ false → put e (f ∷ fs) ≡ e ∷ (f ∷ fs)
put_front e f fs more = ap (λ t. cond t (f ∷ put e fs) (e ∷ (f ∷ fs))) more

put_behind : (e f : Edge) (fs : List Edge) → ltb (key f) (key e) ≡ true → put e (f ∷ fs) ≡ f ∷ put e fs
put_behind e f fs less = ap (λ t. cond t (f ∷ put e fs) (e ∷ (f ∷ fs))) less

put_has : (e g : Edge) (fs : List Edge) → (e ≡ g) ⊎ Contains fs g → Contains (put e fs) g
put_has e g [] (inl is) = subst (Contains (e ∷ [])) is (first e [])
put_has e g [] (inr (i, lt, is)) = absurd (omega (arith, lt))
put_has e g (f ∷ fs) h = elim (cases_Bool (ltb (key f) (key e))) as (λ _. Contains (put e (f ∷ fs)) g) [
  | inl less ↦ subst (λ es. Contains es g) (sym (put_behind e f fs less)) (elim h as (λ _. Contains (f ∷ put e fs) g) [
    | inl is ↦ later f g (put e fs) (put_has e g fs (inl is))
    | inr among ↦ elim (here f g fs among) as (λ _. Contains (f ∷ put e fs) g) [
      | inl is ↦ subst (Contains (f ∷ put e fs)) is (first f (put e fs))
      | inr rest ↦ later f g (put e fs) (put_has e g fs (inr rest))
    ]
  ])
  | inr more ↦ subst (λ es. Contains es g) (sym (put_front e f fs more)) (elim h as (λ _. Contains (e ∷ (f ∷ fs)) g) [
    | inl is ↦ subst (Contains (e ∷ (f ∷ fs))) is (first e (f ∷ fs))
    | inr among ↦ later e g (f ∷ fs) among
  ])
]

put_from : (e g : Edge) (fs : List Edge) → Contains (put e fs) g → (e ≡ g) ⊎ Contains fs g
put_from e g [] h = here e g [] h
put_from e g (f ∷ fs) h = elim (cases_Bool (ltb (key f) (key e))) as (λ _. (e ≡ g) ⊎ Contains (f ∷ fs) g) [
  | inl less ↦ elim (here f g (put e fs) (subst (λ es. Contains es g) (put_behind e f fs less) h)) as (λ _. (e ≡ g) ⊎ Contains (f ∷ fs) g) [
    | inl is ↦ inr (subst (Contains (f ∷ fs)) is (first f fs))
    | inr rest ↦ elim (put_from e g fs rest) as (λ _. (e ≡ g) ⊎ Contains (f ∷ fs) g) [
      | inl is ↦ inl is
      | inr among ↦ inr (later f g fs among)
    ]
  ]
  | inr more ↦ here e g (f ∷ fs) (subst (λ es. Contains es g) (put_front e f fs more) h)
]

put_rising : (e : Edge) (fs : List Edge) → Rising fs → ((f : Edge) → Contains fs f → key f ≢ key e) → Rising (put e fs)
put_rising e [] rising apart = ((λ f (i, lt, is). absurd (omega (arith, lt))), tt)
put_rising e (f ∷ fs) (least, rest) apart = elim (cases_Bool (ltb (key f) (key e))) as (λ _. Rising (put e (f ∷ fs))) [
  | inl less ↦ subst Rising (sym (put_behind e f fs less)) (
    (λ g among. elim (put_from e g fs among) as (λ _. key f < key g) [
      | inl is ↦ subst (λ x. key f < key x) is (ltb-true (key f) (key e) less)
      | inr there ↦ least g there
    ]),
    put_rising e fs rest (λ g there. apart g (later f g fs there)),
  )
  | inr more ↦
      let le = ltb-false (key f) (key e) more in
      let other = apart f (first f fs) in
      let before : key e < key f = omega (arith, le, other) in
      subst Rising (sym (put_front e f fs more)) (
        (λ g among. elim (here f g fs among) as (λ _. key e < key g) [
          | inl is ↦ subst (λ x. key e < key x) is before
          | inr there ↦ (let after = least g there in omega (arith, before, after))
        ]),
        (least, rest),
      )
]

rising_pairs : (es : List Edge) → Rising es → AllPairs (λ a b. key a < key b) es
rising_pairs [] rising j k d lt short = absurd (omega (arith, short))
rising_pairs (e ∷ es) (least, rest) zero zero d lt short = absurd (omega (arith, lt))
rising_pairs (e ∷ es) (least, rest) zero (suc k) d lt short = least (get_or es k d) (Contains-get_or es k d (omega (arith, short)))
rising_pairs (e ∷ es) (least, rest) (suc j) zero d lt short = absurd (omega (arith, lt))
rising_pairs (e ∷ es) (least, rest) (suc j) (suc k) d lt short = rising_pairs es rest j k d (omega (arith, lt)) (omega (arith, short))

-- the moves that edges stand for
pub own_has : (v : View) (f : Edge) (es : List Edge) → Contains es f → Contains (own_edges v es) (own v f)
own_has v f [] (i, lt, is) = absurd (omega (arith, lt))
own_has v f (e ∷ es) h = put_has (own v e) (own v f) (own_edges v es) (elim (here e f es h) as (λ _. (own v e ≡ own v f) ⊎ Contains (own_edges v es) (own v f)) [
  | inl is ↦ inl (ap (own v) is)
  | inr rest ↦ inr (own_has v f es rest)
])

pub own_from : (v : View) (g : Edge) (es : List Edge) → Contains (own_edges v es) g → (f : Edge) × Contains es f × (g ≡ own v f)
own_from v g [] (i, lt, is) = absurd (omega (arith, lt))
own_from v g (e ∷ es) h = elim (put_from (own v e) g (own_edges v es) h) as (λ _. (f : Edge) × Contains (e ∷ es) f × (g ≡ own v f)) [
  | inl is ↦ (e, first e es, sym is)
  | inr rest ↦ (let (f, among, is) = own_from v g es rest in (f, later e f es among, is))
]

own_rising : (v : View) (es : List Edge) → AllPairs (λ a b. key (own v a) ≢ key (own v b)) es → Rising (own_edges v es)
own_rising v [] apart = tt
own_rising v (e ∷ es) apart =
    put_rising (own v e) (own_edges v es) (own_rising v es (λ j k d lt short. apart (suc j) (suc k) d (omega (arith, lt)) (omega (arith, short))))
    (λ g among same.
    let (f, (k, short, there), is) = own_from v g es among in
    apart 0 (suc k) f (omega arith) (omega (arith, short)) (sym (ap (λ x. key (own v x)) there ∙ ap key (sym is) ∙ same)))

-- the key of a move tells its colour and its place, of which there are at most 32
same_key : (c d : Colour) (m n : ℕ) → m < 32 → n < 32 → key_of c m ≡ key_of d n → (c ≡ d) × (m ≡ n)
same_key Black Black m n a b e = (refl, e)
same_key Black White m n a b e = absurd (omega (arith, a, e))
same_key White Black m n a b e = absurd (omega (arith, b, e))
same_key White White m n a b e = (refl, omega (arith, e))

key_before : (c d : Colour) (m n : ℕ) → m < 32 → n < 32 → key_of c m < key_of d n → ((c ≡ d) × (m < n)) ⊎ ((c ≡ Black) × (d ≡ White))
key_before Black Black m n a b lt = inl (refl, lt)
key_before Black White m n a b lt = inr (refl, refl)
key_before White Black m n a b lt = absurd (omega (arith, b, lt))
key_before White White m n a b lt = inl (refl, omega (arith, lt))

black≢white : {c d : Colour} → c ≡ Black → d ≡ White → c ≢ d
black≢white b w e = apart (sym b ∙ e ∙ w)
  where
    apart : Black ≡ White → ⊥
    apart h = subst (λ c. Is c) h tt
      where
        Is : Colour → Type 0
        Is Black = Unit {0}
        Is White = ⊥

module _ (q r : Region) (h : ReturnGraph) {Paired : ℕ → ℕ → Type 0} (v : View)
    (opening : Matched q.touch r.touch Paired v.colours q.cells r.cells) (graph : IsGraph q.touch q.cells h.positions h.edges)
    (small : length q.cells ≤ 32) (few : length r.cells ≤ 32) (wide : length v.places ≡ 32)
    (partner : (j i : ℕ) → Paired j i → get_or v.places j 0 ≡ i) where
  abbrev pub Onto : List Cell → List Cell → Type 0
  Onto a b = Matched q.touch r.touch Paired v.colours a b

  abbrev turned : ReturnGraph
  turned = own_graph v h

  pub long : (a : List Cell) → IsReachable q.touch q.cells a → length a ≡ length q.cells
  long a (ms, plays) = plays_long q.touch q.cells a ms plays

  pub turned_long : (b : List Cell) → IsReachable r.touch r.cells b → length b ≡ length r.cells
  turned_long b (ms, plays) = plays_long r.touch r.cells b ms plays

  -- the cell that is seen at a place of the region is the one that is there
  seen : (a b : List Cell) → Onto a b → (i : ℕ) → own_cell v a i ≡ held_at b i
  seen a b m i =
      let k = position_or_len (λ p. eqb p i) v.places in
      let full = m.linked.full in
      let full' = m.linked'.full in
      let inside : length a ≤ 32 = omega (arith, full, opening.linked.full, small) in
      let here : k < 32 → get_or v.places k 0 ≡ i =
      λ lt. eqb-true (get_or v.places k 0) i (passes_at_first (λ p. eqb p i) v.places 0 (omega (arith, lt, wide))) in
      elim (cases_lt k (length a)) as (λ _. own_cell v a i ≡ held_at b i) [
        | inl lt ↦
            let (i', paired) = m.carries.first k (omega (arith, lt, full)) in
            let same : i' ≡ i = sym (partner k i' paired) ∙ here (omega (arith, lt, inside)) in
            sym (m.carries.held k i (subst (Paired k) same paired))
        | inr past ↦
            let none : held_at a k ≡ cell.Empty = get_or_past a k cell.Empty past in
            ap (cell_after v.colours) none ∙ empty_after v.colours
            ∙ sym (elim (cases_lt i (length b)) as (λ _. held_at b i ≡ cell.Empty) [
              | inl lt ↦
                  let (j, paired) = m.carries.second i (omega (arith, lt, full')) in
                  let short = (m.carries.inside j i paired).0 in
                  let found : eqb (get_or v.places j 0) i ≡ true = eq-eqb (get_or v.places j 0) i (partner j i paired) in
                  elim (cases_lt j k) as (λ _. held_at b i ≡ cell.Empty) [
                    | inl before ↦ absurd (both_ways (eqb (get_or v.places j 0) i) (fails_before_first (λ p. eqb p i) v.places j 0 before) found)
                    | inr behind ↦ absurd (omega (arith, past, behind, short, full))
                  ]
              | inr le ↦ get_or_past b i cell.Empty le
            ])
      ]

  pub number_matched : (a b : List Cell) → length a ≤ 32 → Onto a b → own_number v (pack a) ≡ pack b
  number_matched a b le m =
      number_is v (pack a) ∙ same_number (map (own_cell v (cells_of 32 (pack a))) (range_with_len 0 32)) b (λ i. each i (cases_lt i 32))
    where
      ranged : length (range_with_len 0 32) ≡ 32
      ranged = length-range_with_len 0 32

      each : (i : ℕ) → (i < 32) ⊎ (32 ≤ i) → held_at (map (own_cell v (cells_of 32 (pack a))) (range_with_len 0 32)) i ≡ held_at b i
      each i (inl lt) =
          get_or-map (own_cell v (cells_of 32 (pack a))) (range_with_len 0 32) i 0 cell.Empty (omega (arith, lt, ranged))
          ∙ ap (own_cell v (cells_of 32 (pack a))) (get_or-range_with_len 0 32 i 0 lt ∙ zero-add i)
          ∙ ap (cell_after v.colours) (unpacked 32 a le (position_or_len (λ p. eqb p i) v.places)) ∙ seen a b m i
      each i (inr past) =
          get_or_past (map (own_cell v (cells_of 32 (pack a))) (range_with_len 0 32)) i cell.Empty
          (omega (arith, past, length-map (range_with_len 0 32) (own_cell v (cells_of 32 (pack a))), ranged))
          ∙ sym (get_or_past b i cell.Empty (omega (arith, past, m.linked'.full, opening.linked'.full, few)))

  many : length turned.positions ≡ length h.positions
  many = length-map h.positions (own_number v)

  pub at_number : (i : ℕ) (a b : List Cell) → IsPlaceOf q (plain_graph h) i a → Onto a b → get_or turned.positions i 0 ≡ pack b
  at_number i a b has m =
      get_or-map (own_number v) h.positions i 0 0 has.inside ∙ ap (own_number v) has.packed
      ∙ number_matched a b (omega (arith, long a has.reachable, small)) m

  -- a place of the graph, and what its position is carried onto
  pub record IsTurnedPlace (i : ℕ) : Type 0 where
    pub cells : List Cell
    pub has : IsPlaceOf q (plain_graph h) i cells
    pub turned : List Cell
    pub matched : Onto cells turned
    pub reached : IsReachable r.touch r.cells turned
    pub number : get_or (own_graph v h).positions i 0 ≡ pack turned

  pub turned_place : (i : ℕ) → i < length h.positions → IsTurnedPlace i
  turned_place i lt =
      let (cells, has) = graph_position q (plain_graph h) graph i lt in
      let (b, reached, m) = reach_matched opening cells has.reachable in
      record { cells = cells; has = has; turned = b; matched = m; reached = reached; number = at_number i cells b has m }

  -- each position that is reached has a place
  pub place_of : (b : List Cell) → IsReachable r.touch r.cells b → (i : ℕ) × (a : List Cell) × IsPlaceOf q (plain_graph h) i a × Onto a b
  place_of b reach =
      let (a, reached, m) = reach_matched (matched_back opening) b reach in
      let (i, inside, is) = graph.all a reached in (
        i,
        a,
        record { inside = inside; reachable = reached; packed = get_or_default h.positions i 0 (pack a) inside ∙ is },
        matched_back m,
      )

  -- the position of a place of the turned graph
  pub position_of : (i : ℕ) (b : List Cell) → IsPlaceOf r (plain_graph turned) i b → (a : List Cell) × IsPlaceOf q (plain_graph h) i a × Onto a b
  position_of i b has =
      let w = turned_place i (omega (arith, has.inside, many)) in
      let same = pack_same w.turned b (turned_long w.turned w.reached ∙ sym (turned_long b has.reachable)) (sym w.number ∙ has.packed) in
      (w.cells, w.has, subst (Onto w.cells) same w.matched)

  pub edges_turned : (i : ℕ) → edges_at turned.edges i ≡ own_edges v (edges_at h.edges i)
  edges_turned i = elim (cases_lt i (length h.edges)) as (λ _. edges_at turned.edges i ≡ own_edges v (edges_at h.edges i)) [
    | inl lt ↦ get_or-map (own_edges v) h.edges i [] [] lt
    | inr le ↦
        get_or_past (map (own_edges v) h.edges) i [] (omega (arith, le, length-map h.edges (own_edges v)))
        ∙ ap (own_edges v) (sym (get_or_past h.edges i [] le))
  ]

  -- an edge's place, and the place that it is of the region
  own_place : (i : ℕ) (f : Edge) → Contains (edges_at h.edges i) f → (p : ℕ) × Paired f.place p × (p < 32)
  own_place i f among =
      let (cells, has) = graph_cells q (plain_graph h) graph i f among in
      let (a, m, e) = graph_move q (plain_graph h) graph i cells f has among in
      let lt : f.place < length q.cells = omega (arith, m.place, long cells has.reachable) in
      let (p, paired) = opening.carries.first f.place (omega (arith, lt, opening.linked.full)) in
      let inside = (opening.carries.inside f.place p paired).1 in
      (p, paired, omega (arith, inside, opening.linked'.full, few))

  own_small : (i : ℕ) (f : Edge) → Contains (edges_at h.edges i) f → get_or v.places f.place 0 < 32
  own_small i f among = let (p, paired, less) = own_place i f among in subst (λ n. n < 32) (sym (partner f.place p paired)) less

  -- edges whose moves have one key have one colour and one place
  same_stone : (i : ℕ) (e f : Edge) → Contains (edges_at h.edges i) e → Contains (edges_at h.edges i) f → key (own v e) ≡ key (own v f)
      → (e.colour ≡ f.colour) × (e.place ≡ f.place)
  same_stone i e f he hf same =
      let (p, paired, less) = own_place i e he in
      let (p', paired', less') = own_place i f hf in
      let (colour, place) = same_key _ _ _ _ (own_small i e he) (own_small i f hf) same in (
        sym (colour_back v.colours e.colour) ∙ ap (colour_after v.colours) colour ∙ colour_back v.colours f.colour,
        (opening.carries.one e.place p f.place p' paired paired').1 (sym (partner e.place p paired) ∙ place ∙ partner f.place p' paired'),
      )

  -- so they rise
  rising : (i : ℕ) → i < length h.positions → AllPairs (λ a b. key a < key b) (own_edges v (edges_at h.edges i))
  rising i lt = rising_pairs (own_edges v (edges_at h.edges i)) (own_rising v (edges_at h.edges i) (λ j k d less short same.
      let es = edges_at h.edges i in
      let w = turned_place i lt in
      let moves = graph.moves i w.cells lt w.has.reachable w.has.packed in
      let none : LocalMove = record { colour = Black; place = 0; next = 0; taken = 0 } in
      let early : j < length es = omega (arith, less, short) in
      let e = get_or es j d in
      let f = get_or es k d in
      let x = moves.2.1 j (get_or moves.0 j none) e early (get_or_default moves.0 j (get_or moves.0 j none) none (omega (arith, early, moves.2.0)))
      (get_or_default es j e d early) in
      let y = moves.2.1 k (get_or moves.0 k none) f short (get_or_default moves.0 k (get_or moves.0 k none) none (omega (arith, short, moves.2.0)))
      (get_or_default es k f d short) in
      let (colour, place) = same_stone i e f (Contains-get_or es j d early) (Contains-get_or es k d short) same in
      elim (moves.1.in_order j k none less (omega (arith, short, moves.2.0))) as (λ _. ⊥) [
        | inl (c, p) ↦ (let same' = sym x.place ∙ place ∙ y.place in omega (arith, p, same'))
        | inr (b, w) ↦ black≢white b w (sym x.colour ∙ colour ∙ y.colour)
      ]))

  abbrev move_for : Edge → LocalMove
  move_for e = record { colour = e.colour; place = e.place; next = get_or turned.positions e.next 0; taken = e.taken }

  -- the edge's move, turned, is a move of the turned position
  turned_move : (i : ℕ) (w : IsTurnedPlace i) (f : Edge) → Contains (edges_at h.edges i) f → IsMoveFrom r.touch w.turned (move_for (own v f))
  turned_move i w f among =
      let (a, m, e) = graph_move q (plain_graph h) graph i w.cells f w.has among in
      let x = move_matched w.matched a f.colour f.place m in
      let there = graph_next q (plain_graph h) graph i w.cells a f.colour f.place f.taken f w.has m e in
      record {
        after = x.next;
        move = subst (λ p. IsLocalMove r.touch w.turned (colour_after v.colours f.colour) p x.next) (sym (partner f.place x.place x.paired)) x.move;
        next = at_number f.next a x.next there x.matched;
        taken = x.number f.taken e.number;
      }

  -- the turned edges are the moves of the turned position
  module _ (i : ℕ) (lt : i < length h.positions) (w : IsTurnedPlace i) where
    abbrev es : List Edge
    es = own_edges v (edges_at h.edges i)

    item_small : (k : ℕ) → k < length es → (get_or es k no_edge).place < 32
    item_small k short =
        let (f, among, is) = own_from v (get_or es k no_edge) (edges_at h.edges i) (Contains-get_or es k no_edge short) in
        subst (λ e. e.place < 32) (sym is) (own_small i f among)

    lists : ListsLocalMoves r.touch w.turned (map move_for es)
    lists = record {
      legal = λ m (k, less, is).
          let short : k < length es = omega (arith, less, length-map es move_for) in
          let (f, among, same) = own_from v (get_or es k no_edge) (edges_at h.edges i) (Contains-get_or es k no_edge short) in
          subst (IsMoveFrom r.touch w.turned) (ap move_for (sym same) ∙ sym (get_or-map move_for es k no_edge m short) ∙ is) (turned_move i w f among);
      all = λ c p after move.
          let x = move_matched (matched_back w.matched) after c p move in
          let step : CycleMove = record { colour = colour_after v.colours c; place = x.place } in
          let f = edge_for q.touch q.cells h.positions h.edges graph i w.cells x.next step w.has.inside w.has.reachable w.has.packed x.move in
          let (j, less, there) = own_has v f.e (edges_at h.edges i) f.among in (
            move_for (own v f.e),
            (j, omega (arith, less, length-map es move_for), get_or-map move_for es j (own v f.e) (move_for (own v f.e)) less ∙ ap move_for there),
            ap (colour_after v.colours) f.colour ∙ colour_back v.colours c,
            ap (λ z. get_or v.places z 0) f.place ∙ partner x.place p x.paired,
          );
      in_order = λ j k d less short.
          let last : k < length es = omega (arith, short, length-map es move_for) in
          let early : j < length es = omega (arith, less, last) in
          let a = get_or es j no_edge in
          let b = get_or es k no_edge in
          rw (get_or-map move_for es j no_edge d early, get_or-map move_for es k no_edge d last)
          (key_before a.colour b.colour a.place b.place (item_small j early) (item_small k last) (rising i lt j k no_edge less last));
    }

    are_edges : AreEdges turned.positions (map move_for es) es
    are_edges = (
      sym (length-map es move_for),
      λ k m e short is is'.
          let (f, among, same) = own_from v e (edges_at h.edges i) (k, short, is') in
          let (a, move, edge) = graph_move q (plain_graph h) graph i w.cells f w.has among in
          let inside : e.next < length turned.positions = subst (λ y. y.next < length turned.positions) (sym same) (omega (arith, edge.inside, many)) in
          subst (λ m. IsEdgeOf turned.positions m e) (ap move_for (sym is') ∙ sym (get_or-map move_for es k e m short) ∙ is)
          record { colour = refl; place = refl; taken = refl; inside = inside; next = refl },
    )

    has_moves : HasMoves r.touch w.turned turned.positions es
    has_moves = (map move_for es, lists, are_edges)

  pub graph_turned : IsGraph r.touch r.cells turned.positions turned.edges
  graph_turned = record {
    some = omega (arith, graph.some, many);
    first = at_number 0 q.cells r.cells (record { inside = graph.some; reachable = ([], refl); packed = graph.first }) opening;
    once = λ j k d lt short e.
        let last : k < length h.positions = omega (arith, short, many) in
        let early : j < length h.positions = omega (arith, lt, last) in
        let a = turned_place j early in
        let b = turned_place k last in
        let numbers = get_or_default turned.positions j 0 d (omega (arith, early, many)) ∙ e ∙ sym (get_or_default turned.positions k 0 d short) in
        let same = pack_same a.turned b.turned (turned_long a.turned a.reached ∙ sym (turned_long b.turned b.reached)) (sym a.number ∙ numbers ∙ b.number) in
        let cells = matched_one (matched_back a.matched) (matched_back (subst (Onto b.cells) (sym same) b.matched)) in
        graph.once j k 0 lt last (a.has.packed ∙ ap pack cells ∙ sym b.has.packed);
    reachable = λ n (i, lt, is).
        let w = turned_place i (omega (arith, lt, many)) in
        (w.turned, w.reached, sym is ∙ sym (get_or_default turned.positions i 0 n lt) ∙ w.number);
    all = λ b reach.
        let (i, a, has, m) = place_of b reach in
        let lt : i < length turned.positions = omega (arith, has.inside, many) in
        (i, lt, sym (get_or_default turned.positions i 0 (pack b) lt) ∙ at_number i a b has m);
    beside = length-map h.edges (own_edges v) ∙ graph.beside ∙ sym many;
    moves = λ i b lt reach is.
        let inside : i < length h.positions = omega (arith, lt, many) in
        let w = turned_place i inside in
        let same = pack_same w.turned b (turned_long w.turned w.reached ∙ sym (turned_long b reach)) (sym w.number ∙ is) in
        subst (λ x. HasMoves r.touch x turned.positions (edges_at turned.edges i)) same
        (subst (HasMoves r.touch w.turned turned.positions) (sym (edges_turned i)) (has_moves i inside w));
  }
