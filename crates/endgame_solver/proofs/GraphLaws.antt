-- What a region's graph and values say of it; and where a pairing carries one opening onto another, the first region's graph and values,
-- turned, are those of the second.
use Rattle.std.proofs.Common.{◌≡◌, ℕ, ◌*◌, ◌^◌, ◌<◌, ◌≤◌, inl, inr, sym, ◌∙◌, subst, arith, List, [], ◌∷◌, ◌++◌, length, get_or, take, drop, true, false, zero, suc, ◌+◌, ◌⊎◌, refl, ap, map, Contains, Bool, All, AllPairs, mul-le-mul, mul-le-mul_right}
use Rattle.local_graph.specs.declared.graph.TheConstants.{MOST_POSITIONS}
use Rattle.std.proofs.lemmas.Bool.{cases_lt, cases_eq}
use Rattle.std.proofs.lemmas.List.{get_or_default, take-append-drop, get_or-map, length-map}
use Rattle.std.proofs.lemmas.List.Elements.{All-cons, All-nil, All-weaker, Contains-get_or, Contains-append_left, Contains-push, Contains-push_cases}
use Rattle.go_grid.specs.declared.grid.Cell.{Cell}
use Rattle.go_grid.specs.declared.region.Touch.{Touch}
use Rattle.go_grid.specs.Region.{Region}
use Rattle.local_play.specs.Packed.{pack}
use Rattle.local_graph.specs.declared.cycle.CycleMove.{CycleMove}
use Rattle.local_graph.specs.declared.graph.Edge.{Edge}
use Rattle.local_graph.specs.LocalGraph.{IsCycle, IsGraph, MoreThan, Plays, AreEdges, HasMoves, IsEdgeOf, IsReachable}
use Rattle.local_graph.specs.Graph.{Graph}
use Rattle.local_graph.proofs.BuildLemmas.{all_positions, not_more}
use Rattle.local_graph.proofs.PlayLemmas.{plays_both, one_after, plays_long}
use Rattle.short_games.specs.Tree.{Tree, tree_at}
use Rattle.short_games.specs.Parts.{HasMoreParts}
use Rattle.short_games.proofs.ReductionLaws.{canonical-same}
use Rattle.game_canon.specs.Changes.{HasNumberPastBounds}
use Rattle.short_games.proofs.OrderLaws.{same-sym, same-trans}
use Rattle.local_trees.specs.PositionTree.{IsStep, IsValueOf, IsTreeOf}
use Rattle.local_trees.specs.GraphPlaces.{IsGraphOf, IsPlaceOf}
use Rattle.local_value.specs.Values.{AreValues}
use Rattle.local_trees.proofs.TreeLaws.{trees-same, trees-exist}
use Rattle.endgame_solver.specs.Faults.{HasLargeForm}
use Rattle.go_grid.proofs.PlayLemmas.{long_after}
use Rattle.go_grid.specs.declared.grid.Colour.{Colour}
use Rattle.go_grid.specs.declared.grid.Colour.TheVariants.{Black, White}
use Rattle.local_play.specs.declared.local_move.LocalMove.{LocalMove}
use Rattle.local_play.specs.LocalPlay.{IsLocalMove, IsNumberTaken}
use Rattle.local_play.specs.Moves.{IsMoveFrom, ListsLocalMoves}
use Rattle.local_play.proofs.PackLemmas.{pack_same}
use Rattle.local_graph.specs.FiniteLocalPlay.{HasNoCycle}
use Rattle.local_graph.specs.inner.Graph.{edges_at, no_edge}
use Rattle.local_graph.proofs.EdgeListLemmas.{node_inside}
use Rattle.local_graph.proofs.OrderLemmas.{edge_for, same_place}
use Rattle.go_grid.proofs.DecidedLemmas.{Decided, alike, some_below}
use Rattle.local_trees.proofs.MoveLaws.{cells_at, move_of, next_place, position_at}
use Rattle.region_book.specs.Shape.{colour_after}
use Rattle.region_book.proofs.SymmetryLaws.{colour_back, back}
use Rattle.endgame_solver.specs.inner.Views.{Serves, own}
use Rattle.endgame_solver.specs.declared.views.View.{View}
use Rattle.game_canon.proofs.NegationLaws.{chosen}
use Rattle.game_store.specs.Forms.{HaveForms}
use Rattle.short_games.specs.Order.{◌≡ᵍ◌}
use Rattle.short_games.specs.TextOrder.{IsCanonicalFor}
use Rattle.short_games.proofs.SumLaws.{neg-le}
use Rattle.game_canon.proofs.NumberPartLaws.{within-bounds}
use Rattle.endgame_solver.specs.ShapeValues.{game_after}
use Rattle.endgame_solver.specs.inner.Sharing.{AreTurnedValues}
use Rattle.endgame_solver.specs.inner.Solving.{IsGraphWithin, IsSolvedBy}
use Rattle.endgame_solver.specs.Limits.{Limits}
use Rattle.std.proofs.lemmas.List.Quantifiers.{all_pairs_push}
use Rattle.endgame_solver.proofs.CarriedLaws.{Matched, cycle_matched, matched_back, matched_one, move_matched, reach_matched, trees_over}

-- How many positions a graph has, that no form is too large, and where its moves are.

-- a product of a million and 32 is as much as the sizes of values may be
pub few_units : (positions cells scale : ℕ) → positions ≤ MOST_POSITIONS → cells ≤ 32 → (positions * cells) * scale ≤ 32000000 * scale
few_units positions cells scale few small =
    let area : positions * cells ≤ MOST_POSITIONS * 32 = mul-le-mul {n₂ = MOST_POSITIONS} {m₂ = 32} few small in
    mul-le-mul_right scale (omega (arith, area))

-- a position has one value
pub one_value : (touch : List Touch) (cells : List Cell) (V W : Tree) → IsValueOf touch cells V → IsValueOf touch cells W → V ≡ W
one_value touch cells V W v w =
    let trees = trees-same (List Cell) (IsStep touch) (3 ^ length cells) cells v.tree w.tree v.of_position w.of_position in
    let same = same-trans V v.tree W (same-sym v.tree V v.same) (same-trans v.tree w.tree W trees w.same) in
    canonical-same V W v.canonical w.canonical same.0 same.1

module _ (r : Region) (g : Graph) (of : IsGraphOf r g) where
  -- no value of a reachable position is too large where none of the graph is
  pub no_large_form : (Ts : List Tree) (ids : List ℕ) (limit : ℕ) → AreValues r g Ts ids
      → ((i : ℕ) → i < length ids → HasMoreParts (tree_at Ts (get_or ids i 0)) limit → ⊥)
      → ((i : ℕ) → i < length ids → HasNumberPastBounds (tree_at Ts (get_or ids i 0)) → ⊥) → ¬ HasLargeForm r limit
  no_large_form Ts ids limit are few within (cells, reach, (V, is, large)) =
      let (i, inside, at) = of.graph.all cells reach in
      let has : IsPlaceOf r g i cells = record { inside = inside; reachable = reach; packed = get_or_default g.positions i 0 (pack cells) inside ∙ at } in
      let same = one_value r.touch cells V (tree_at Ts (get_or ids i 0)) is (are.each i cells has) in
      let lt : i < length ids = omega (arith, inside, are.long) in
      elim large as (λ _. ⊥) [
        | inl more ↦ few i lt (subst (λ X. HasMoreParts X limit) same more)
        | inr past ↦ within i lt (subst HasNumberPastBounds same past)
      ]

-- a graph has no more positions than are reachable
pub positions_few : (touch : List Touch) (opening : List Cell) (positions : List ℕ) (edges : List (List Edge)) (limit : ℕ)
    → IsGraph touch opening positions edges → ¬ MoreThan touch opening limit → length positions ≤ limit
positions_few touch opening positions edges limit g not =
    let (found, different, reached, long) = all_positions touch opening positions edges g in
    elim (cases_lt limit (length positions)) as (λ _. length positions ≤ limit) [
      | inl more ↦ absurd (not record {
        found = found;
        different = different;
        reachable = λ cells h. (reached cells).0 h;
        many = omega (arith, more, long);
      })
      | inr le ↦ le
    ]

-- the moves of a cycle are of places of the position
plays_places : (touch : List Touch) (from to : List Cell) (ms : List CycleMove) → Plays touch from ms to → All (λ m. m.place < length from) ms
plays_places touch from to [] p = All-nil (λ m. m.place < length from)
plays_places touch from to (m ∷ ms) (next, move, rest) =
    All-cons (λ n. n.place < length from) m ms move.place
    (All-weaker (λ n. n.place < length next) (λ n. n.place < length from) (λ n lt. omega (arith, lt, long_after move)) ms (plays_places touch next to ms rest))

pub cycle_places : (r : Region) (ms : List CycleMove) (back : ℕ) → IsCycle r.touch r.cells ms back → length r.cells ≡ length r.points
    → All (λ m. m.place < length r.points) ms
cycle_places r ms back c full =
    let plays = plays_both r.touch r.cells c.returns_to c.returns_to (take back ms) (drop back ms) c.there c.again in
    let all = plays_places r.touch r.cells c.returns_to ms (subst (λ l. Plays r.touch r.cells l c.returns_to) (take-append-drop back ms) plays) in
    All-weaker (λ m. m.place < length r.cells) (λ m. m.place < length r.points) (λ m lt. omega (arith, lt, full)) ms all

-- Where a pairing carries one opening onto another, the graph, turned, is a graph of the second.

-- Black's moves first, and then by place, of which there are at most 32
abbrev key_of : Colour → ℕ → ℕ
key_of Black n = n
key_of White n = 32 + n

abbrev key : Edge → ℕ
key e = key_of e.colour e.place

key_small : (c : Colour) (n : ℕ) → n < 32 → key_of c n < 64
key_small Black n lt = omega (arith, lt)
key_small White n lt = omega (arith, lt)

same_key : (c d : Colour) (m n : ℕ) → m < 32 → n < 32 → key_of c m ≡ key_of d n → (c ≡ d) × (m ≡ n)
same_key Black Black m n a b e = (refl, e)
same_key Black White m n a b e = absurd (omega (arith, a, e))
same_key White Black m n a b e = absurd (omega (arith, b, e))
same_key White White m n a b e = (refl, omega (arith, e))

key_before : (c d : Colour) (m n : ℕ) → m < 32 → n < 32 → key_of c m < key_of d n → ((c ≡ d) × (m < n)) ⊎ ((c ≡ Black) × (d ≡ White))
key_before Black Black m n a b lt = inl (refl, lt)
key_before Black White m n a b lt = inr (refl, refl)
key_before White Black m n a b lt = absurd (omega (arith, b, lt))
key_before White White m n a b lt = inl (refl, omega (arith, lt))

module _ {q : Region} (r : Region) {h : Graph} {Paired : ℕ → ℕ → Type 0} (v : View)
    (opening : Matched q.touch r.touch Paired v.colours q.cells r.cells)
    (of : IsGraphOf q h) (few : length r.cells ≤ 32) (partner : (j i : ℕ) → Paired j i → get_or v.places j 0 ≡ i) where
  abbrev Onto : List Cell → List Cell → Type 0
  Onto a b = Matched q.touch r.touch Paired v.colours a b

  long : (a : List Cell) → IsReachable q.touch q.cells a → length a ≡ length q.cells
  long a (ms, plays) = plays_long q.touch q.cells a ms plays

  turned_long : (b : List Cell) → IsReachable r.touch r.cells b → length b ≡ length r.cells
  turned_long b (ms, plays) = plays_long r.touch r.cells b ms plays

  -- the number is that of the position at the place, turned
  record AtPlace (i n : ℕ) : Type 0 where
    cells : List Cell
    has : IsPlaceOf q h i cells
    turned : List Cell
    matched : Onto cells turned
    reached : IsReachable r.touch r.cells turned
    number : n ≡ pack turned

  -- the numbers of the turned positions, one for each place
  all : (ns : List ℕ) × (length ns ≡ length h.positions) × ((i : ℕ) → i < length h.positions → AtPlace i (get_or ns i 0))
  all = chosen 0 AtPlace (length h.positions) (λ i lt.
      let (cells, has) = position_at q h of i lt in
      let (turned, reached, matched) = reach_matched opening cells has.reachable in
      (pack turned, record { cells = cells; has = has; turned = turned; matched = matched; reached = reached; number = refl }))

  abbrev positions : List ℕ
  positions = all.0

  at_number : (i : ℕ) (a b : List Cell) → IsPlaceOf q h i a → Onto a b → get_or positions i 0 ≡ pack b
  at_number i a b has m =
      let w = all.2 i has.inside in
      let same : w.cells ≡ a = pack_same w.cells a (long w.cells w.has.reachable ∙ sym (long a has.reachable)) (sym w.has.packed ∙ has.packed) in
      w.number ∙ ap pack (matched_one (subst (λ x. Onto x w.turned) same w.matched) m)

  -- each position that is reached has a place
  place_of : (b : List Cell) → IsReachable r.touch r.cells b
      → (i : ℕ) × (a : List Cell) × IsPlaceOf q h i a × Onto a b
  place_of b reach =
      let (a, reached, m) = reach_matched (matched_back opening) b reach in
      let (i, inside, is) = of.graph.all a reached in (
        i,
        a,
        record { inside = inside; reachable = reached; packed = get_or_default h.positions i 0 (pack a) inside ∙ is },
        matched_back m,
      )

  -- a position has one edge for a stone
  one_edge : (i : ℕ) (e f : Edge) → Contains (edges_at h.edges i) e → Contains (edges_at h.edges i) f → e.colour ≡ f.colour → e.place ≡ f.place → e ≡ f
  one_edge i e f he hf ec ep =
      let (cells, has) = cells_at q h of i e he in
      let (a, m, ea) = move_of q h of i cells e has he in
      let (b, n, eb) = move_of q h of i cells f has hf in
      let n' = subst (λ p. IsLocalMove q.touch cells e.colour p b) (sym ep) (subst (λ c. IsLocalMove q.touch cells c f.place b) (sym ec) n) in
      let same = one_after q.touch cells a b e.colour e.place m n' in
      let next = same_place h.positions e.next f.next of.graph.once ea.inside eb.inside (ea.leads ∙ ap pack same ∙ sym eb.leads) in
      let number = subst (λ x. IsNumberTaken cells x f.taken) (sym same) eb.number in
      let taken : e.taken ≡ f.taken = omega (arith, ea.number, number) in
      λ k. record { next = next k; colour = ec k; place = ep k; taken = taken k }

  -- the edge's move, turned, is a move of the turned position
  turned_move : (i n : ℕ) (w : AtPlace i n) (f : Edge) → Contains (edges_at h.edges i) f
      → IsMoveFrom r.touch w.turned (record { colour = colour_after v.colours f.colour; place = get_or v.places f.place 0; next = get_or positions f.next 0; taken = f.taken })
  turned_move i n w f among =
      let (a, m, e) = move_of q h of i w.cells f w.has among in
      let x = move_matched w.matched a f.colour f.place m in
      let there = next_place q h of i w.cells a f.colour f.place f.taken f w.has m e in
      record {
        after = x.next;
        move = subst (λ p. IsLocalMove r.touch w.turned (colour_after v.colours f.colour) p x.next) (sym (partner f.place x.place x.paired)) x.move;
        next = at_number f.next a x.next there x.matched;
        taken = x.number f.taken e.number;
      }

  own_place : (i : ℕ) (f : Edge) → Contains (edges_at h.edges i) f → (f.place < length q.cells) × ((p : ℕ) × Paired f.place p × (p < 32))
  own_place i f among =
      let (cells, has) = cells_at q h of i f among in
      let (a, m, e) = move_of q h of i cells f has among in
      let w = all.2 i has.inside in
      let lt : f.place < length q.cells = omega (arith, m.place, long cells has.reachable) in
      let (p, paired) = opening.carries.first f.place (omega (arith, lt, opening.linked.full)) in
      let inside = (opening.carries.inside f.place p paired).1 in
      (lt, (p, paired, omega (arith, inside, opening.linked'.full, few)))

  own_small : (i : ℕ) (f : Edge) → Contains (edges_at h.edges i) f → get_or v.places f.place 0 < 32
  own_small i f among = let (lt, (p, paired, less)) = own_place i f among in subst (λ n. n < 32) (sym (partner f.place p paired)) less

  -- the turned edges with keys below n, in order
  record Sorted (i n : ℕ) (es : List Edge) : Type 0 where
    from : (e : Edge) → Contains es e → (f : Edge) × Contains (edges_at h.edges i) f × (e ≡ own v f) × (key e < n)
    to : (f : Edge) → Contains (edges_at h.edges i) f → key (own v f) < n → (e : Edge) × Contains es e × (key e ≡ key (own v f))
    rising : AllPairs (λ a b. key a < key b) es

  abbrev HasKey : ℕ → ℕ → Type 0
  HasKey i n = (f : Edge) × Contains (edges_at h.edges i) f × (key (own v f) ≡ n)

  has_key : (i n : ℕ) → Decided (HasKey i n)
  has_key i n =
      let es = edges_at h.edges i in
      alike _ _ (λ (k, lt, e). (get_or es k no_edge, Contains-get_or es k no_edge lt, e))
      (λ (f, (k, lt, at), e). (k, lt, ap (λ x. key (own v x)) (get_or_default es k no_edge f lt ∙ at) ∙ e))
      (some_below (length es) (λ k. key (own v (get_or es k no_edge)) ≡ n) (λ k. cases_eq (key (own v (get_or es k no_edge))) n))

  sorted_more : (i n : ℕ) (es : List Edge) → Sorted i n es → Decided (HasKey i n) → (es : List Edge) × Sorted i (suc n) es
  sorted_more i n es s (inl (f, among, is)) = (
    es ++ own v f ∷ [],
    record {
      from = λ e c. elim (Contains-push_cases es (own v f) e c) [
        | inl before ↦ (let (g, there, same, less) = s.from e before in (g, there, same, omega (arith, less)))
        | inr last ↦ (let same = sym last in (f, among, same, (let k = ap key same in omega (arith, k, is))))
      ];
      to = λ g c lt. elim (cases_eq (key (own v g)) n) [
        | inl same ↦ (own v f, Contains-push es (own v f), is ∙ sym same)
        | inr other ↦ (let (e, there, same) = s.to g c (omega (arith, lt, other)) in (e, Contains-append_left es (own v f ∷ []) e there, same))
      ];
      rising = all_pairs_push (λ a b. key a < key b) es (own v f) s.rising
          (λ k d lt. let less = (s.from (get_or es k d) (Contains-get_or es k d lt)).3 in omega (arith, less, is));
    },
  )
  sorted_more i n es s (inr none) = (
    es,
    record {
      from = λ e c. let (g, there, same, less) = s.from e c in (g, there, same, omega (arith, less));
      to = λ g c lt. s.to g c (elim (cases_eq (key (own v g)) n) as (λ _. key (own v g) < n) [
        | inl same ↦ absurd (none (g, c, same))
        | inr other ↦ omega (arith, lt, other)
      ]);
      rising = s.rising;
    },
  )

  sorted : (i n : ℕ) → (es : List Edge) × Sorted i n es
  sorted i zero = (
    [],
    record {
      from = λ e c. absurd (omega (arith, c.1));
      to = λ f c lt. absurd (omega (arith, lt));
      rising = λ j k d lt short. absurd (omega (arith, short));
    },
  )
  sorted i (suc n) = let (es, s) = sorted i n in
      sorted_more i n es s (has_key i n)

  -- an edge, turned, stands among the sorted ones, as far as its stone goes
  among_sorted : (i : ℕ) (es : List Edge) → Sorted i 64 es → (f : Edge) → Contains (edges_at h.edges i) f
      → (g : Edge) × Contains es g × (g.colour ≡ colour_after v.colours f.colour) × (g.place ≡ get_or v.places f.place 0)
  among_sorted i es s f among =
      let small = own_small i f among in
      let (g, there, same) = s.to f among (key_small _ _ small) in
      let (f', among', is, less) = s.from g there in
      let small' : g.place < 32 = subst (λ e. e.place < 32) (sym is) (own_small i f' among') in
      let (colour, place) = same_key _ _ _ _ small' small same in
      (g, there, colour, place)

  abbrev move_for : Edge → LocalMove
  move_for e = record { colour = e.colour; place = e.place; next = get_or positions e.next 0; taken = e.taken }

  -- the turned edges are the moves of the turned position
  module _ (i n : ℕ) (w : AtPlace i n) (es : List Edge) (s : Sorted i 64 es) where
    item_small : (k : ℕ) → k < length es → (get_or es k no_edge).place < 32
    item_small k lt =
        let (f, among, is, less) = s.from (get_or es k no_edge) (Contains-get_or es k no_edge lt) in
        subst (λ e. e.place < 32) (sym is) (own_small i f among)

    lists : ListsLocalMoves r.touch w.turned (map move_for es)
    lists = record {
      legal = λ m (k, lt, is).
          let short : k < length es = omega (arith, lt, length-map es move_for) in
          let (f, among, same, less) = s.from (get_or es k no_edge) (Contains-get_or es k no_edge short) in
          subst (IsMoveFrom r.touch w.turned) (ap move_for (sym same) ∙ sym (get_or-map move_for es k no_edge m short) ∙ is) (turned_move i n w f among);
      all = λ c p after move.
          let x = move_matched (matched_back w.matched) after c p move in
          let step : CycleMove = record { colour = colour_after v.colours c; place = x.place } in
          let f = edge_for q.touch q.cells h.positions h.edges of.graph i w.cells x.next step w.has.inside w.has.reachable w.has.packed x.move in
          let (g, (j, less, there), colour, place) = among_sorted i es s f.e f.among in (
            move_for g,
            (j, omega (arith, less, length-map es move_for), get_or-map move_for es j g (move_for g) less ∙ ap move_for there),
            colour ∙ ap (colour_after v.colours) f.colour ∙ colour_back v.colours c,
            place ∙ ap (λ z. get_or v.places z 0) f.place ∙ partner x.place p x.paired,
          );
      in_order = λ j k d lt short.
          let last : k < length es = omega (arith, short, length-map es move_for) in
          let first : j < length es = omega (arith, lt, last) in
          let a = get_or es j no_edge in
          let b = get_or es k no_edge in
          rw (get_or-map move_for es j no_edge d first, get_or-map move_for es k no_edge d last)
          (key_before a.colour b.colour a.place b.place (item_small j first) (item_small k last) (s.rising j k no_edge lt last));
    }

    are_edges : AreEdges positions (map move_for es) es
    are_edges = (
      sym (length-map es move_for),
      λ k m e lt is is'.
          let (f, among, same, less) = s.from e (k, lt, is') in
          let (cells, has) = cells_at q h of i f among in
          let (a, move, edge) = move_of q h of i cells f has among in
          let inside : e.next < length positions = subst (λ y. y.next < length positions) (sym same) (omega (arith, edge.inside, all.1)) in
          subst (λ m. IsEdgeOf positions m e) (ap move_for (sym is') ∙ sym (get_or-map move_for es k e m lt) ∙ is)
          record { colour = refl; place = refl; taken = refl; inside = inside; next = refl },
    )

    has_moves : HasMoves r.touch w.turned positions es
    has_moves = (map move_for es, lists, are_edges)

  -- the turned edges, in their order, of each place
  lists_all : (es : List (List Edge)) × (length es ≡ length h.positions) × ((i : ℕ) → i < length h.positions → Sorted i 64 (get_or es i []))
  lists_all = chosen [] (λ i es. Sorted i 64 es) (length h.positions) (λ i lt. sorted i 64)

  abbrev edges : List (List Edge)
  edges = lists_all.0

  abbrev graph : Graph
  graph = record { positions = positions; edges = edges; order = h.order }

  graph_is : IsGraph r.touch r.cells positions edges
  graph_is = record {
    some = omega (arith, of.graph.some, all.1);
    first = at_number 0 q.cells r.cells (record { inside = of.graph.some; reachable = ([], refl); packed = of.graph.first }) opening;
    once = λ j k d lt short e.
        let last : k < length h.positions = omega (arith, short, all.1) in
        let first : j < length h.positions = omega (arith, lt, last) in
        let a = all.2 j first in
        let b = all.2 k last in
        let numbers = get_or_default positions j 0 d (omega (arith, first, all.1)) ∙ e ∙ sym (get_or_default positions k 0 d short) in
        let same = pack_same a.turned b.turned (turned_long a.turned a.reached ∙ sym (turned_long b.turned b.reached)) (sym a.number ∙ numbers ∙ b.number) in
        let cells = matched_one (matched_back a.matched) (matched_back (subst (Onto b.cells) (sym same) b.matched)) in
        of.graph.once j k 0 lt last (a.has.packed ∙ ap pack cells ∙ sym b.has.packed);
    reachable = λ n (i, lt, is).
        let w = all.2 i (omega (arith, lt, all.1)) in
        (w.turned, w.reached, sym is ∙ sym (get_or_default positions i 0 n lt) ∙ w.number);
    all = λ b reach.
        let (i, a, has, m) = place_of b reach in
        let lt : i < length positions = omega (arith, has.inside, all.1) in
        (i, lt, sym (get_or_default positions i 0 (pack b) lt) ∙ at_number i a b has m);
    beside = lists_all.1 ∙ sym all.1;
    moves = λ i b lt reach is.
        let inside : i < length h.positions = omega (arith, lt, all.1) in
        let w = all.2 i inside in
        let same = pack_same w.turned b (turned_long w.turned w.reached ∙ sym (turned_long b reach)) (sym w.number ∙ is) in
        subst (λ x. HasMoves r.touch x positions (edges_at edges i)) same (has_moves i (get_or positions i 0) w (edges_at edges i) (lists_all.2 i inside));
  }

  position_of : (i : ℕ) (b : List Cell) → IsPlaceOf r graph i b → (a : List Cell) × IsPlaceOf q h i a × Onto a b
  position_of i b has =
      let w = all.2 i (omega (arith, has.inside, all.1)) in
      let same = pack_same w.turned b (turned_long w.turned w.reached ∙ sym (turned_long b has.reachable)) (sym w.number ∙ has.packed) in
      (w.cells, w.has, subst (Onto w.cells) same w.matched)

  seen : Serves v h graph
  seen = record {
    as_many = all.1;
    inside = λ i f among. omega (arith, (own_place i f among).0, of.few);
    moves = λ i e. (
      λ (j, lt, is).
          let inside : i < length h.positions = omega (arith, node_inside edges i j lt, lists_all.1) in
          let (f, among, same, less) = (lists_all.2 i inside).from e (j, lt, is) in
          (f, among, same),
      λ (f, among, is).
          let inside : i < length h.positions = omega (arith, node_inside h.edges i among.0 among.1, of.graph.beside) in
          let s = lists_all.2 i inside in
          let (g, there, ec, ep) = among_sorted i (edges_at edges i) s f among in
          let (f', among', is', less) = s.from g there in
          let colour = sym (colour_back v.colours f'.colour) ∙ ap (colour_after v.colours)
          (ap (λ e. e.colour) (sym is') ∙ ec) ∙ colour_back v.colours f.colour in
          let (lt, (p, paired, a)) = own_place i f among in
          let (lt', (p', paired', b)) = own_place i f' among' in
          let places = sym (partner f'.place p' paired') ∙ ap (λ e. e.place) (sym is') ∙ ep ∙ partner f.place p paired in
          let same = one_edge i f' f among' among colour ((opening.carries.one f'.place p' f.place p paired' paired).1 places) in
          subst (Contains (edges_at edges i)) (is' ∙ ap (own v) same ∙ sym is) there,
    );
  }

  graph_of : HasNoCycle q.touch q.cells → IsGraphOf r graph
  graph_of none = record {
    few = few;
    graph = graph_is;
    order = record {
      once = of.order.once;
      inside = λ k lt. omega (arith, of.order.inside k lt, of.graph.beside, lists_all.1);
      every = λ i lt. of.order.every i (omega (arith, lt, of.graph.beside, lists_all.1));
      ends_first = λ k e lt c.
          let (f, among, is) = (seen.moves (get_or h.order k 0) e).0 c in
          let (j, less, same) = of.order.ends_first k f lt among in
          (j, less, same ∙ ap (λ z. z.next) (sym is));
    };
    no_cycle = cycle_matched (matched_back opening) none;
  }

-- A region whose opening has the shape of a solved region's is solved by that one's graph and values, turned.

after-same : (colours : Bool) (G V : Tree) → G ≡ᵍ V → game_after colours G ≡ᵍ game_after colours V
after-same false G V same = same
after-same true G V same = (neg-le V G same.1, neg-le G V same.0)

-- the canonical form of a position's value, turned, is the value of the position that it is carried onto
value_matched : {touch touch' : List Touch} {Paired : ℕ → ℕ → Type 0} {colours : Bool} {a b : List Cell} → Matched touch touch' Paired colours a b
    → length b ≡ length a → (V W : Tree) → IsValueOf touch a V → IsCanonicalFor (game_after colours V) W → IsValueOf touch' b W
value_matched {touch} {touch'} {Paired} {colours} {a} {b} m long V W value k =
    let (H, tree) = trees-exist touch' b (3 ^ length b) in
    let same = trees_over (3 ^ length a) (matched_back m) H value.tree (subst (λ n. IsTreeOf touch' (3 ^ n) b H) long tree) value.of_position in
    record {
      tree = H;
      of_position = tree;
      canonical = k.canonical;
      same = same-trans H (game_after colours value.tree) W same
          (same-trans (game_after colours value.tree) (game_after colours V) W (after-same colours value.tree V value.same) (k.under, k.over));
    }

module _ {limits : Limits} {q : Region} (r : Region) {h : Graph} {Paired : ℕ → ℕ → Type 0} (v : View)
    (opening : Matched q.touch r.touch Paired v.colours q.cells r.cells) (long : length r.cells ≡ length q.cells) (few : length r.points ≤ 32)
    (full : length r.cells ≡ length r.points) (partner : (j i : ℕ) → Paired j i → get_or v.places j 0 ≡ i)
    {Ts : List Tree} (forms : HaveForms Ts) {ids turned : List ℕ} (s : IsSolvedBy limits q h Ts ids)
    (t : AreTurnedValues v.colours Ts ids turned) where
  small : length r.cells ≤ 32
  small = omega (arith, few, full)

  abbrev turned_graph : Graph
  turned_graph = graph r v opening s.graph.graph small partner

  turned_seen : Serves v h turned_graph
  turned_seen = seen r v opening s.graph.graph small partner

  within : IsGraphWithin limits.positions r turned_graph
  within =
      let of = graph_of r v opening s.graph.graph small partner s.graph.graph.no_cycle in
      let few' : length turned_graph.positions ≤ limits.positions = omega (arith, turned_seen.as_many, s.graph.few) in
      record {
        graph = of;
        few = few';
        positions = not_more r.touch r.cells turned_graph.positions turned_graph.edges of.graph limits.positions few';
      }

  valued : AreValues r turned_graph Ts turned
  valued = record {
    long = t.many ∙ s.values.long ∙ sym turned_seen.as_many;
    known = λ i lt. (t.each i (omega (arith, lt, t.many))).known;
    each = λ i b has.
        let (a, there, m) = position_of r v opening s.graph.graph small partner i b has in
        let short : i < length ids = omega (arith, there.inside, s.values.long) in
        value_matched m (same_long a b there.reachable has.reachable) (tree_at Ts (get_or ids i 0)) (tree_at Ts (get_or turned i 0))
        (s.values.each i a there)
        (t.each i short).canonical;
  }
    where
      same_long : (a b : List Cell) → IsReachable q.touch q.cells a → IsReachable r.touch r.cells b → length b ≡ length a
      same_long a b (ms, plays) (ns, plays') = plays_long r.touch r.cells b ns plays' ∙ long ∙ sym (plays_long q.touch q.cells a ms plays)

  turned_solved : IsSolvedBy limits r turned_graph Ts turned
  turned_solved = record {
    sound = record {
      points = few;
      positions = within.positions;
      no_cycle = within.graph.no_cycle;
      forms = no_large_form r turned_graph within.graph Ts turned limits.parts valued
          (λ i lt more.
          let short : i < length ids = omega (arith, lt, t.many) in
          let (a, has) = position_at q h s.graph.graph i (omega (arith, short, s.values.long)) in
          s.sound.forms (a, has.reachable, (tree_at Ts (get_or ids i 0), s.values.each i a has, inl ((t.each i short).parts limits.parts more))))
          (λ i lt. within-bounds Ts forms (get_or turned i 0) (valued.known i lt));
    };
    graph = within;
    values = valued;
    within = λ i lt. let short : i < length ids = omega (arith, lt, t.many) in (t.each i short).sizes _ (s.within i short);
  }

  pub solved_turned : (g : Graph) × IsSolvedBy limits r g Ts turned × Serves v h g
  solved_turned = (turned_graph, turned_solved, turned_seen)
