-- Exploring the reachable positions.
use Rattle.std.proofs.Common.{◌≡◌, ◌≢◌, ℕ, ◌+◌, ◌^◌, ◌<◌, ◌≤◌, inl, inr, suc, zero, arith, refl, sym, ap, ◌∙◌, List, [], ◌∷◌, ◌++◌, map, length, drop, get_or, set, subst, length-append, Ok, Err}
use Rattle.std.specs.List.{AllPairs, Contains}
use Rattle.std.proofs.lemmas.Bool.{cases_eq, cases_lt}
use Rattle.std.proofs.lemmas.List.{get_or_append_left, get_or-set_same, get_or-set_other, length-set, get_or_default, get_or_past, length-map, get_or-map}
use Rattle.std.proofs.lemmas.List.Elements.{Contains-get_or, Contains-push_cases}
use Rattle.go_grid.specs.declared.grid.Cell.{Cell}
use Rattle.go_grid.specs.declared.region.Touch.{Touch}
use Rattle.local_play.specs.declared.local_move.LocalMove.{LocalMove}
use Rattle.local_play.specs.LocalPlay.{IsLocalMove}
use Rattle.local_play.specs.Packed.{pack}
use Rattle.local_play.specs.Moves.{ListsLocalMoves, IsMoveFrom}
use Rattle.local_play.proofs.PackLemmas.{pack_same}
use Rattle.local_graph.specs.declared.graph_build.GraphError.{GraphError}
use Rattle.local_graph.specs.declared.graph_build.GraphError.TheVariants.{Points, Positions, Cycle, Memory}
use Rattle.local_graph.specs.declared.cycle.CycleMove.{CycleMove}
use Rattle.local_graph.specs.declared.graph.Edge.{Edge}
use Rattle.local_graph.specs.declared.search.Visit.{Visit}
use Rattle.local_graph.specs.declared.search.Visit.TheVariants.{New, OnPath}
use Rattle.local_graph.specs.LocalGraph.{Plays, IsReachable, AreEdges, HasMoves, IsGraph, MoreThan}
use Rattle.go_grid.proofs.PlayLemmas.{long_after}
use Rattle.local_graph.specs.inner.PlaceTable.{IsNumbered}
use Rattle.local_graph.specs.inner.Exploring.{AreReachable, Exploring, EdgesFrom, AreMovesFrom}
use Rattle.local_graph.specs.inner.Found.{Grows, AddsPositions, EdgesFor, Explored, Placed, AreAwaited}
use Rattle.local_graph.specs.inner.Searching.{visit_at}
use Rattle.local_graph.specs.inner.Walk.{KeepsNew}
use Rattle.local_graph.proofs.FoundLemmas.{edge_more, Linking, linking_all, extends_grows}
use Rattle.local_graph.proofs.FiniteLemmas.{few_positions}
use Rattle.local_graph.proofs.PlayLemmas.{plays_long, plays_more, one_after}

contains_nil : (n : ℕ) → Contains [] n → ⊥
contains_nil n (k, lt, at) = omega arith

only_opening : (touch : List Touch) (opening : List Cell) (start : ℕ) (positions : List ℕ) → Grows [] start positions
    → start ≡ pack opening → AreReachable touch opening positions
only_opening touch opening start positions (inl none) e n h = absurd (contains_nil n (subst (λ l. Contains l n) none h))
only_opening touch opening start positions (inr (is, new)) e n h = elim (Contains-push_cases [] start n (subst (λ l. Contains l n) is h)) [
  | inl old ↦ absurd (contains_nil n old)
  | inr same ↦ (opening, ([], refl), sym same ∙ e)
]

pub explore_start : (touch : List Touch) (opening : List Cell) (limit start place : ℕ) (positions : List ℕ) (all : List (List Edge))
    (visits : List Visit) → Grows [] start positions → place < length positions → get_or positions place 0 ≡ start → length positions ≤ limit
    → start ≡ pack opening → AreAwaited [] [] (length positions) all visits → Exploring touch opening limit positions all visits
explore_start touch opening limit start place positions all visits g inside at few e w = go g
  where
    go : Grows [] start positions → Exploring touch opening limit positions all visits
    go (inl none) = absurd (let l = ap length none in omega arith)
    go (inr (is, new)) = record {
      some = omega arith;
      first = ap (λ l. get_or l 0 0) is ∙ e;
      once = subst (AllPairs (λ a b. a ≢ b)) (sym is) (λ i j d lt short. absurd (omega arith));
      few = few;
      reachable = only_opening touch opening start positions g e;
      beside = w.long;
      seen = omega (arith, w.seen);
      moves = λ i cells lt apart. absurd (apart (w.known i));
    }

-- what was found keeps its place and its moves
has_moves_more : (touch : List Touch) (cells : List Cell) (before more after : List ℕ) (edges : List Edge) → after ≡ before ++ more
    → HasMoves touch cells before edges → HasMoves touch cells after edges
has_moves_more touch cells before more after edges is (moves, lists, (long, each)) =
    (moves, lists, (long, λ k m e lt am ae. edge_more before more after m e is (each k m e lt am ae)))

reachable_more : (touch : List Touch) (opening : List Cell) (before after : List ℕ) (cells : List Cell) (moves : List LocalMove)
    → AreReachable touch opening before → AddsPositions before moves after → IsReachable touch opening cells → AreMovesFrom touch cells moves
    → AreReachable touch opening after
reachable_more touch opening before after cells moves all x here legal n h = elim (x.new n h) [
  | inl old ↦ all n old
  | inr (m, among, is) ↦
      let move = legal m among in
      let step : CycleMove = record { colour = m.colour; place = m.place } in
      (move.after, (here.0 ++ step ∷ [], plays_more touch opening cells move.after here.0 step here.1 move.move), sym is ∙ move.next)
]

-- a new position is explored
pub explore_step : (touch : List Touch) (opening : List Cell) (limit : ℕ) (positions after : List ℕ) (edges all : List (List Edge))
    (visits still visits' : List Visit) (place : ℕ) (cells : List Cell) (moves : List LocalMove) (es : List Edge)
    → Exploring touch opening limit positions edges visits → place < length positions → IsReachable touch opening cells
    → get_or positions place 0 ≡ pack cells → ListsLocalMoves touch cells moves → AddsPositions positions moves after → AreEdges after moves es
    → length after ≤ limit → AreAwaited (set edges place es) visits (length after) all still → visits' ≡ set still place OnPath
    → Exploring touch opening limit after all visits'
explore_step touch opening limit positions after edges all visits still visits' place cells moves es s inside_place here at lists x linked few w entered = record {
  some = omega (arith, s.some, longer, sum);
  first = ap (λ l. get_or l 0 0) x.appended ∙ get_or_append_left positions x.more 0 0 s.some ∙ s.first;
  once = x.once;
  few = few;
  reachable = reachable_more touch opening positions after cells moves s.reachable x here lists.legal;
  beside = w.long;
  seen = omega (arith, ap length entered, length-set still place OnPath, w.seen, length-set edges place es, s.seen, s.beside);
  moves = λ i there less known reach is. elim (cases_eq i place) [
    | inl e ↦
        let number : pack there ≡ pack cells =
        sym is ∙ ap (λ l. get_or l i 0) x.appended ∙ get_or_append_left positions x.more 0 i (omega (arith, e, inside_place))
        ∙ ap (λ j. get_or positions j 0) e ∙ at in
        let long : length there ≡ length cells =
        plays_long touch opening there reach.0 reach.1 ∙ sym (plays_long touch opening cells here.0 here.1) in
        let same = pack_same there cells long number in
        let its : get_or all i [] ≡ es =
        w.lists i ∙ ap (λ j. get_or (set edges place es) j []) e ∙ get_or-set_same edges place es [] (omega (arith, inside_place, s.beside)) in
        subst (λ y. HasMoves touch y after (get_or all i [])) (sym same)
        (subst (HasMoves touch cells after) (sym its) (moves, lists, linked))
    | inr ne ↦ elim (cases_lt i (length positions)) [
      | inr late ↦ absurd (known (visit_other i ne ∙ w.known i ∙ get_or_past visits i New (omega (arith, late, s.seen))))
      | inl old ↦
          let is' = sym (get_or_append_left positions x.more 0 i old) ∙ ap (λ l. get_or l i 0) (sym x.appended) ∙ is in
          let its : get_or all i [] ≡ get_or edges i [] = w.lists i ∙ get_or-set_other' i ne in
          let was = s.moves i there old (λ new. known (visit_other i ne ∙ w.known i ∙ new)) reach is' in
          subst (HasMoves touch there after) (sym its)
          (has_moves_more touch there positions x.more after (get_or edges i []) x.appended was)
    ]
  ];
}
  where
    longer : length after ≡ length (positions ++ x.more)
    longer = ap length x.appended

    sum : length (positions ++ x.more) ≡ length positions + length x.more
    sum = length-append positions x.more

    get_or-set_other' : (i : ℕ) → i ≢ place → get_or (set edges place es) i [] ≡ get_or edges i []
    get_or-set_other' i ne = rw get_or-set_other refl

    visit_other : (i : ℕ) → i ≢ place → visit_at visits' i ≡ visit_at still i
    visit_other i ne = ap (λ l. visit_at l i) entered ∙ other i ne
      where
        other : (i : ℕ) → i ≢ place → visit_at (set still place OnPath) i ≡ visit_at still i
        other i ne = rw get_or-set_other refl

-- where new places stay new, what is known of the others is
pub explore_on : (touch : List Touch) (opening : List Cell) (limit : ℕ) (positions : List ℕ) (edges : List (List Edge))
    (visits after : List Visit) → Exploring touch opening limit positions edges visits → KeepsNew visits after
    → Exploring touch opening limit positions edges after
explore_on touch opening limit positions edges visits after s k = record {
  some = s.some;
  first = s.first;
  once = s.once;
  few = s.few;
  reachable = s.reachable;
  beside = s.beside;
  seen = k.long ∙ s.seen;
  moves = λ i cells lt known. s.moves i cells lt (λ new. known (k.new i new));
}

-- the positions of a list of numbers
pub unpacked : (touch : List Touch) (opening : List Cell) (ns : List ℕ) → AreReachable touch opening ns
    → (found : List (List Cell)) × (map pack found ≡ ns) × ((cells : List Cell) → Contains found cells → IsReachable touch opening cells)
unpacked touch opening [] all = ([], refl, λ cells h. absurd (omega (arith, h.1)))
unpacked touch opening (n ∷ ns) all =
    let first = all n (0, omega arith, refl) in
    let rest = unpacked touch opening ns (λ m h. all m (suc h.0, omega (arith, h.1), h.2)) in (
      first.0 ∷ rest.0,
      (let e = sym first.2 in let e' = rest.1 in cc),
      λ cells h. from first.0 rest.0 first.1 rest.2 cells h,
    )
  where
    from : (x : List Cell) (xs : List (List Cell)) → IsReachable touch opening x
        → ((cells : List Cell) → Contains xs cells → IsReachable touch opening cells)
        → (cells : List Cell) → Contains (x ∷ xs) cells → IsReachable touch opening cells
    from x xs here others cells (zero, lt, at) = subst (IsReachable touch opening) at here
    from x xs here others cells (suc k, lt, at) = others cells (k, omega arith, at)

-- positions are different where their numbers are
pub apart : (found : List (List Cell)) (ns : List ℕ) → map pack found ≡ ns → AllPairs (λ a b. a ≢ b) ns → AllPairs (λ a b. a ≢ b) found
apart found ns is once i j d lt short same =
    let long : length found ≡ length ns = sym (length-map found pack) ∙ ap length is in
    let at = λ (k : ℕ) (less : k < length found). sym (get_or-map pack found k d 0 less) ∙ ap (λ l. get_or l k 0) is in
    once i j 0 lt (omega arith) (sym (at i (omega arith)) ∙ ap pack same ∙ at j short)

pub too_many : (touch : List Touch) (opening : List Cell) (limit : ℕ) (ns : List ℕ) → AreReachable touch opening ns
    → AllPairs (λ a b. a ≢ b) ns → limit < length ns → MoreThan touch opening limit
too_many touch opening limit ns all once many =
    let w = unpacked touch opening ns all in
    let long : length w.0 ≡ length ns = sym (length-map w.0 pack) ∙ ap length w.1 in
    record {
      found = w.0;
      different = apart w.0 ns w.1 once;
      reachable = w.2;
      many = omega arith;
    }

pub explore_err : (touch : List Touch) (opening : List Cell) (limit : ℕ) (positions after : List ℕ)
    (cells : List Cell) (moves : List LocalMove) (es : List Edge) (e : GraphError) → AreReachable touch opening positions
    → IsReachable touch opening cells → AreMovesFrom touch cells moves → EdgesFor positions moves limit after es (Err e)
    → Explored touch opening limit after (Err e)
explore_err touch opening limit positions after cells moves es Positions s here legal x =
    too_many touch opening limit after
    (reachable_more touch opening positions after cells moves s x.0 here legal) x.0.once x.1
explore_err touch opening limit positions after cells moves es (Points n) s here legal x = absurd x
explore_err touch opening limit positions after cells moves es (Cycle ms back) s here legal x = absurd x
explore_err touch opening limit positions after cells moves es (Memory e) s here legal x = tt

pub start_err : (touch : List Touch) (opening : List Cell) (limit start : ℕ) (after : List ℕ) (e : GraphError) → start ≡ pack opening
    → Placed [] start limit after (Err e) → Explored touch opening limit after (Err e)
start_err touch opening limit start after Positions is (g, many) =
    too_many touch opening limit after (only_opening touch opening start after g is) (once g) many
  where
    once : Grows [] start after → AllPairs (λ a b. a ≢ b) after
    once (inl none) = subst (AllPairs (λ a b. a ≢ b)) (sym none) (λ i j d lt short. absurd (omega arith))
    once (inr (is', new)) = subst (AllPairs (λ a b. a ≢ b)) (sym is') (λ i j d lt short. absurd (omega arith))
start_err touch opening limit start after (Points n) is x = absurd x
start_err touch opening limit start after (Cycle ms back) is x = absurd x
start_err touch opening limit start after (Memory e) is x = tt

-- with the moves of each position there is no other position
pub explore_end : (touch : List Touch) (opening : List Cell) (limit : ℕ) (positions : List ℕ) (edges : List (List Edge)) (visits : List Visit)
    → Exploring touch opening limit positions edges visits → ((i : ℕ) → i < length visits → visit_at visits i ≢ New)
    → IsGraph touch opening positions edges
explore_end touch opening limit positions edges visits s none = record {
  some = s.some;
  first = s.first;
  once = s.once;
  reachable = s.reachable;
  all = λ cells r. reach opening r.0 cells ([], refl) opening_there r.1;
  beside = s.beside;
  moves = λ i cells lt. s.moves i cells lt (none i (omega (arith, lt, s.seen)));
}
  where
    opening_there : Contains positions (pack opening)
    opening_there = subst (Contains positions) s.first (Contains-get_or positions 0 0 s.some)

    edge_at : (n : ℕ) (ms : List LocalMove) (es : List Edge) (m : LocalMove) → AreEdges positions ms es → Contains ms m → Contains positions m.next
    edge_at n ms es m (long, each) (k, lt, at) =
        let short : k < length es = omega arith in
        let none : Edge = record { colour = m.colour; place = 0; next = 0; taken = 0 } in
        let e = get_or es k none in
        let w = each k m e short at (get_or_default es k e none short) in
        subst (Contains positions) w.next (Contains-get_or positions e.next 0 w.inside)

    -- a legal move leads from a position that was found to one that was found
    step : (from next : List Cell) (m : CycleMove) → IsReachable touch opening from → Contains positions (pack from)
        → IsLocalMove touch from m.colour m.place next → Contains positions (pack next)
    step from next m reach (i, lt, at) move =
        let is = get_or_default positions i 0 (pack from) lt ∙ at in
        let h = s.moves i from lt (none i (omega (arith, lt, s.seen))) reach is in
        let found = h.1.all m.colour m.place next move in
        let legal = h.1.legal found.0 found.1 in
        let move' = subst (λ p. IsLocalMove touch from m.colour p next) (sym found.3)
        move in
        let move'' = subst (λ c. IsLocalMove touch from c found.0.place next) (sym found.2) move' in
        let same = one_after touch from legal.after next found.0.colour found.0.place legal.move move'' in
        subst (Contains positions) (legal.next ∙ ap pack same) (edge_at i h.0 (get_or edges i []) found.0 h.2 found.1)

    reach : (from : List Cell) (ms : List CycleMove) (to : List Cell) → IsReachable touch opening from → Contains positions (pack from)
        → Plays touch from ms to → Contains positions (pack to)
    reach from [] to here there p = subst (λ x. Contains positions (pack x)) p there
    reach from (m ∷ ms) to here there (next, move, rest) =
        reach next ms to (here.0 ++ m ∷ [], plays_more touch opening from next here.0 m here.1 move) (step from next m here there move) rest

-- the same in the words of the code
pub start_fails : (touch : List Touch) (opening : List Cell) (limit start : ℕ) (before after : List ℕ) (e : GraphError) → before ≡ []
    → start ≡ pack opening → Placed before start limit after (Err e) → Explored touch opening limit after (Err e)
start_fails touch opening limit start before after e none is p =
    start_err touch opening limit start after e is (subst (λ l. Placed l start limit after (Err e)) none p)

pub start_found : (touch : List Touch) (opening : List Cell) (limit start place count : ℕ) (before positions : List ℕ)
    (none all : List (List Edge)) (nothing visits : List Visit) → before ≡ [] → start ≡ pack opening → none ≡ [] → nothing ≡ []
    → Placed before start limit positions (Ok place) → count ≡ length positions → AreAwaited none nothing count all visits
    → Exploring touch opening limit positions all visits
start_found touch opening limit start place count before positions none all nothing visits first is empty empty' p full w =
    let p' = subst (λ l. Placed l start limit positions (Ok place)) first p in
    let w' = subst (λ n. AreAwaited [] [] n all visits) full
    (subst (λ l. AreAwaited [] l count all visits) empty' (subst (λ l. AreAwaited l nothing count all visits) empty w)) in
    explore_start touch opening limit start place positions all visits p'.0 p'.1 p'.2 p'.3 is w'

-- the opening and what its moves lead to are positions of as many places
pub opening_numbered : (cells : List Cell) (numbers places n : ℕ) → length cells ≡ places → places ≤ 32 → numbers ≡ 3 ^ places
    → n ≡ pack cells → IsNumbered numbers n
opening_numbered cells numbers places n long few many is =
    (cells, omega (arith, long, few), omega (arith, many, ap (λ k. 3 ^ k) long), is)

pub move_numbered : (touch : List Touch) (cells : List Cell) (m : LocalMove) (numbers : ℕ) → IsMoveFrom touch cells m
    → length cells ≤ 32 → numbers ≡ 3 ^ length cells → IsNumbered numbers m.next
move_numbered touch cells m numbers move few many =
    opening_numbered move.after numbers (length cells) m.next (long_after move.move) few many move.next

-- the position whose moves come next
pub record IsNext (touch : List Touch) (opening : List Cell) (positions : List ℕ) (i n : ℕ) : Type 0 where
  pub inside : i < length positions
  pub at : get_or positions i 0 ≡ n
  pub cells : List Cell
  pub long : length cells ≡ length opening
  pub reach : IsReachable touch opening cells
  pub packed : n ≡ pack cells

pub next_position : (touch : List Touch) (opening : List Cell) (positions : List ℕ) (i n : ℕ) → AreReachable touch opening positions
    → i < length positions → n ≡ get_or positions i n → IsNext touch opening positions i n
next_position touch opening positions i n all inside e =
    let at = get_or_default positions i 0 n inside ∙ sym e in
    let w = all n (subst (Contains positions) at (Contains-get_or positions i 0 inside)) in
    record { inside = inside; at = at; cells = w.0; long = plays_long touch opening w.0 w.1.0 w.1.1; reach = w.1; packed = w.2 }

pub explored_more : (touch : List Touch) (opening : List Cell) (limit : ℕ) (positions after : List ℕ) (all put all' : List (List Edge))
    (visits still visits' : List Visit) (i n count : ℕ) (moves : List LocalMove) (es : List Edge) (done : Unit {0})
    → Exploring touch opening limit positions all visits → (w : IsNext touch opening positions i n)
    → ListsLocalMoves touch w.cells moves → EdgesFor positions moves limit after es (Ok done) → put ≡ set all i es → count ≡ length after
    → AreAwaited put visits count all' still → visits' ≡ set still i OnPath → Exploring touch opening limit after all' visits'
explored_more touch opening limit positions after all put all' visits still visits' i n count moves es done s w lists x is full a entered =
    explore_step touch opening limit positions after all all' visits still visits' i w.cells moves es s w.inside w.reach (w.at ∙ w.packed) lists x.0 x.1 x.2
    (subst (λ m. AreAwaited (set all i es) visits m all' still) full (subst (λ l. AreAwaited l visits count all' still) is a)) entered

-- the edges of all moves
pub edges_from : (touch : List Touch) (cells : List Cell) (before : List ℕ) (limit : ℕ) (after : List ℕ) (given : List LocalMove)
    (first whole edges : List Edge) (done : Unit {0}) → ListsLocalMoves touch cells given → whole ≡ first ++ edges
    → Linking before given limit after edges → EdgesFrom touch cells before limit after (drop (length first) whole) (Ok done)
edges_from touch cells before limit after given first whole edges done lists is s =
    (given, lists, linking_all before given limit after first whole edges is s)

-- at a move there were too many positions
pub edges_err : (touch : List Touch) (cells : List Cell) (before between after : List ℕ) (given : List LocalMove) (limit : ℕ)
    (edges es : List Edge) (m : LocalMove) (e : GraphError) → AreMovesFrom touch cells (given ++ m ∷ [])
    → Linking before given limit between edges → Placed between m.next limit after (Err e)
    → EdgesFrom touch cells before limit after es (Err e)
edges_err touch cells before between after given limit edges es m Positions legal s p =
    (given ++ m ∷ [], legal, (extends_grows before between after given m s.extends p.0, p.1))
edges_err touch cells before between after given limit edges es m (Points n) legal s p = absurd p
edges_err touch cells before between after given limit edges es m (Cycle ms back) legal s p = absurd p
edges_err touch cells before between after given limit edges es m (Memory e) legal s p = tt

pub not_fewer : (touch : List Touch) (cells : List Cell) (before : List ℕ) (limit : ℕ) (after : List ℕ) (es : List Edge) (done : Unit {0})
    → EdgesFrom touch cells before limit after es (Ok done) → length before ≤ length after
not_fewer touch cells before limit after es done (moves, lists, x) = omega (arith, ap length x.0.appended, length-append before x.0.more)

pub explored_fails : (touch : List Touch) (opening : List Cell) (limit : ℕ) (positions after : List ℕ)
    (i n : ℕ) (es : List Edge) (e : GraphError) → AreReachable touch opening positions
    → (w : IsNext touch opening positions i n) → EdgesFrom touch w.cells positions limit after es (Err e) → Explored touch opening limit after (Err e)
explored_fails touch opening limit positions after i n es Positions s w (moves, legal, x) =
    explore_err touch opening limit positions after w.cells moves es Positions s w.reach legal x
explored_fails touch opening limit positions after i n es (Points p) s w x = absurd x
explored_fails touch opening limit positions after i n es (Cycle ms back) s w x = absurd x
explored_fails touch opening limit positions after i n es (Memory e) s w x = tt

pub explored_all : (touch : List Touch) (opening : List Cell) (limit : ℕ) (positions : List ℕ) (all result : List (List Edge))
    (visits : List Visit) → Exploring touch opening limit positions all visits → ((i : ℕ) → i < length visits → visit_at visits i ≢ New) → result ≡ all
    → IsGraph touch opening positions result × (length positions ≤ limit)
explored_all touch opening limit positions all result visits s none is =
    (subst (IsGraph touch opening positions) (sym is) (explore_end touch opening limit positions all visits s none), s.few)

-- there are at most 3 to the number of places
pub few_numbers : (touch : List Touch) (opening : List Cell) (limit places : ℕ) (positions : List ℕ) (edges : List (List Edge))
    (visits : List Visit) → Exploring touch opening limit positions edges visits → length opening ≡ places → length positions ≤ 3 ^ places
few_numbers touch opening limit places positions edges visits s e =
    let w = unpacked touch opening positions s.reachable in
    let long : length w.0 ≡ length positions = sym (length-map w.0 pack) ∙ ap length w.1 in
    let few = few_positions touch opening w.0 (apart w.0 positions w.1 s.once) w.2 in
    let same : 3 ^ length opening ≡ 3 ^ places = ap (λ n. 3 ^ n) e in
    omega arith
