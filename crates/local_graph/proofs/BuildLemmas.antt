-- From exploring and searching to a graph.
use Rattle.std.proofs.Common.{◌≡◌, ◌≢◌, ◌↔◌, ℕ, ◌+◌, ◌-◌, ◌*◌, ◌<◌, ◌≤◌, zero, suc, add-one, arith, refl, sym, ap, ◌∙◌, List, [], ◌∷◌, ◌++◌, map, true, length, get_or, subst, nat_eq, Result, Ok, Err, IfOk}
use Rattle.std.specs.List.{AllPairs, Contains, list_any}
use Rattle.std.specs.List.Sorted.{IsStrictlyIncreasing}
use Rattle.std.specs.Cmp.{nat_eq_equiv}
use Rattle.std.proofs.Math.Nat.{mul-le-mul}
use Rattle.std.proofs.lemmas.Bool.{eqb-true}
use Rattle.std.proofs.lemmas.List.{length-map, get_or_default, get_or-map}
use Rattle.std.proofs.lemmas.List.Elements.{Contains-get_or}
use Rattle.std.proofs.lemmas.Map.Made.{length-le_from_is_member}
use Rattle.std.proofs.lemmas.Map.Views.{Contains-from_any, list_any-from_Contains}
use Rattle.go_grid.specs.declared.grid.Cell.{Cell}
use Rattle.go_grid.specs.declared.region.Touch.{Touch}
use Rattle.go_grid.specs.Region.{Region, IsRegion}
use Rattle.local_play.specs.declared.local_move.LocalMove.{LocalMove}
use Rattle.local_play.specs.Packed.{pack}
use Rattle.local_play.proofs.PackLemmas.{pack_same}
use Rattle.local_graph.specs.declared.cycle.CycleMove.{CycleMove}
use Rattle.local_graph.specs.declared.graph.Edge.{Edge}
use Rattle.local_graph.specs.declared.graph_build.GraphError.{GraphError}
use Rattle.local_graph.specs.declared.graph_build.GraphError.TheVariants.{Points, Positions, Cycle, Memory}
use Rattle.local_graph.specs.Built.{Built}
use Rattle.local_graph.specs.Graph.{Graph}
use Rattle.local_graph.specs.inner.Found.{Explored}
use Rattle.local_graph.specs.inner.SearchedFor.{IsOrdered}
use Rattle.local_graph.specs.inner.Built.{ComesBack, Follows, IsEdgeAt, IsRooted}
use Rattle.local_graph.specs.FiniteLocalPlay.{HasNoCycle}
use Rattle.local_graph.specs.LocalGraph.{AreDifferent, IsCycle, IsGraph, IsOrderOfPlaces, IsReachable, MoreThan, Plays}
use Rattle.local_graph.proofs.CycleLemmas.{comes_back}
use Rattle.local_graph.proofs.EdgeListLemmas.{node_inside}
use Rattle.local_graph.proofs.ExploreLemmas.{unpacked, apart}
use Rattle.local_graph.proofs.FiniteLemmas.{distinct, at_map}
use Rattle.local_graph.proofs.OrderLemmas.{edge_for, no_cycle, same_place}
use Rattle.local_graph.proofs.PlayLemmas.{plays_long, plays_more}

-- rising numbers are at least their places
rising_place : (xs : List ℕ) → IsStrictlyIncreasing xs → (k : ℕ) → k < length xs → k ≤ get_or xs k 0
rising_place xs rising zero lt = omega arith
rising_place xs rising (suc k) lt =
    let before = rising_place xs rising k (omega arith) in
    let step = rising k (omega arith) in
    let same : get_or xs (k + 1) 0 ≡ get_or xs (suc k) 0 = ap (λ j. get_or xs j 0) (add-one k) in
    omega (arith, before, step, same)

-- a region has at most as many points as the largest board
pub few_points : (columns rows : ℕ) (points : List ℕ) (cells : List Cell) (touch : List Touch) → columns ≤ 25 → rows ≤ 25
    → IsRegion columns rows points cells touch → length points ≤ 625
few_points columns rows points cells touch wide high r =
    let k = length points - 1 in
    let last : k < length points = omega (arith, r.some) in
    let low = rising_place points r.ascending k last in
    let inside = r.on_board (get_or points k 0) (Contains-get_or points k 0 last) in
    let area : columns * rows ≤ 25 * 25 = mul-le-mul {n₂ = 25} {m₂ = 25} wide high in
    omega (arith, low, inside, r.some)

module _ (touch : List Touch) (opening : List Cell) (positions : List ℕ) (edges : List (List Edge))
    (g : IsGraph touch opening positions edges) where
  -- moves lead along edges
  pub follow_moves : (i : ℕ) (p to : List Cell) (ms : List CycleMove) → i < length positions → IsReachable touch opening p
      → get_or positions i 0 ≡ pack p → Plays touch p ms to
      → (j : ℕ) × (es : List Edge) × Follows edges i es j × (j < length positions) × (get_or positions j 0 ≡ pack to)
  follow_moves i p to [] lt reach is h = (i, [], refl, lt, is ∙ ap pack h)
  follow_moves i p to (m ∷ ms) lt reach is (next, move, rest) =
      let w = edge_for touch opening positions edges g i p next m lt reach is move in
      let more = follow_moves w.e.next next to ms w.inside
      (reach.0 ++ m ∷ [], plays_more touch opening p next reach.0 m reach.1 move) w.leads rest in
      (more.0, w.e ∷ more.1, (w.among, more.2), more.3, more.4)

  pub edge_inside : (i : ℕ) (e : Edge) → IsEdgeAt edges i e → e.next < length edges
  edge_inside i e (k, lt, at) =
      let short : i < length positions = omega (arith, node_inside edges i k lt, g.beside) in
      let w = g.reachable (get_or positions i 0) (Contains-get_or positions i 0 short) in
      let h = g.moves i w.0 short w.1 w.2 in
      let none : LocalMove = record { colour = e.colour; place = 0; next = 0; taken = 0 } in
      let inside : k < length h.0 = omega (arith, h.2.0) in
      let is = h.2.1 k (get_or h.0 k none) e lt (get_or_default h.0 k (get_or h.0 k none) none inside) at in
      omega (arith, is.inside, g.beside)

  pub rooted : IsRooted edges
  rooted = record {
    some = omega (arith, g.some, g.beside);
    inside = edge_inside;
    reached = λ i lt.
        let short : i < length positions = omega (arith, g.beside) in
        let w = g.reachable (get_or positions i 0) (Contains-get_or positions i 0 short) in
        let f = follow_moves 0 opening w.0 w.1.0 g.some ([], refl) g.first w.1.1 in
        let same = same_place positions f.0 i g.once f.3 short (f.4 ∙ sym w.2) in
        (f.1, subst (Follows edges 0 f.1) same f.2);
  }

  -- a list of exactly the reachable positions
  pub all_positions : (found : List (List Cell)) × AllPairs (λ a b. a ≢ b) found × ((cells : List Cell) → Contains found cells ↔ IsReachable touch opening cells)
      × (length found ≡ length positions)
  all_positions =
      let w = unpacked touch opening positions g.reachable in
      let long : length w.0 ≡ length positions = sym (length-map w.0 pack) ∙ ap length w.1 in (
        w.0,
        apart w.0 positions w.1 g.once,
        (λ cells. (w.2 cells, λ reach. there w.0 w.1 w.2 cells reach)),
        long,
      )
    where
      there : (found : List (List Cell)) → map pack found ≡ positions → ((cells : List Cell) → Contains found cells → IsReachable touch opening cells)
          → (cells : List Cell) → IsReachable touch opening cells → Contains found cells
      there found is from cells reach =
          let (k, lt, at) = g.all cells reach in
          let short : k < length found = omega (arith, lt, length-map found pack, ap length is) in
          let other = get_or found k [] in
          let reach' = from other (Contains-get_or found k [] short) in
          let number : pack other ≡ pack cells = sym (get_or-map pack found k [] (pack cells) short) ∙ ap (λ l. get_or l k (pack cells)) is ∙ at in
          let same = pack_same other cells (plays_long touch opening other reach'.0 reach'.1 ∙ sym (plays_long touch opening cells reach.0 reach.1)) number in
          subst (Contains found) same (Contains-get_or found k [] short)

  -- no more positions are reachable than the graph has
  pub not_more : (limit : ℕ) → length positions ≤ limit → ¬ MoreThan touch opening limit
  not_more limit few m =
      let long = λ (cells : List Cell) (h : Contains m.found cells). let r = m.reachable cells h in plays_long touch opening cells r.0 r.1 in
      let once = distinct pack pack_same (length opening) m.found m.different long in
      let within = length-le_from_is_member nat_eq_equiv (map pack m.found) positions once member in
      omega (arith, within, length-map m.found pack, m.many)
    where
      member : (q : ℕ) → list_any (nat_eq q) (map pack m.found) ≡ true → list_any (nat_eq q) positions ≡ true
      member q is =
          let w = Contains-from_any {eq = nat_eq} eqb-true q (map pack m.found) is in
          let inside : w.0 < length m.found = omega (arith, w.1, length-map m.found pack) in
          let cells = get_or m.found w.0 [] in
          let number : q ≡ pack cells = sym w.2 ∙ at_map pack m.found w.0 q [] inside in
          let there = g.all cells (m.reachable cells (Contains-get_or m.found w.0 [] inside)) in
          list_any-from_Contains nat_eq_equiv q positions (subst (Contains positions) (sym number) there)

-- the same in the words of the code
pub built : (touch : List Touch) (opening : List Cell) (limit points : ℕ) (positions positions' order order' : List ℕ) (edges edges' : List (List Edge))
    → IsGraph touch opening positions edges × (length positions ≤ limit) → points ≤ 32 → IsOrderOfPlaces edges order
    → positions' ≡ positions → edges' ≡ edges → order' ≡ order
    → (points ≤ 32) × ¬ MoreThan touch opening limit × HasNoCycle touch opening
    × IsGraph touch opening positions' edges' × IsOrderOfPlaces edges' order'
built touch opening limit points positions positions' order order' edges edges' (g, few) small o ep ee eo = rw (ep, ee, eo) (
  small,
  not_more touch opening positions edges g limit few,
  no_cycle touch opening positions order edges g o,
  g,
  o,
)

pub has_cycle : (touch : List Touch) (opening : List Cell) (limit points back : ℕ) (positions : List ℕ) (edges : List (List Edge)) (ms : List CycleMove)
    → IsGraph touch opening positions edges × (length positions ≤ limit) → points ≤ 32 → ComesBack edges ms back
    → (points ≤ 32) × ¬ MoreThan touch opening limit × IsCycle touch opening ms back × AreDifferent touch opening ms
has_cycle touch opening limit points back positions edges ms (g, few) small c =
    let w = comes_back touch opening positions edges g ms back c in
    (small, not_more touch opening positions edges g limit few, w.0, w.1)

-- what the search for positions refused
pub refused : (r : Region) (limit : ℕ) (positions : List ℕ) (e : GraphError) → Explored r.touch r.cells limit positions (Err e) → length r.points ≤ 32 → Built r limit (Err e)
refused r limit positions Positions more few = (few, more)
refused r limit positions (Points n) e few = absurd e
refused r limit positions (Cycle ms back) e few = absurd e
refused r limit positions (Memory cause) e few = tt

-- what the search among the positions gives
pub built_or_cycle : (r : Region) (limit : ℕ) (positions : List ℕ) (edges : List (List Edge)) (result : Result Graph GraphError)
    → IsGraph r.touch r.cells positions edges × (length positions ≤ limit) → length r.points ≤ 32 → IsOrdered positions edges result → Built r limit result
built_or_cycle r limit positions edges (Ok g) graph few (is, its, order) =
    built r.touch r.cells limit (length r.points) positions g.positions g.order g.order edges g.edges graph few order is its refl
built_or_cycle r limit positions edges (Err (Cycle ms back)) graph few c = has_cycle r.touch r.cells limit (length r.points) back positions edges ms graph few c
built_or_cycle r limit positions edges (Err (Memory e)) graph few c = tt
built_or_cycle r limit positions edges (Err (Points n)) graph few c = absurd c
built_or_cycle r limit positions edges (Err Positions) graph few c = absurd c

pub ordered_count : (positions : List ℕ) (edges : List (List Edge)) (result : Result Graph GraphError) (before after : ℕ)
    → IsOrdered positions edges result → after ≡ before + length positions → IfOk result (λ g. after ≡ before + length g.positions)
ordered_count positions edges (Ok g) before after (is, its, order) e = e ∙ ap (λ ns. before + length ns) (sym is)
ordered_count positions edges (Err e) before after c h = tt
