-- A graph with an order, ends first, has no cycle.
use Rattle.std.proofs.Common.{◌≡◌, ◌≢◌, ℕ, ◌+◌, ◌<◌, ◌≤◌, inl, inr, arith, sym, ap, ◌∙◌, List, [], ◌∷◌, ◌++◌, length, get_or, take, drop, subst, length-drop}
use Rattle.std.specs.List.{AllPairs, Contains}
use Rattle.std.proofs.lemmas.Bool.{cases_lt}
use Rattle.std.proofs.lemmas.List.{get_or_default}
use Rattle.std.proofs.lemmas.List.Elements.{Contains-get_or}
use Rattle.go_grid.specs.declared.grid.Cell.{Cell}
use Rattle.go_grid.specs.declared.region.Touch.{Touch}
use Rattle.local_play.specs.LocalPlay.{IsLocalMove}
use Rattle.local_play.specs.Packed.{pack}
use Rattle.local_graph.specs.declared.cycle.CycleMove.{CycleMove}
use Rattle.local_graph.specs.declared.graph.Edge.{Edge}
use Rattle.local_graph.specs.LocalGraph.{Plays, IsReachable, IsGraph, IsOrderOfPlaces}
use Rattle.local_graph.specs.FiniteLocalPlay.{HasNoCycle}
use Rattle.local_graph.proofs.PlayLemmas.{plays_more, one_after}

-- the edge that a move takes
pub record HasEdge (positions : List ℕ) (edges : List Edge) (m : CycleMove) (next : List Cell) : Type 0 where
  pub e : Edge
  pub among : Contains edges e
  pub colour : e.colour ≡ m.colour
  pub place : e.place ≡ m.place
  pub inside : e.next < length positions
  pub leads : get_or positions e.next 0 ≡ pack next

pub edge_for : (touch : List Touch) (opening : List Cell) (positions : List ℕ) (edges : List (List Edge)) → IsGraph touch opening positions edges
    → (i : ℕ) (p next : List Cell) (m : CycleMove) → i < length positions → IsReachable touch opening p → get_or positions i 0 ≡ pack p
    → IsLocalMove touch p m.colour m.place next → HasEdge positions (get_or edges i []) m next
edge_for touch opening positions edges g i p next m lt reach is move =
    let h = g.moves i p lt reach is in
    let found = h.1.all m.colour m.place next move in
    let legal = h.1.legal found.0 found.1 in
    let move' = subst (λ x. IsLocalMove touch p m.colour x next) (sym found.3) move in
    let move'' = subst (λ c. IsLocalMove touch p c found.0.place next) (sym found.2) move' in
    let same = one_after touch p legal.after next found.0.colour found.0.place legal.move move'' in
    let none : Edge = record { colour = m.colour; place = 0; next = 0; taken = 0 } in
    let short : found.1.0 < length (get_or edges i []) = omega (arith, found.1.1, h.2.0) in
    let e = get_or (get_or edges i []) found.1.0 none in
    let w = h.2.1 found.1.0 found.0 e short found.1.2 (get_or_default (get_or edges i []) found.1.0 e none short) in
    record {
      e = e;
      among = Contains-get_or (get_or edges i []) found.1.0 none short;
      colour = w.colour ∙ found.2;
      place = w.place ∙ found.3;
      inside = w.inside;
      leads = w.next ∙ legal.next ∙ ap pack same;
    }

-- the position stands in the order at `k`
record StandsAt (positions order : List ℕ) (p : List Cell) (k : ℕ) : Type 0 where
  short : k < length order
  place : get_or order k 0 < length positions
  is : get_or positions (get_or order k 0) 0 ≡ pack p

step_back : (touch : List Touch) (opening : List Cell) (positions order : List ℕ) (edges : List (List Edge))
    → IsGraph touch opening positions edges → IsOrderOfPlaces edges order → (p next : List Cell) (m : CycleMove) (k : ℕ)
    → IsReachable touch opening p → StandsAt positions order p k → IsLocalMove touch p m.colour m.place next
    → (j : ℕ) × (j < k) × StandsAt positions order next j
step_back touch opening positions order edges g o p next m k reach at move =
    let w = edge_for touch opening positions edges g (get_or order k 0) p next m at.place reach at.is move in
    let earlier = o.ends_first k w.e at.short w.among in (
      earlier.0,
      earlier.1,
      record {
        short = omega (arith, earlier.1, at.short);
        place = subst (λ x. x < length positions) (sym earlier.2) w.inside;
        is = ap (λ x. get_or positions x 0) earlier.2 ∙ w.leads;
      },
    )

walk_back : (touch : List Touch) (opening : List Cell) (positions order : List ℕ) (edges : List (List Edge))
    → IsGraph touch opening positions edges → IsOrderOfPlaces edges order → (p end : List Cell) (ms : List CycleMove) (k : ℕ)
    → IsReachable touch opening p → StandsAt positions order p k → Plays touch p ms end
    → (j : ℕ) × (j + length ms ≤ k) × StandsAt positions order end j
walk_back touch opening positions order edges g o p end [] k reach at h =
    (k, omega arith, subst (λ x. StandsAt positions order x k) h at)
walk_back touch opening positions order edges g o p end (m ∷ ms) k reach at (next, move, rest) =
    let first = step_back touch opening positions order edges g o p next m k reach at move in
    let later = walk_back touch opening positions order edges g o next end ms first.0
    (reach.0 ++ m ∷ [], plays_more touch opening p next reach.0 m reach.1 move) first.2 rest in
    (later.0, omega (arith, later.1, first.1), later.2)

-- numbers that differ by place
pub same_place : (ns : List ℕ) (i j : ℕ) → AllPairs (λ a b. a ≢ b) ns → i < length ns → j < length ns → get_or ns i 0 ≡ get_or ns j 0 → i ≡ j
same_place ns i j once li lj e = elim (cases_lt i j) [
  | inl lt ↦ absurd (once i j 0 lt lj e)
  | inr le ↦ elim (cases_lt j i) as (λ _. i ≡ j) [
    | inl lt ↦ absurd (once j i 0 lt li (sym e))
    | inr le' ↦ omega arith
  ]
]

pub no_cycle : (touch : List Touch) (opening : List Cell) (positions order : List ℕ) (edges : List (List Edge))
    → IsGraph touch opening positions edges → IsOrderOfPlaces edges order → HasNoCycle touch opening
no_cycle touch opening positions order edges g o ms back c =
    let p = c.returns_to in
    let reach : IsReachable touch opening p = (take back ms, c.there) in
    let found = g.all p reach in
    let at = get_or_default positions found.0 0 (pack p) found.1 ∙ found.2 in
    let placed = o.every found.0 (omega (arith, found.1, g.beside)) in
    let is : get_or order placed.0 0 ≡ found.0 = get_or_default order placed.0 0 found.0 placed.1 ∙ placed.2 in
    let here : StandsAt positions order p placed.0 = record {
      short = placed.1;
      place = subst (λ x. x < length positions) (sym is) found.1;
      is = ap (λ x. get_or positions x 0) is ∙ at;
    } in
    let again = walk_back touch opening positions order edges g o p p (drop back ms) placed.0 reach here c.again in
    let one = same_place positions (get_or order again.0 0) (get_or order placed.0 0) g.once again.2.place here.place (again.2.is ∙ sym here.is) in
    let two = same_place order again.0 placed.0 o.once again.2.short here.short one in
    omega (arith, again.1, two, length-drop back ms, c.before_end)
