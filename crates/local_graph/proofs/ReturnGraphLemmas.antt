-- Components tell which moves return, and ranks fall or rise along edges.
use Rattle.std.proofs.Common.{◌≡◌, ℕ, ◌<◌, ◌≤◌, inl, inr, arith, refl, sym, ap, ◌∙◌, List, [], ◌∷◌, ◌++◌, ◌↔◌, map, length, get_or, subst, Option, None, Some}
use Rattle.std.specs.List.{Contains}
use Rattle.std.proofs.lemmas.List.{length-map, get_or_default}
use Rattle.std.proofs.lemmas.List.Elements.{Contains-get_or}
use Rattle.go_grid.specs.declared.grid.Cell.{Cell}
use Rattle.go_grid.specs.declared.grid.Colour.{Colour}
use Rattle.go_grid.specs.declared.grid.Colour.TheVariants.{Black, White}
use Rattle.go_grid.specs.declared.region.Touch.{Touch}
use Rattle.local_play.specs.LocalPlay.{IsNumberTaken}
use Rattle.local_play.specs.Packed.{pack}
use Rattle.local_play.proofs.PackLemmas.{pack_same}
use Rattle.local_graph.specs.declared.graph.Edge.{Edge}
use Rattle.local_graph.specs.FiniteLocalPlay.{HasNoCycle}
use Rattle.local_graph.specs.LocalGraph.{IsGraph, IsOrderOfPlaces, IsReachable, MoreThan, Plays}
use Rattle.local_graph.specs.Returns.{IsReturningCapture}
use Rattle.local_graph.specs.ReturnGraph.{ReturnGraph, order_for, TellReturns, IsReturningCaptureAt, IsOrderBetweenCaptures}
use Rattle.local_graph.specs.inner.Built.{Follows, move_of}
use Rattle.local_graph.specs.inner.MadeWithReturns.{AreTold, HasWayBack, IsMadeOf}
use Rattle.local_graph.specs.inner.Searching.{nodes_of}
use Rattle.local_graph.specs.inner.Graph.{edge_at}
use Rattle.local_graph.specs.inner.Ranks.{AllFallOrRise, FallsOrRises}
use Rattle.local_graph.specs.inner.Telling.{AreComponents}
use Rattle.local_graph.proofs.BuildLemmas.{follow_moves, edge_inside, not_more}
use Rattle.local_graph.proofs.CaptureLemmas.{more_or_capture}
use Rattle.local_graph.proofs.CycleLemmas.{Stands, edge_plays, edges_play, comes_back}
use Rattle.local_graph.proofs.FiniteLemmas.{cycle_of}
use Rattle.local_graph.proofs.OrderLemmas.{no_cycle, same_place}
use Rattle.local_graph.proofs.PathLemmas.{path_returns}
use Rattle.local_graph.proofs.PlayLemmas.{plays_long}

module _ (touch : List Touch) (opening : List Cell) (positions : List ℕ) (edges : List (List Edge))
    (g : IsGraph touch opening positions edges) (components : List ℕ) (a : AreComponents edges components) where
  -- along edges components don't rise
  falls_along : (i j : ℕ) (es : List Edge) → i < length edges → Follows edges i es j → get_or components j 0 ≤ get_or components i 0
  falls_along i j [] lt f = omega (arith, ap (λ x. get_or components x 0) f)
  falls_along i j (e ∷ es) lt (among, rest) =
      omega (arith, a.down i e lt among, falls_along e.next j es (edge_inside touch opening positions edges g i e among) rest)

  pub returns_told : TellReturns touch opening positions edges (Some components)
  returns_told i e from to lt among reach reach' is is' = (back, stays)
    where
      inside : e.next < length edges
      inside = edge_inside touch opening positions edges g i e among

      back : get_or components e.next 0 ≡ get_or components i 0 → IsReachable touch to from
      back same =
          let w = a.together e.next i inside (omega (arith, lt, g.beside)) same in
          let s : Stands touch opening positions e.next to = record { inside = omega (arith, inside, g.beside); reach = reach'; is = is' } in
          let p = edges_play touch opening positions edges g e.next i to w.0 s w.1 in
          let one = pack_same p.0 from (plays_long touch opening p.0 p.2.reach.0 p.2.reach.1 ∙ sym (plays_long touch opening from reach.0 reach.1))
          (sym p.2.is ∙ is) in
          (map move_of w.0, subst (Plays touch to (map move_of w.0)) one p.1)

      stays : IsReachable touch to from → get_or components e.next 0 ≡ get_or components i 0
      stays (ms, plays) =
          let w = follow_moves touch opening positions edges g e.next to from ms (omega (arith, inside, g.beside)) reach' is' plays in
          let one : w.0 ≡ i = same_place positions w.0 i g.once w.3 lt (w.4 ∙ sym is) in
          let up = falls_along e.next w.0 w.1 inside w.2 in
          omega (arith, up, ap (λ x. get_or components x 0) one, a.down i e (omega (arith, lt, g.beside)) among)

  pub fall_or_rise : (c : Colour) → length opening ≤ 32 → AllFallOrRise c positions components edges
  fall_or_rise c few = record { beside = g.beside; each = each }
    where
      each : (i : ℕ) (e : Edge) → i < length positions → Contains (get_or edges i []) e → FallsOrRises c positions components i e
      each i e lt among =
          let (p, reach, is) = g.reachable (get_or positions i 0) (Contains-get_or positions i 0 lt) in
          let (next, move, s, taken) = edge_plays touch opening positions edges g i p e (record { inside = lt; reach = reach; is = is }) among in
          let small : length p ≤ 32 = omega (arith, plays_long touch opening p reach.0 reach.1, few) in
          record {
            inside = s.inside;
            down = a.down i e (omega (arith, lt, g.beside)) among;
            from = p;
            to = next;
            few = small;
            few_after = omega (arith, plays_long touch opening next s.reach.0 s.reach.1, few);
            is_from = is;
            is_to = s.is;
            rises = elim (more_or_capture touch p next c e.colour e.place 32 small move) [
              | inl takes ↦ let (n, some, count) = takes.1 in inl (takes.0, omega (arith, some, count, taken))
              | inr more ↦ inr more
            ];
          }

-- without a cycle no move returns
none_told : (touch : List Touch) (opening : List Cell) (positions : List ℕ) (edges : List (List Edge)) → IsGraph touch opening positions edges
    → HasNoCycle touch opening → TellReturns touch opening positions edges None
none_told touch opening positions edges g none i e from to lt among reach reach' is is' = (λ stays. absurd stays, around)
  where
    around : IsReachable touch to from → ⊥
    around (ms, plays) =
        let (next, move, s, taken) = edge_plays touch opening positions edges g i from e (record { inside = lt; reach = reach; is = is }) among in
        let one = pack_same to next (plays_long touch opening to reach'.0 reach'.1 ∙ sym (plays_long touch opening next s.reach.0 s.reach.1))
        (sym is' ∙ s.is) in
        none (reach.0 ++ move_of e ∷ ms) (length reach.0)
        (cycle_of touch opening from reach.0 (move_of e ∷ ms) reach.1 (next, move, subst (λ x. Plays touch x ms from) one plays) (omega arith))

-- an edge is a returning capture exactly where its move is one
pub capture_at : (touch : List Touch) (opening : List Cell) (positions : List ℕ) (edges : List (List Edge)) → IsGraph touch opening positions edges
    → (components : Option (List ℕ)) → TellReturns touch opening positions edges components → (c : Colour) (i : ℕ) (e : Edge) (from to : List Cell)
    → i < length positions → Contains (get_or edges i []) e → IsReachable touch opening from → IsReachable touch opening to
    → get_or positions i 0 ≡ pack from → get_or positions e.next 0 ≡ pack to
    → IsReturningCaptureAt c components i e ↔ IsReturningCapture touch c from (move_of e) to
capture_at touch opening positions edges g components tell c i e from to lt among reach reach' is is' =
    let (next, move, s, taken) = edge_plays touch opening positions edges g i from e (record { inside = lt; reach = reach; is = is }) among in
    let one = pack_same next to (plays_long touch opening next s.reach.0 s.reach.1 ∙ sym (plays_long touch opening to reach'.0 reach'.1))
    (sym s.is ∙ is') in
    let takes = subst (λ x. IsNumberTaken from x e.taken) one taken in
    let same = tell i e from to lt among reach reach' is is' in (
      λ (own, some, stays). (own, (e.taken, some, takes), same.0 stays),
      λ (own, (n, some, count), returns). (own, omega (arith, some, count, takes), same.1 returns),
    )

-- a path that comes back is a cycle
way_back : (touch : List Touch) (opening : List Cell) (positions : List ℕ) (edges : List (List Edge)) → IsGraph touch opening positions edges
    → HasWayBack edges → HasNoCycle touch opening → ⊥
way_back touch opening positions edges g (path, node, r) none =
    let (back, lt, at) = r.there in
    let short : back < length path = omega (arith, lt, length-map path (λ f. f.node)) in
    let ms = map (λ f. move_of (edge_at edges f.node f.left)) path in
    none ms back (comes_back touch opening positions edges g ms back
    (path_returns edges path node back ms r short (get_or_default (nodes_of path) back 0 node lt ∙ at) refl)).0

-- an order of all edges serves both colours
for_each : (c : Colour) (edges : List (List Edge)) (order : List ℕ) → IsOrderOfPlaces edges order → IsOrderBetweenCaptures c edges None order
for_each c edges order o = record {
  once = o.once;
  inside = o.inside;
  every = o.every;
  ends_first = λ k e lt among _. o.ends_first k e lt among;
}

module _ (touch : List Touch) (opening : List Cell) (positions : List ℕ) (edges : List (List Edge))
    (g : IsGraph touch opening positions edges) (few : length opening ≤ 32) where
  abbrev Told : Option (List ℕ) → List ℕ → List ℕ → Type 0
  Told components black white = ((components ≡ None) ↔ HasNoCycle touch opening) × TellReturns touch opening positions edges components
      × IsOrderBetweenCaptures Black edges components black × IsOrderBetweenCaptures White edges components white

  told : (components : Option (List ℕ)) (black white : List ℕ) → AreTold positions edges components black white → Told components black white
  told None black white (order, same) =
      let none = no_cycle touch opening positions black edges g order in (
        (λ _. none, λ _. refl),
        none_told touch opening positions edges g none,
        for_each Black edges black order,
        subst (IsOrderBetweenCaptures White edges None) (sym same) (for_each White edges black order),
      )
  told (Some components) black white (back, are, first, second) = (
    (λ e. some_none components e, λ none. absurd (way_back touch opening positions edges g back none)),
    returns_told touch opening positions edges g components are,
    first (fall_or_rise touch opening positions edges g components are Black few),
    second (fall_or_rise touch opening positions edges g components are White few),
  )
    where
      some_none : (components : List ℕ) → Some components ≡ None → HasNoCycle touch opening
      some_none components e = cc

-- the whole graph
pub built_with_returns : (touch : List Touch) (opening : List Cell) (limit points : ℕ) (positions positions' : List ℕ) (edges : List (List Edge))
    (r : ReturnGraph) → IsGraph touch opening positions edges × (length positions ≤ limit) → points ≤ 32 → length opening ≡ points
    → positions' ≡ positions → IsMadeOf positions' edges r
    → (points ≤ 32) × ¬ MoreThan touch opening limit × IsGraph touch opening r.positions r.edges
    × ((r.components ≡ None) ↔ HasNoCycle touch opening) × TellReturns touch opening r.positions r.edges r.components
    × ((c : Colour) → IsOrderBetweenCaptures c r.edges r.components (order_for r c))
built_with_returns touch opening limit points positions positions' edges r (g, few) small full same m =
    let is : r.positions ≡ positions = m.positions_are ∙ same in
    let w = told touch opening positions edges g (omega (arith, small, full)) r.components r.black_order r.white_order
    (subst (λ ps. AreTold ps edges r.components r.black_order r.white_order) same m.told) in
    rw (is, m.edges_are) (small, not_more touch opening positions edges g limit few, g, w.0, w.1, orders w.2 w.3)
  where
    orders : IsOrderBetweenCaptures Black edges r.components r.black_order → IsOrderBetweenCaptures White edges r.components r.white_order
        → (c : Colour) → IsOrderBetweenCaptures c edges r.components (order_for r c)
    orders black white Black = black
    orders black white White = white
