-- Edges that come back are a cycle of local moves.
use Rattle.std.proofs.Common.{◌≡◌, ℕ, ◌<◌, zero, suc, arith, refl, sym, ap, ◌∙◌, List, [], ◌∷◌, ◌++◌, map, length, get_or, take, drop, subst}
use Rattle.std.proofs.lemmas.List.{get_or_default, length-map, take-append-drop}
use Rattle.go_grid.specs.declared.grid.Cell.{Cell}
use Rattle.go_grid.specs.declared.region.Touch.{Touch}
use Rattle.local_play.specs.declared.local_move.LocalMove.{LocalMove}
use Rattle.local_play.specs.LocalPlay.{IsLocalMove, IsNumberTaken}
use Rattle.local_play.specs.Packed.{pack}
use Rattle.local_play.proofs.PackLemmas.{pack_same}
use Rattle.local_graph.specs.declared.cycle.CycleMove.{CycleMove}
use Rattle.local_graph.specs.declared.graph.Edge.{Edge}
use Rattle.local_graph.specs.LocalGraph.{Plays, IsReachable, IsCycle, AreDifferent, IsGraph}
use Rattle.local_graph.specs.inner.Built.{IsEdgeAt, Follows, ComesBack, move_of}
use Rattle.local_graph.proofs.PlayLemmas.{plays_more, plays_long, one_after}
use Rattle.local_graph.proofs.OrderLemmas.{same_place}

take_map : {X Y : Type 0} (f : X → Y) (n : ℕ) (xs : List X) → take n (map f xs) ≡ map f (take n xs)
take_map f zero xs = refl
take_map f (suc n) [] = refl
take_map f (suc n) (x ∷ xs) = ap (λ l. f x ∷ l) (take_map f n xs)

drop_map : {X Y : Type 0} (f : X → Y) (n : ℕ) (xs : List X) → drop n (map f xs) ≡ map f (drop n xs)
drop_map f zero xs = refl
drop_map f (suc n) [] = refl
drop_map f (suc n) (x ∷ xs) = drop_map f n xs

-- one list of edges and then another
pub follows_both : (edges : List (List Edge)) (i j k : ℕ) (es fs : List Edge) → Follows edges i es j → Follows edges j fs k → Follows edges i (es ++ fs) k
follows_both edges i j k [] fs p q = subst (λ x. Follows edges x fs k) (sym p) q
follows_both edges i j k (e ∷ es) fs (at, rest) q = (at, follows_both edges e.next j k es fs rest q)

-- the front of a list of edges leads somewhere
follows_take : (edges : List (List Edge)) (i j n : ℕ) (es : List Edge) → Follows edges i es j → (x : ℕ) × Follows edges i (take n es) x
follows_take edges i j zero es p = (i, refl)
follows_take edges i j (suc n) [] p = (j, p)
follows_take edges i j (suc n) (e ∷ es) (at, rest) = let w = follows_take edges e.next j n es rest in (w.0, (at, w.1))

-- a list of moves leads to one position
one_end : (touch : List Touch) (from a b : List Cell) (ms : List CycleMove) → Plays touch from ms a → Plays touch from ms b → a ≡ b
one_end touch from a b [] p q = sym p ∙ q
one_end touch from a b (m ∷ ms) (x, mx, px) (y, my, py) =
    one_end touch y a b ms (subst (λ z. Plays touch z ms a) (one_after touch from x y m.colour m.place mx my) px) py

-- the position at a place of the graph
pub record Stands (touch : List Touch) (opening : List Cell) (positions : List ℕ) (i : ℕ) (p : List Cell) : Type 0 where
  pub inside : i < length positions
  pub reach : IsReachable touch opening p
  pub is : get_or positions i 0 ≡ pack p

-- an edge is a legal move that takes as many stones
pub edge_plays : (touch : List Touch) (opening : List Cell) (positions : List ℕ) (edges : List (List Edge)) → IsGraph touch opening positions edges
    → (i : ℕ) (p : List Cell) (e : Edge) → Stands touch opening positions i p → IsEdgeAt edges i e
    → (next : List Cell) × IsLocalMove touch p e.colour e.place next × Stands touch opening positions e.next next × IsNumberTaken p next e.taken
edge_plays touch opening positions edges g i p e s (k, lt, at) =
    let h = g.moves i p s.inside s.reach s.is in
    let none : LocalMove = record { colour = e.colour; place = 0; next = 0; taken = 0 } in
    let short : k < length h.0 = omega (arith, h.2.0) in
    let m = get_or h.0 k none in
    let w = h.2.1 k m e lt (get_or_default h.0 k m none short) at in
    let legal = h.1.legal m (k, short, get_or_default h.0 k m none short) in
    let move' = subst (λ c. IsLocalMove touch p c m.place legal.after) (sym w.colour) legal.move in
    let move = subst (λ x. IsLocalMove touch p e.colour x legal.after) (sym w.place) move' in (
      legal.after,
      move,
      record {
        inside = w.inside;
        reach = (s.reach.0 ++ move_of e ∷ [], plays_more touch opening p legal.after s.reach.0 (move_of e) s.reach.1 move);
        is = w.next ∙ legal.next;
      },
      subst (IsNumberTaken p legal.after) (sym w.taken) legal.taken,
    )

pub edges_play : (touch : List Touch) (opening : List Cell) (positions : List ℕ) (edges : List (List Edge)) → IsGraph touch opening positions edges
    → (i j : ℕ) (p : List Cell) (es : List Edge) → Stands touch opening positions i p → Follows edges i es j
    → (q : List Cell) × Plays touch p (map move_of es) q × Stands touch opening positions j q
edges_play touch opening positions edges g i j p [] s f = (p, refl, subst (λ x. Stands touch opening positions x p) f s)
edges_play touch opening positions edges g i j p (e ∷ es) s (at, rest) =
    let first = edge_plays touch opening positions edges g i p e s at in
    let later = edges_play touch opening positions edges g e.next j first.0 es first.2 rest in
    (later.0, (first.0, first.1, later.1), later.2)

pub comes_back : (touch : List Touch) (opening : List Cell) (positions : List ℕ) (edges : List (List Edge)) → IsGraph touch opening positions edges
    → (ms : List CycleMove) (back : ℕ) → ComesBack edges ms back → IsCycle touch opening ms back × AreDifferent touch opening ms
comes_back touch opening positions edges g ms back c = (cycle, different)
  where
    start : Stands touch opening positions 0 opening
    start = record { inside = g.some; reach = ([], refl); is = g.first }

    there : (q : List Cell) × Plays touch opening (map move_of (take back c.along)) q × Stands touch opening positions c.node q
    there = edges_play touch opening positions edges g 0 c.node opening (take back c.along) start c.there

    again : (q : List Cell) × Plays touch there.0 (map move_of (drop back c.along)) q × Stands touch opening positions c.node q
    again = edges_play touch opening positions edges g c.node c.node there.0 (drop back c.along) there.2 c.again

    same : again.0 ≡ there.0
    same =
        let a = again.2.reach in
        let b = there.2.reach in
        pack_same again.0 there.0 (plays_long touch opening again.0 a.0 a.1 ∙ sym (plays_long touch opening there.0 b.0 b.1))
        (sym again.2.is ∙ there.2.is)

    cycle : IsCycle touch opening ms back
    cycle = record {
      before_end = let l = ap length c.moves in omega (arith, length-map c.along move_of, c.before_end);
      returns_to = there.0;
      there = subst (λ l. Plays touch opening l there.0) (sym (take_map move_of back c.along) ∙ ap (take back) c.moves) there.1;
      again = subst (λ l. Plays touch there.0 l there.0) (sym (drop_map move_of back c.along) ∙ ap (drop back) c.moves)
          (subst (λ q. Plays touch there.0 (map move_of (drop back c.along)) q) same again.1);
    }

    whole : Follows edges 0 c.along c.node
    whole = subst (λ l. Follows edges 0 l c.node) (take-append-drop back c.along)
        (follows_both edges 0 c.node c.node (take back c.along) (drop back c.along) c.there c.again)

    -- the position after a front of the list
    front : (i : ℕ) (a : List Cell) → Plays touch opening (take i ms) a
        → (n : ℕ) × Follows edges 0 (take i c.along) n × (n < length positions) × (get_or positions n 0 ≡ pack a)
    front i a p =
        let w = follows_take edges 0 c.node i c.along whole in
        let q = edges_play touch opening positions edges g 0 w.0 opening (take i c.along) start w.1 in
        let p' = subst (λ l. Plays touch opening l a) (ap (take i) (sym c.moves) ∙ take_map move_of i c.along) p in
        let e = one_end touch opening q.0 a (map move_of (take i c.along)) q.1 p' in
        (w.0, w.1, q.2.inside, q.2.is ∙ ap pack e)

    different : AreDifferent touch opening ms
    different i j a b lt short pa pb e =
        let x = front i a pa in
        let y = front j b pb in
        let long : j < length c.along = let l = ap length c.moves in omega (arith, length-map c.along move_of) in
        c.different i j x.0 y.0 lt long x.1 y.1 (same_place positions x.0 y.0 g.once x.2 y.2 (x.3 ∙ ap pack e ∙ sym y.3))
