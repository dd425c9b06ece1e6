-- The marked points are sealed one after the other, and the declared ones are closed off.
use Rattle.std.proofs.Common.{ℕ, suc, ◌+◌, ◌<◌, ◌≤◌, ◌≡◌, ◌≢◌, ◌⊎◌, ◌↔◌, List, [], ◌∷◌, ◌++◌, length, get_or, arith, refl, sym, inl, inr, ◌∙◌, ap, ap₂, subst, cond, Bool, true, false, Some, None, below_more}
use Rattle.std.specs.Prelude.{Option, Result, Ok, Err, count_by, map, slice_set}
use Rattle.std.proofs.lemmas.Bool.{cases_lt}
use Rattle.std.proofs.lemmas.List.{ext_get_or, get_or-set_same, get_or-set_other, length-set, get_or_append_left, get_or_push, get_or-map, length_push}
use Rattle.std.proofs.lemmas.List.Sums.{sum_by-cons}
use Rattle.go_grid.specs.declared.grid.Colour.{Colour}
use Rattle.go_grid.specs.declared.grid.Colour.TheVariants.{Black, White}
use Rattle.go_grid.specs.declared.grid.Cell.{Cell}
use Rattle.go_grid.specs.declared.grid.Cell.TheVariants as cell
use Rattle.go_grid.specs.Board.{Board, HasStone, IsClosedOff, IsDeclared, NextTo, cell_at, declared_at, other, stone}
use Rattle.go_grid.specs.Marks.{IsMarked, Marks}
use Rattle.go_grid.proofs.BoardLemmas.{cell_stable, same_or_not}
use Rattle.go_grid.proofs.DecidedLemmas.{Decided, both, either}
use Rattle.go_grid.proofs.DeclaredLemmas.{declared_or_not}
use Rattle.go_grid.proofs.PointsLemmas.{no_mark}
use Rattle.sgf_tree.specs.Grammar.{PropertyText}
use Rattle.sgf_tree.specs.Reading.{property_text, node_text}
use Rattle.sgf_tree.specs.declared.tree.Node.{Node}
use Rattle.sgf_tree.specs.declared.tree.Property.{Property}
use Rattle.sgf_go.specs.declared.fault.GoError.{GoError}
use Rattle.sgf_go.specs.declared.fault.GoError.TheVariants.{Fault, Memory}
use Rattle.sgf_go.specs.Setup.{Part, TerritoryOf, TerritoryPart}
use Rattle.sgf_go.specs.inner.Setup.{AnswersPart}
use Rattle.sgf_go.specs.declared.replay.Replay.{Replay}
use Rattle.sgf_go.specs.declared.fault.SetupFault.{SetupFault}
use Rattle.sgf_go.specs.declared.fault.SetupFault.TheVariants.{BadPoint, MarkedTwice}
use Rattle.sgf_go.specs.declared.marks.MarkedPoints.{MarkedPoints}
use Rattle.sgf_go.specs.Territory.{Marking, IsMarkedFor, IsMarkedTwice, IsFirstTwice, IsHeldBy, IsOnEdge, Becomes, IsSealed, IsNumberOf, IsDead, IsGain, Seals, MarksTerritory, HasBadMark}
use Rattle.sgf_go.specs.inner.Territory.{AreEdges, AreMarked, SealsBelow, marking, marks_of}

-- one point
only_one : (M : Marking) (p : ℕ) → ¬ IsMarkedTwice M p → (c d : Colour) → M c p → M d p → c ≡ d
only_one M p once Black Black a b = refl
only_one M p once Black White a b = absurd (once (a, b))
only_one M p once White Black a b = absurd (once (b, a))
only_one M p once White White a b = refl

pub becomes_rest : (M Edge : Marking) (p : ℕ) (was : Cell) → ((c : Colour) → ¬ M c p) → ((c : Colour) → Edge c p → M c p) → Becomes M Edge p was was None
becomes_rest M Edge p was none inside = record {
  edge = λ c e. absurd (none c (inside c e));
  inner = λ c m _. absurd (none c m);
  rest = λ _. (refl, refl);
}

pub becomes_edge : (M Edge : Marking) (p : ℕ) (was now : Cell) (c : Colour) → ¬ IsMarkedTwice M p → ((d : Colour) → Edge d p → M d p) → M c p → Edge c p → now ≡ stone c
    → Becomes M Edge p was now None
becomes_edge M Edge p was now c once inside m e is = record {
  edge = λ d f. (is ∙ ap stone (only_one M p once c d m (inside d f)), refl);
  inner = λ d n f. absurd (f (subst (λ x. Edge x p) (only_one M p once c d m n) e));
  rest = λ none. absurd (none c m);
}

pub becomes_inner : (M Edge : Marking) (p : ℕ) (was : Cell) (c : Colour) → ¬ IsMarkedTwice M p → ((d : Colour) → Edge d p → M d p) → M c p → ¬ Edge c p
    → Becomes M Edge p was cell.Empty (Some c)
becomes_inner M Edge p was c once inside m f = record {
  edge = λ d e. absurd (f (subst (λ x. Edge x p) (sym (only_one M p once c d m (inside d e))) e));
  inner = λ d n _. (refl, ap Some (only_one M p once c d m n));
  rest = λ none. absurd (none c m);
}

-- the loop over the points
pub seals_start : (M Edge : Marking) (g : Board) → SealsBelow M Edge g 0 g []
seals_start M Edge g = record { columns = refl; rows = refl; long = refl; listed = refl; done = λ p lt. absurd (omega (arith, lt)); rest = λ p _. refl }

pub seals_step : (M Edge : Marking) (g h : Board) (n : ℕ) (now : Cell) (owner : Option Colour) (declared : List (Option Colour)) → n < length g.cells → SealsBelow M Edge g n h declared
    → Becomes M Edge n (cell_at h n) now owner → SealsBelow M Edge g (n + 1) (record h { cells = slice_set h.cells n now }) (declared ++ owner ∷ [])
seals_step M Edge g h n now owner declared on so here = record {
  columns = so.columns;
  rows = so.rows;
  long = length-set h.cells n now ∙ so.long;
  listed = omega (arith, so.listed, length_push declared owner);
  done = below_more (λ p. Becomes M Edge p (cell_at g p) (get_or (slice_set h.cells n now) p cell.Empty) (get_or (declared ++ owner ∷ []) p None)) n old new;
  rest = λ p le. get_or-set_other h.cells n p now cell.Empty (above p le) ∙ so.rest p (omega (arith, le));
}
  where
    above : (p : ℕ) → n + 1 ≤ p → p ≢ n
    above p le e = omega (arith, le, e)

    under : (p : ℕ) → p < n → p ≢ n
    under p lt e = omega (arith, lt, e)

    old : (p : ℕ) → p < n → Becomes M Edge p (cell_at g p) (get_or (slice_set h.cells n now) p cell.Empty) (get_or (declared ++ owner ∷ []) p None)
    old p lt =
        let short : p < length declared = omega (arith, lt, so.listed) in
        subst (Becomes M Edge p (cell_at g p) (get_or (slice_set h.cells n now) p cell.Empty)) (sym (get_or_append_left declared (owner ∷ []) None p short))
        (subst (λ x. Becomes M Edge p (cell_at g p) x (get_or declared p None)) (sym (get_or-set_other h.cells n p now cell.Empty (under p lt))) (so.done p lt))

    new : Becomes M Edge n (cell_at g n) (get_or (slice_set h.cells n now) n cell.Empty) (get_or (declared ++ owner ∷ []) n None)
    new =
        let long : n < length h.cells = omega (arith, on, so.long) in
        subst (Becomes M Edge n (cell_at g n) (get_or (slice_set h.cells n now) n cell.Empty)) (sym (get_or_push declared owner None n so.listed))
        (subst (λ x. Becomes M Edge n (cell_at g n) x owner) (sym (get_or-set_same h.cells n now cell.Empty long))
        (subst (λ x. Becomes M Edge n x now owner) (so.rest n (omega arith)) here))

-- the points of the edge, by a set of them or by what it means
becomes_like : (M Edge Like : Marking) (p : ℕ) (was now : Cell) (owner : Option Colour) → ((c : Colour) → Edge c p ↔ Like c p) → Becomes M Edge p was now owner → Becomes M Like p was now owner
becomes_like M Edge Like p was now owner same so = record {
  edge = λ c e. so.edge c ((same c).1 e);
  inner = λ c m f. so.inner c m (λ e. f ((same c).0 e));
  rest = so.rest;
}

pub seals_end : (m : MarkedPoints) (e : MarkedPoints) (g h : Board) (n : ℕ) (declared : List (Option Colour)) → length g.cells ≤ n → n ≤ length g.cells → AreEdges g (marking m) e
    → SealsBelow (marking m) (marking e) g n h declared → IsSealed (marking m) g (record h { declared = declared })
seals_end m e g h n declared le ge edges so = record {
  columns = so.columns;
  rows = so.rows;
  long = so.long;
  listed = omega (arith, so.listed, le, ge);
  each = λ p lt. becomes_like (marking m) (marking e) (IsOnEdge g (marking m)) p (cell_at g p) (cell_at h p) (get_or declared p None) (λ c. edges c p) (so.done p (omega (arith, lt, le)));
}

-- a marking of the same points seals the same
module _ (M N : Marking) (g : Board) (same : (c : Colour) (p : ℕ) → M c p ↔ N c p) where
  held_same : (c : Colour) (p : ℕ) → IsHeldBy g M c p → IsHeldBy g N c p
  held_same c p (inl m) = inl ((same c p).0 m)
  held_same c p (inr (s, f)) = inr (s, λ n. f ((same (other c) p).1 n))

  held_back : (c : Colour) (p : ℕ) → IsHeldBy g N c p → IsHeldBy g M c p
  held_back c p (inl n) = inl ((same c p).1 n)
  held_back c p (inr (s, f)) = inr (s, λ m. f ((same (other c) p).0 m))

  edge_same : (c : Colour) (p : ℕ) → IsOnEdge g M c p ↔ IsOnEdge g N c p
  edge_same c p = (
    λ (m, (q, on, next, out)). ((same c p).0 m, (q, on, next, λ n. out (held_back c q n))),
    λ (n, (q, on, next, out)). ((same c p).1 n, (q, on, next, λ m. out (held_same c q m))),
  )

  dead_same : (c : Colour) (p : ℕ) → IsDead g M c p ↔ IsDead g N c p
  dead_same c p = (λ d. ((same c p).0 d.0, d.1), λ d. ((same c p).1 d.0, d.1))

  sealed_same : (h : Board) → IsSealed M g h → IsSealed N g h
  sealed_same h so = record {
    columns = so.columns;
    rows = so.rows;
    long = so.long;
    listed = so.listed;
    each = λ p lt. let b = so.each p lt in record {
      edge = λ c e. b.edge c ((edge_same c p).1 e);
      inner = λ c n f. b.inner c ((same c p).1 n) (λ e. f ((edge_same c p).0 e));
      rest = λ none. b.rest (λ c m. none c ((same c p).0 m));
    };
  }

  number_same : (P Q : ℕ → Type 0) (n : ℕ) → ((p : ℕ) → P p ↔ Q p) → IsNumberOf P n → IsNumberOf Q n
  number_same P Q n alike (marks, are, value) = (marks, λ p. (λ m. (alike p).0 ((are p).0 m), λ q. (are p).1 ((alike p).1 q)), value)

  gain_same : (c : Colour) (n : ℕ) → IsGain g M c n → IsGain g N c n
  gain_same c n so = record {
    stones = so.stones;
    taken = so.taken;
    edge = number_same (IsOnEdge g M c) (IsOnEdge g N c) so.stones (edge_same c) so.edge;
    dead = number_same (IsDead g M c) (IsDead g N c) so.taken (dead_same c) so.dead;
    value = so.value;
  }

pub edges_are : (g : Board) (M : Marking) (e : MarkedPoints) → Marks e.black (IsOnEdge g M Black) → Marks e.white (IsOnEdge g M White) → AreEdges g M e
edges_are g M e b w Black = b
edges_are g M e b w White = w

pub gain_is : (g : Board) (m e : MarkedPoints) (c : Colour) (dead : List Bool) (stones taken n : ℕ) → AreEdges g (marking m) e → Marks dead (IsDead g (marking m) c)
    → stones ≡ count_by (λ x. x) (marks_of e c) → taken ≡ count_by (λ x. x) dead → n ≡ stones + taken → IsGain g (marking m) c n
gain_is g m e c dead stones taken n edges are s t v = record {
  stones = stones;
  taken = taken;
  edge = (marks_of e c, edges c, s);
  dead = (dead, are, t);
  value = v;
}

pub seals : (M : Marking) (s : Replay) (h : Board) (black white b w : ℕ) → IsSealed M s.board h → IsGain s.board M Black black → IsGain s.board M White white
    → b ≡ s.black + black → w ≡ s.white + white → Seals M s (record s { board = h; black = b; white = w })
seals M s h black white b w sealed x y e f = record {
  board = h;
  black = black;
  white = white;
  sealed = sealed;
  black_gain = x;
  white_gain = y;
  value = ap₂ (λ m n. record s { board = h; black = m; white = n }) e f;
}

-- by the sets of points or by what the node's values mark
pub marked_within : (ps : List PropertyText) (g : Board) (m : MarkedPoints) → AreMarked ps g m → (c : Colour) (p : ℕ) → marking m c p → p < length g.cells
marked_within ps g m are c p k = ((are c p).0 k).0

pub seals_marked : (node : ℕ) (ps : List PropertyText) (s t : Replay) (m : MarkedPoints) → AreMarked ps s.board m → ¬ HasBadMark ps s.board
    → ((p : ℕ) → ¬ IsMarkedTwice (marking m) p) → Seals (marking m) s t → MarksTerritory node ps s (Ok t)
seals_marked node ps s t m are good once so = (
  good,
  λ p twice. once p ((are Black p).1 twice.0, (are White p).1 twice.1),
  record {
    board = so.board;
    black = so.black;
    white = so.white;
    sealed = sealed_same (marking m) (IsMarkedFor ps s.board) s.board are so.board so.sealed;
    black_gain = gain_same (marking m) (IsMarkedFor ps s.board) s.board are Black so.black so.black_gain;
    white_gain = gain_same (marking m) (IsMarkedFor ps s.board) s.board are White so.white so.white_gain;
    value = so.value;
  },
)

pub twice_marked : (node : ℕ) (ps : List PropertyText) (s : Replay) (m : MarkedPoints) (p : ℕ) → AreMarked ps s.board m → ¬ HasBadMark ps s.board
    → IsFirstTwice (marking m) p → MarksTerritory node ps s (Err (MarkedTwice p))
twice_marked node ps s m p are good first = inr (
  good,
  (
    p,
    record {
      twice = ((are Black p).0 first.twice.0, (are White p).0 first.twice.1);
      lowest = λ q lt twice. first.lowest q lt ((are Black q).1 twice.0, (are White q).1 twice.1);
    },
    refl,
  ),
)

pub bad_marked : (node : ℕ) (ps : List PropertyText) (s : Replay) → HasBadMark ps s.board → MarksTerritory node ps s (Err (BadPoint node))
bad_marked node ps s bad = inl (bad, refl)

-- the declared points of a sealed board are closed off
option_or_not : (x y : Option Colour) → Decided (x ≡ y)
option_or_not None None = inl refl
option_or_not None (Some c) = inr (λ e. cc)
option_or_not (Some c) None = inr (λ e. cc)
option_or_not (Some Black) (Some Black) = inl refl
option_or_not (Some Black) (Some White) = inr (λ e. cc)
option_or_not (Some White) (Some Black) = inr (λ e. cc)
option_or_not (Some White) (Some White) = inl refl

stable : (P : Type 0) → Decided P → ¬ ¬ P → P
stable P (inl p) never = p
stable P (inr f) never = absurd (never f)

below_or_not : (p n : ℕ) → Decided (p < n)
below_or_not p n = elim (cases_lt p n) [ inl lt ↦ inl lt | inr le ↦ inr (λ lt. omega (arith, lt, le)) ]

stone_or_not : (g : Board) (c : Colour) (p : ℕ) → Decided (HasStone g c p)
stone_or_not g c p = both (p < length g.cells) (cell_at g p ≡ stone c) (below_or_not p (length g.cells)) (same_or_not (cell_at g p) (stone c))

not_none : (c : Colour) (x : Option Colour) → x ≡ Some c → x ≡ None → ⊥
not_none c x a b = cc

one_some : (c d : Colour) (x : Option Colour) → x ≡ Some c → x ≡ Some d → d ≡ c
one_some c d x a b = cc

module _ (M : Marking) (g h : Board) (so : IsSealed M g h) (free : (c : Colour) (p : ℕ) → M c p → ¬ HasStone g c p) where
  -- where nothing that is marked for a colour holds of a point, the point isn't marked
  -- a declared point is marked for its colour and not on the edge
  declared_inner : (c : Colour) (p : ℕ) → p < length g.cells → declared_at h p ≡ Some c → ¬ ¬ (M c p × ¬ IsOnEdge g M c p)
  declared_inner c p lt is never =
      let b = so.each p lt in
      let off : (d : Colour) → ¬ IsOnEdge g M d p = λ d e. not_none c (declared_at h p) is (b.edge d e).1 in
      let none : (d : Colour) → ¬ M d p = λ d m. never (subst (λ x. M x p) (one_some c d (declared_at h p) is (b.inner d m (off d)).1) m, off c) in
      not_none c (declared_at h p) is (b.rest none).1

  -- a point that is the colour's before is declared for it or has its stone afterwards
  held_after : (c : Colour) (q : ℕ) → q < length g.cells → IsHeldBy g M c q → ¬ ¬ (IsDeclared h c q ⊎ HasStone h c q)
  held_after c q lt (inl m) never =
      let b = so.each q lt in
      let on : q < length h.cells = omega (arith, lt, so.long) in
      let off : ¬ IsOnEdge g M c q = λ e. never (inr (on, (b.edge c e).0)) in
      never (inl (on, (b.inner c m off).1))
  held_after c q lt (inr (stone', other')) never =
      let on : q < length h.cells = omega (arith, lt, so.long) in
      never (inr (on, ((so.each q lt).rest (none c stone' other')).0 ∙ stone'.1))
    where
      none : (c : Colour) → HasStone g c q → ¬ M (other c) q → (d : Colour) → ¬ M d q
      none Black s o Black m = free Black q m s
      none Black s o White m = o m
      none White s o Black m = o m
      none White s o White m = free White q m s

  pub sealed_closed : IsClosedOff h
  sealed_closed c p (on, is) = record {
    empty = (on, cell_stable (cell_at h p) cell.Empty (λ never. declared_inner c p on' is (λ (m, off). never ((so.each p on').inner c m off).0)));
    around = λ q lt next. stable (IsDeclared h c q ⊎ HasStone h c q) (either (IsDeclared h c q) (HasStone h c q) (declared_or_not h c q) (stone_or_not h c q)) (λ never.
        let lt' : q < length g.cells = omega (arith, lt, so.long) in
        declared_inner c p on' is (λ (m, off). off (m, (q, lt', subst (λ x. NextTo x p q) so.columns next, λ held. held_after c q lt' held never))));
  }
    where
      on' : p < length g.cells
      on' = omega (arith, on, so.long)

pub marked_closed : (ps : List PropertyText) (s t : Replay) (m : MarkedPoints) → AreMarked ps s.board m → Seals (marking m) s t → IsClosedOff t.board
marked_closed ps s t m are so = subst (λ x. IsClosedOff x.board) (sym so.value)
    (sealed_closed (marking m) s.board so.board so.sealed (λ c p k. ((are c p).0 k).2))

-- a node's marks come to one thing
no_item : (q : ℕ) → ¬ IsMarked [] q
no_item q m = cc

pub one_count : (xs ys : List Bool) → ((p : ℕ) → IsMarked xs p ↔ IsMarked ys p) → count_by (λ x. x) xs ≡ count_by (λ x. x) ys
one_count [] ys same = sym (no_mark ys (λ q m. no_item q ((same q).1 m)))
one_count (x ∷ xs) [] same = no_mark (x ∷ xs) (λ q m. no_item q ((same q).0 m))
one_count (x ∷ xs) (y ∷ ys) same =
    sum_by-cons (λ m. cond m 1 0) x xs ∙ ap₂ (λ b n. cond b 1 0 + n) (one_bool x y (same 0)) (one_count xs ys (λ p. same (suc p))) ∙ sym (sum_by-cons (λ m. cond m 1 0) y ys)
  where
    one_bool : (x y : Bool) → (x ≡ true) ↔ (y ≡ true) → x ≡ y
    one_bool true true e = refl
    one_bool true false e = sym (e.0 refl)
    one_bool false true e = e.1 refl
    one_bool false false e = refl

one_number : (P : ℕ → Type 0) (m n : ℕ) → IsNumberOf P m → IsNumberOf P n → m ≡ n
one_number P m n (xs, a, e) (ys, b, f) = e ∙ one_count xs ys (λ p. (λ h. (b p).1 ((a p).0 h), λ h. (a p).1 ((b p).0 h))) ∙ sym f

one_gain : (g : Board) (M : Marking) (c : Colour) (m n : ℕ) → IsGain g M c m → IsGain g M c n → m ≡ n
one_gain g M c m n a b =
    let s = one_number (IsOnEdge g M c) a.stones b.stones a.edge b.edge in
    let t = one_number (IsDead g M c) a.taken b.taken a.dead b.dead in
    omega (arith, a.value, b.value, s, t)

one_becoming : (M Edge : Marking) (p : ℕ) (was : Cell) (a b : Cell) (x y : Option Colour) → Becomes M Edge p was a x → Becomes M Edge p was b y → ¬ ¬ ((a ≡ b) × (x ≡ y))
one_becoming M Edge p was a b x y s t never =
    let off : (c : Colour) → ¬ Edge c p = λ c e. never ((s.edge c e).0 ∙ sym (t.edge c e).0, (s.edge c e).1 ∙ sym (t.edge c e).1) in
    let none : (c : Colour) → ¬ M c p = λ c m. never ((s.inner c m (off c)).0 ∙ sym (t.inner c m (off c)).0, (s.inner c m (off c)).1 ∙ sym (t.inner c m (off c)).1) in
    never ((s.rest none).0 ∙ sym (t.rest none).0, (s.rest none).1 ∙ sym (t.rest none).1)

one_sealed : (M : Marking) (g h k : Board) → IsSealed M g h → IsSealed M g k → h ≡ k
one_sealed M g h k a b =
    let columns : h.columns ≡ k.columns = a.columns ∙ sym b.columns in
    let rows : h.rows ≡ k.rows = a.rows ∙ sym b.rows in
    let cells : h.cells ≡ k.cells = ext_get_or cell.Empty h.cells k.cells (a.long ∙ sym b.long) (λ q lt. cell_stable (cell_at h q) (cell_at k q) (λ f.
    let on : q < length g.cells = omega (arith, lt, a.long) in
    one_becoming M (IsOnEdge g M) q (cell_at g q) (cell_at h q) (cell_at k q) (declared_at h q) (declared_at k q) (a.each q on) (b.each q on) (λ e. f e.0))) in
    let declared : h.declared ≡ k.declared = ext_get_or None h.declared k.declared (a.listed ∙ sym b.listed) (λ q lt. stable (declared_at h q ≡ declared_at k q) (option_or_not (declared_at h q) (declared_at k q)) (λ f.
    let on : q < length g.cells = omega (arith, lt, a.listed) in
    one_becoming M (IsOnEdge g M) q (cell_at g q) (cell_at h q) (cell_at k q) (declared_at h q) (declared_at k q) (a.each q on) (b.each q on) (λ e. f e.1))) in
    λ i. record { columns = columns i; rows = rows i; cells = cells i; declared = declared i }

one_sealing : (M : Marking) (s t u : Replay) → Seals M s t → Seals M s u → t ≡ u
one_sealing M s t u a b =
    let board : a.board ≡ b.board = one_sealed M s.board a.board b.board a.sealed b.sealed in
    let black : a.black ≡ b.black = one_gain s.board M Black a.black b.black a.black_gain b.black_gain in
    let white : a.white ≡ b.white = one_gain s.board M White a.white b.white a.white_gain b.white_gain in
    a.value ∙ (λ i. record s { board = board i; black = s.black + black i; white = s.white + white i }) ∙ sym b.value

one_twice : (M : Marking) (p q : ℕ) → IsFirstTwice M p → IsFirstTwice M q → p ≡ q
one_twice M p q a b = elim (cases_lt p q) [
  | inl l ↦ absurd (b.lowest p l a.twice)
  | inr l ↦ elim (cases_lt q p) [
    | inl k ↦ absurd (a.lowest q k b.twice)
    | inr k ↦ omega (arith, l, k)
  ]
]

pub territory_one : (node : ℕ) (ps : List PropertyText) (s : Replay) (r q : Result Replay SetupFault) → MarksTerritory node ps s r → MarksTerritory node ps s q → r ≡ q
territory_one node ps s (Ok t) (Ok u) a b = ap Ok (one_sealing (IsMarkedFor ps s.board) s t u a.2 b.2)
territory_one node ps s (Ok t) (Err f) a (inl bad) = absurd (a.0 bad.0)
territory_one node ps s (Ok t) (Err f) a (inr (good, (p, first, e))) = absurd (a.1 p first.twice)
territory_one node ps s (Err f) (Ok u) (inl bad) b = absurd (b.0 bad.0)
territory_one node ps s (Err f) (Ok u) (inr (good, (p, first, e))) b = absurd (b.1 p first.twice)
territory_one node ps s (Err e) (Err f) (inl a) (inl b) = ap Err (a.1 ∙ sym b.1)
territory_one node ps s (Err e) (Err f) (inl a) (inr b) = absurd (b.0 a.0)
territory_one node ps s (Err e) (Err f) (inr a) (inl b) = absurd (a.0 b.0)
territory_one node ps s (Err e) (Err f) (inr (good, (p, x, i))) (inr (good', (q, y, j))) = ap Err (i ∙ ap MarkedTwice (one_twice (IsMarkedFor ps s.board) p q x y) ∙ sym j)

-- the last node read, by the program's list of nodes
pub answers_like : (P Q : Part) (s t : Replay) (r : Result (Unit {0}) GoError) → ((m : Result Replay SetupFault) → P s m → Q s m) → AnswersPart P s t r → AnswersPart Q s t r
answers_like P Q s t (Ok u) to h = to (Ok t) h
answers_like P Q s t (Err (Fault f)) to h = to (Err f) h
answers_like P Q s t (Err (Memory e)) to h = tt

pub last_marks : (asked : Bool) (line : List Node) (s : Replay) (node : ℕ) (d : Node) (ps : List Property) → asked ≡ true → s.last ≡ Some node → node < length line
    → ps ≡ (get_or line node d).properties.items → (m : Result Replay SetupFault) → MarksTerritory node (map property_text ps) s m → TerritoryPart asked (map node_text line) s m
last_marks asked line s node d ps asks last lt same m h =
    subst (λ b. TerritoryPart b (map node_text line) s m) (sym asks)
    (subst (λ l. TerritoryOf (map node_text line) l s m) (sym last)
    (subst (λ x. MarksTerritory node x s m) (ap (map property_text) same ∙ sym (get_or-map node_text line node d [] lt)) h))

-- behind the territory the board has the size that it had, and a point that is marked twice is on it
pub record IsAsLarge (g h : Board) : Type 0 where
  pub columns : h.columns ≡ g.columns
  pub rows : h.rows ≡ g.rows
  pub long : length h.cells ≡ length g.cells

pub territory_size : (asked : Bool) (line : List (List PropertyText)) (s t : Replay) → TerritoryPart asked line s (Ok t) → IsAsLarge s.board t.board
territory_size asked line s t = by_asked asked
  where
    here : Path (Result Replay SetupFault) (Ok t) (Ok s) → IsAsLarge s.board t.board
    here e = let same : t ≡ s = cc in subst (λ x. IsAsLarge s.board x.board) (sym same) (record { columns = refl; rows = refl; long = refl })

    by_last : (last : Option ℕ) → TerritoryOf line last s (Ok t) → IsAsLarge s.board t.board
    by_last None e = here e
    by_last (Some node) (good, once, so) = subst (λ x. IsAsLarge s.board x.board) (sym so.value)
        (record { columns = so.sealed.columns; rows = so.sealed.rows; long = so.sealed.long })

    by_asked : (asked : Bool) → TerritoryPart asked line s (Ok t) → IsAsLarge s.board t.board
    by_asked false e = here e
    by_asked true h = by_last s.last h

pub twice_on_board : (asked : Bool) (line : List (List PropertyText)) (s : Replay) (p : ℕ) → TerritoryPart asked line s (Err (MarkedTwice p)) → p < length s.board.cells
twice_on_board asked line s p = by_asked asked
  where
    by_last : (last : Option ℕ) → TerritoryOf line last s (Err (MarkedTwice p)) → p < length s.board.cells
    by_last None e = cc
    by_last (Some node) (inl (bad, e)) = cc
    by_last (Some node) (inr (good, (q, first, e))) = let same : p ≡ q = cc in subst (λ x. x < length s.board.cells) (sym same) first.twice.0.0

    by_asked : (asked : Bool) → TerritoryPart asked line s (Err (MarkedTwice p)) → p < length s.board.cells
    by_asked false e = cc
    by_asked true h = by_last s.last h
