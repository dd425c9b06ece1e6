-- Trees of local positions: their options, the depth they need, and the games over listed moves whose trees they are.
use Rattle.std.proofs.Common.{ℕ, zero, suc, ◌≡◌, ◌↔◌, ◌≤◌, arith, inl, inr, refl, sym, ap, ap₂, ◌∙◌, List, [], ◌∷◌, subst, ◌^◌, ◌++◌, length, length-append, Contains}
use Rattle.go_grid.specs.declared.grid.Colour.{Colour}
use Rattle.go_grid.specs.declared.grid.Colour.TheVariants.{Black, White}
use Rattle.short_games.specs.Tree.{Tree, node, none, more, Has, left, right}
use Rattle.short_games.specs.Sum.{◌+ᵍ◌}
use Rattle.local_trees.specs.Ending.{EndsWithin}
use Rattle.game_players.specs.Players.{options, gain}
use Rattle.local_trees.specs.LocalGame.{Step, after, tree_within, StepsTo}
use Rattle.short_games.specs.Order.{◌≡ᵍ◌}
use Rattle.short_games.proofs.FormLaws.{by_better}
use Rattle.local_trees.specs.PositionTree.{IsTree, PlaysAreShort, IsPlay, IsStep, IsTreeOf}
use Rattle.short_games.proofs.OrderLaws.{same-path, same-sym, same-trans}
use Rattle.short_games.proofs.SumLaws.{same-plus}
use Rattle.local_trees.proofs.MoveLaws.{contains-cases, contains-head, contains-tail, steps, step_in, step_out, edge_of, move_of, next_place, steps-out, steps-in}
use Rattle.go_grid.specs.declared.grid.Cell.{Cell}
use Rattle.go_grid.specs.declared.region.Touch.{Touch}
use Rattle.local_graph.specs.declared.cycle.CycleMove.{CycleMove}
use Rattle.local_graph.specs.LocalGraph.{Plays, IsReachable}
use Rattle.local_graph.specs.FiniteLocalPlay.{HasNoCycle}
use Rattle.local_graph.proofs.FiniteLemmas.{plays_short}
use Rattle.local_graph.proofs.PlayLemmas.{plays_both, plays_long}
use Rattle.local_trees.specs.Laws.{MovesTo, TreesExist}
use Rattle.go_grid.proofs.PlayLemmas.{long_after}
use Rattle.go_grid.specs.Region.{Region}
use Rattle.local_play.specs.LocalPlay.{IsLocalMove}
use Rattle.local_graph.specs.Graph.{Graph}
use Rattle.local_graph.specs.inner.Graph.{edges_at}
use Rattle.local_trees.proofs.GraphMoves.{step_of, steps_of}
use Rattle.local_trees.specs.GraphPlaces.{IsGraphOf, IsPlaceOf}

-- The tree of a local position doesn't depend on the depth once that is long enough, and its options are the local moves.

module _ (P : Type 0) (moves : Colour → P → List (Step P)) where
  pub after-same : (f g : P → Tree) (c : Colour) (xs : List (Step P)) → ((x : Step P) → Contains xs x → f x.to ≡ g x.to) → after P moves f c xs ≡ after P moves g c xs
  after-same f g c [] h = refl
  after-same f g c (x ∷ xs) h = ap₂ more (ap (λ t. t +ᵍ gain c x.taken) (h x (contains-head (Step P) x xs))) (after-same f g c xs (λ y k. h y (contains-tail (Step P) x y xs k)))

  pub after-has : (f : P → Tree) (c : Colour) (xs : List (Step P)) (X : Tree) → Has (after P moves f c xs) X → (x : Step P) × Contains xs x × (X ≡ f x.to +ᵍ gain c x.taken)
  after-has f c [] X h = elim h [ ]
  after-has f c (x ∷ xs) X (inl e) = (x, contains-head (Step P) x xs, e)
  after-has f c (x ∷ xs) X (inr h) = let r = after-has f c xs X h in (r.0, contains-tail (Step P) x r.0 xs r.1, r.2)

  pub has-after : (f : P → Tree) (c : Colour) (xs : List (Step P)) (x : Step P) → Contains xs x → Has (after P moves f c xs) (f x.to +ᵍ gain c x.taken)
  has-after f c [] x h = absurd (omega (arith, h.1))
  has-after f c (y ∷ xs) x h = elim (contains-cases (Step P) y x xs h) [
    | inl e ↦ inl (ap (λ z. f z.to +ᵍ gain c z.taken) (sym e))
    | inr k ↦ inr (has-after f c xs x k)
  ]

  -- no play from the position, of either player in any order, has more than n moves
  abbrev pub Ends : ℕ → P → Type 0
  Ends n p = EndsWithin P (StepsTo P moves) n p

  pub no_moves : (c : Colour) (p : P) (f : P → Tree) → Ends 0 p → after P moves f c (moves c p) ≡ none
  no_moves c p f e = empty (moves c p) (λ x h. e x.to (c, (x, h, refl)))
    where
      empty : (xs : List (Step P)) → ((x : Step P) → Contains xs x → ⊥) → after P moves f c xs ≡ none
      empty [] h = refl
      empty (x ∷ xs) h = absurd (h x (contains-head (Step P) x xs))

  pub tree-more : (n m : ℕ) (p : P) → n ≤ m → Ends n p → tree_within P moves m p ≡ tree_within P moves n p
  unfolding tree_within
  tree-more zero zero p a e = refl
  tree-more zero (suc m) p a e = ap₂ node (no_moves Black p _ e) (no_moves White p _ e)
  tree-more (suc n) zero p a e = absurd (omega (arith, a))
  tree-more (suc n) (suc m) p a e = ap₂ node
      (after-same _ _ Black (moves Black p) (λ x h. tree-more n m x.to (omega (arith, a)) (e x.to (Black, (x, h, refl)))))
      (after-same _ _ White (moves White p) (λ x h. tree-more n m x.to (omega (arith, a)) (e x.to (White, (x, h, refl)))))

  pub options-step : (c : Colour) (n : ℕ) (p : P) → options c (tree_within P moves (suc n) p) ≡ after P moves (λ q. tree_within P moves n q) c (moves c p)
  unfolding tree_within
  options-step Black n p = refl
  options-step White n p = refl

  -- the options of a long enough tree are those of the local moves, at the same depth
  pub options-is : (c : Colour) (n : ℕ) (p : P) → Ends n p → options c (tree_within P moves n p) ≡ after P moves (λ q. tree_within P moves n q) c (moves c p)
  unfolding tree_within
  options-is Black zero p e = sym (no_moves Black p _ e)
  options-is White zero p e = sym (no_moves White p _ e)
  options-is c (suc n) p e = options-step c n p ∙ after-same _ _ c (moves c p) (λ x h. sym (tree-more n (suc n) x.to (omega arith) (e x.to (c, (x, h, refl)))))

  pub move-option : (c : Colour) (n : ℕ) (p : P) (x : Step P) → Ends n p → Contains (moves c p) x → Has (options c (tree_within P moves n p)) (tree_within P moves n x.to +ᵍ gain c x.taken)
  move-option c n p x e h = rw (options-is c n p e) (has-after (λ q. tree_within P moves n q) c (moves c p) x h)

  pub option-move : (c : Colour) (n : ℕ) (p : P) (X : Tree) → Ends n p → Has (options c (tree_within P moves n p)) X → (x : Step P) × Contains (moves c p) x × (X ≡ tree_within P moves n x.to +ᵍ gain c x.taken)
  option-move c n p X e h = after-has (λ q. tree_within P moves n q) c (moves c p) X (rw (options-is c n p e) at h)

-- Trees of one position are equal as games, and short plays end.

-- games whose options are equal are equal
pub same_options : (G H : Tree) → ((c : Colour) (X : Tree) → Has (options c G) X → (Y : Tree) × Has (options c H) Y × (X ≡ᵍ Y)) → ((c : Colour) (Y : Tree) → Has (options c H) Y → (X : Tree) × Has (options c G) X × (X ≡ᵍ Y)) → G ≡ᵍ H
same_options G H there back = (
  by_better G H (λ L l. (let r = there Black L l in (r.0, r.1, r.2.0))) (λ S s. (let r = back White S s in (r.0, r.1, r.2.0))),
  by_better H G (λ L l. (let r = back Black L l in (r.0, r.1, r.2.1))) (λ S s. (let r = there White S s in (r.0, r.1, r.2.1))),
)

-- Trees of two positions are equal where the moves of each have moves of the other that take as many stones, with equal trees after them.
module _ (P Q : Type 0) (IsMove : Colour → P → Step P → Type 0) (IsMatch : Colour → Q → Step Q → Type 0) where
  -- the moves take as many stones, and the trees after them are equal
  abbrev pub AreAlike : ℕ → ℕ → Step P → Step Q → Type 0
  AreAlike n m x y = (x.taken ≡ y.taken) × ((X Y : Tree) → IsTree P IsMove n x.to X → IsTree Q IsMatch m y.to Y → X ≡ᵍ Y)

  more-alike : (c : Colour) (n k : ℕ) (X Y : Tree) → n ≡ k → X ≡ᵍ Y → (X +ᵍ gain c n) ≡ᵍ (Y +ᵍ gain c k)
  more-alike c n k X Y e s = same-plus _ _ _ _ s (same-path _ _ (ap (gain c) e))

  pub trees-match : (n m : ℕ) (p : P) (q : Q) (G H : Tree) → IsTree P IsMove (suc n) p G → IsTree Q IsMatch (suc m) q H
      → ((c : Colour) (x : Step P) → IsMove c p x → (y : Step Q) × IsMatch c q y × AreAlike n m x y)
      → ((c : Colour) (y : Step Q) → IsMatch c q y → (x : Step P) × IsMove c p x × AreAlike n m x y) → G ≡ᵍ H
  trees-match n m p q G H g h there back = same_options G H
      (λ c X i.
      let (x, (A, move, a, is)) = (g c).0 X i in
      let (y, move', (taken, same)) = there c x move in
      let (B, b, has) = (h c).1 y move' in
      (B +ᵍ gain c y.taken, has, same-trans _ _ _ (same-path _ _ is) (more-alike c x.taken y.taken A B taken (same A B a b))))
      (λ c Y i.
      let (y, (B, move, b, is)) = (h c).0 Y i in
      let (x, move', (taken, same)) = back c y move in
      let (A, a, has) = (g c).1 x move' in
      (A +ᵍ gain c x.taken, has, same-trans _ _ _ (more-alike c x.taken y.taken A B taken (same A B a b)) (same-sym _ _ (same-path _ _ is))))

module _ (P : Type 0) (IsMove : Colour → P → Step P → Type 0) where
  -- trees of a position are equal where the trees after each move are
  trees-alike : (n m : ℕ) (p : P) (G H : Tree) → IsTree P IsMove (suc n) p G → IsTree P IsMove (suc m) p H
      → ((c : Colour) (x : Step P) → IsMove c p x → (X Y : Tree) → IsTree P IsMove n x.to X → IsTree P IsMove m x.to Y → X ≡ᵍ Y) → G ≡ᵍ H
  trees-alike n m p G H g h later =
      trees-match P P IsMove IsMove n m p p G H g h (λ c x k. (x, k, (refl, later c x k))) (λ c x k. (x, k, (refl, later c x k)))

  pub trees-same : (n : ℕ) (p : P) (G H : Tree) → IsTree P IsMove n p G → IsTree P IsMove n p H → G ≡ᵍ H
  trees-same zero p G H g h = same-trans _ _ _ (same-path _ _ g) (same-sym _ _ (same-path _ _ h))
  trees-same (suc n) p G H g h = trees-alike n n p G H g h (λ c x _ X Y. trees-same n x.to X Y)

pub short-ends : (P : Type 0) (StepsTo : P → P → Type 0) (n : ℕ) (p : P) → PlaysAreShort P StepsTo n p → EndsWithin P StepsTo n p
short-ends P StepsTo zero p short = λ q h. absurd (omega (arith, short (q ∷ []) (h, tt)))
short-ends P StepsTo (suc n) p short = λ q h. short-ends P StepsTo n q (λ qs w. omega (arith, short (q ∷ qs) (h, w)))

-- A depth that no play is longer than is as good as a greater one, where local moves are a relation.

module _ (P : Type 0) (IsMove : Colour → P → Step P → Type 0) where
  abbrev pub Moves : P → P → Type 0
  Moves p q = (c : Colour) × ((n : ℕ) × IsMove c p (record { to = q; taken = n }))

  -- a play after a move is shorter by one
  pub step-short : (n : ℕ) (p : P) (c : Colour) (x : Step P) → IsMove c p x → PlaysAreShort P Moves (suc n) p → PlaysAreShort P Moves n x.to
  step-short n p c x m short qs w = omega (arith, short (x.to ∷ qs) ((c, (x.taken, m)), w))

  pub no-move : (p : P) (c : Colour) (x : Step P) → IsMove c p x → PlaysAreShort P Moves 0 p → ⊥
  no-move p c x m short = omega (arith, short (x.to ∷ []) ((c, (x.taken, m)), tt))

  -- a tree of a position without moves has no option
  no-option : (n : ℕ) (p : P) (G : Tree) → PlaysAreShort P Moves 0 p → IsTree P IsMove n p G → (c : Colour) (X : Tree) → Has (options c G) X → ⊥
  no-option zero p G short g Black X h = elim (subst (λ T. Has (left T) X) g h) [ ]
  no-option zero p G short g White X h = elim (subst (λ T. Has (right T) X) g h) [ ]
  no-option (suc n) p G short g c X h = let r = (g c).0 X h in no-move p c r.0 r.1.1 short

  pub depths-agree : (n m : ℕ) (p : P) (G H : Tree) → PlaysAreShort P Moves n p → PlaysAreShort P Moves m p
      → IsTree P IsMove n p G → IsTree P IsMove m p H → G ≡ᵍ H
  depths-agree zero m p G H s t g h = same_options G H (λ c X x. absurd (no-option 0 p G s g c X x)) (λ c Y y. absurd (no-option m p H s h c Y y))
  depths-agree (suc n) zero p G H s t g h = same_options G H (λ c X x. absurd (no-option (suc n) p G t g c X x)) (λ c Y y. absurd (no-option 0 p H t h c Y y))
  depths-agree (suc n) (suc m) p G H s t g h =
      trees-alike P IsMove n m p G H g h (λ c x k X Y. depths-agree n m x.to X Y (step-short n p c x k s) (step-short m p c x k t))

-- Without a cycle no play from a reachable position has more than 3 to the number of places moves.

-- a play of positions as a list of moves
moves_of : (touch : List Touch) (p : List Cell) (qs : List (List Cell)) → IsPlay (List Cell) (MovesTo touch) p qs
    → (ms : List CycleMove) × (end : List Cell) × Plays touch p ms end × (length ms ≡ length qs)
moves_of touch p [] w = ([], p, refl, refl)
moves_of touch p (q ∷ qs) (m, w) =
    let rest = moves_of touch q qs w in
    (record { colour = m.0; place = m.1.1.0 } ∷ rest.0, rest.1, (q, m.1.1.1, rest.2), ap suc rest.3)

pub short_plays : (touch : List Touch) (opening : List Cell) → HasNoCycle touch opening → (cells : List Cell) → IsReachable touch opening cells
    → PlaysAreShort (List Cell) (MovesTo touch) (3 ^ length opening) cells
short_plays touch opening acyclic cells reach qs w =
    let (ms, end, plays, long) = moves_of touch cells qs w in
    let less = plays_short touch opening acyclic (reach.0 ++ ms) end (plays_both touch opening cells end reach.0 ms reach.1 plays) in
    omega (arith, less, long, length-append reach.0 ms)

-- a position has a tree of each depth where the moves of all can be listed
module _ (P : Type 0) (IsMove : Colour → P → Step P → Type 0) (moves : Colour → P → List (Step P))
    (listed : (c : Colour) (p : P) (x : Step P) → Contains (moves c p) x ↔ IsMove c p x) where
  pub listed_tree : (n : ℕ) (p : P) → IsTree P IsMove n p (tree_within P moves n p)
  unfolding tree_within
  listed_tree zero p = refl
  listed_tree (suc n) p = λ c. (
    λ X h.
        (let (x, among, is) = after-has P moves (λ q. tree_within P moves n q) c (moves c p) X (rw (options-step P moves c n p) at h) in
        (x, (tree_within P moves n x.to, (listed c p x).0 among, listed_tree n x.to, is))),
    λ x m. (
      tree_within P moves n x.to,
      listed_tree n x.to,
      rw (options-step P moves c n p) (has-after P moves (λ q. tree_within P moves n q) c (moves c p) x ((listed c p x).1 m)),
    ),
  )

-- A game each of whose positions stands for one of another: its listed moves are that one's moves, both ways.
module _ (P Q : Type 0) (IsMove : Colour → Q → Step Q → Type 0) (moves : Colour → P → List (Step P)) (Stands : P → Q → Type 0)
    (out : (p : P) (cells : Q) (c : Colour) (x : Step P) → Stands p cells → Contains (moves c p) x
    → (y : Step Q) × IsMove c cells y × (y.taken ≡ x.taken) × Stands x.to y.to)
    (back : (p : P) (cells : Q) (c : Colour) (y : Step Q) → Stands p cells → IsMove c cells y
    → (x : Step P) × Contains (moves c p) x × (x.taken ≡ y.taken) × Stands x.to y.to) where
  abbrev tree : ℕ → P → Tree
  tree n p = tree_within P moves n p

  -- the tree over its moves is a tree of the position that it stands for
  pub stands_tree : (n : ℕ) (p : P) (cells : Q) → Stands p cells → IsTree Q IsMove n cells (tree_within P moves n p)
  unfolding tree_within
  stands_tree zero p cells s = refl
  stands_tree (suc n) p cells s = λ c. (
    λ X h.
        (let x = after-has P moves (tree n) c (moves c p) X (rw (options-step P moves c n p) at h) in
        let y = out p cells c x.0 s x.1 in
        (y.0, (tree n x.0.to, y.1, stands_tree n x.0.to y.0.to y.3, x.2 ∙ ap (λ k. tree n x.0.to +ᵍ gain c k) (sym y.2)))),
    λ y m.
        (let x = back p cells c y s m in (
          tree n x.0.to,
          stands_tree n x.0.to y.to x.3,
          rw (options-step P moves c n p)
              (subst (λ k. Has (after P moves (tree n) c (moves c p)) (tree n x.0.to +ᵍ gain c k)) x.2 (has-after P moves (tree n) c (moves c p) x.0 x.1)),
        )),
  )

  -- a play of the game is one of positions
  stands_play : (p : P) (cells : Q) (qs : List P) → Stands p cells → IsPlay P (StepsTo P moves) p qs
      → (cs : List Q) × IsPlay Q (Moves Q IsMove) cells cs × (length cs ≡ length qs)
  stands_play p cells [] s w = ([], w, refl)
  stands_play p cells (q ∷ qs) s ((c, (x, among, at)), w) =
      let y = out p cells c x s among in
      let rest = stands_play q y.0.to qs (subst (λ z. Stands z y.0.to) at y.3) w in
      (y.0.to ∷ rest.0, ((c, (y.0.taken, y.1)), rest.1), ap suc rest.2)

  pub stands_end : (n : ℕ) (p : P) (cells : Q) → Stands p cells → PlaysAreShort Q (Moves Q IsMove) n cells
      → EndsWithin P (StepsTo P moves) n p
  stands_end n p cells s short = short-ends P (StepsTo P moves) n p (λ qs w.
      let q = stands_play p cells qs s w in
      omega (arith, short q.0 q.1, q.2))

  -- a tree of a position is as good as that over its listed moves
  pub stands_same : (n m : ℕ) (p : P) (cells : Q) (G : Tree) → Stands p cells → PlaysAreShort Q (Moves Q IsMove) m cells
      → PlaysAreShort Q (Moves Q IsMove) n cells → IsTree Q IsMove m cells G → G ≡ᵍ tree_within P moves n p
  stands_same n m p cells G s short shorter of_position =
      depths-agree Q IsMove m n cells G (tree n p) short shorter of_position (stands_tree n p cells s)

-- Positions as the positions of a game: `to` makes one of a local position of at most so many places.
module _ (P : Type 0) (touch : List Touch) (most : ℕ) (to : List Cell → P) (moves : Colour → P → List (Step P))
    (are : (c : Colour) (cells : List Cell) → length cells ≤ most → moves c (to cells) ≡ steps touch cells c P to) where
  -- a step is a local move of the position
  pub step_from : (cells : List Cell) (c : Colour) (x : Step P) → length cells ≤ most → Contains (moves c (to cells)) x
      → (y : Step (List Cell)) × IsStep touch c cells y × (to y.to ≡ x.to) × (y.taken ≡ x.taken) × (length y.to ≤ most)
  step_from cells c x le among =
      let s = step_out touch cells c P to x (subst (λ xs. Contains xs x) (are c cells le) among) in
      (s.0, s.1, s.2, s.3, omega (arith, le, long_after s.1.1))

  pub from_step : (cells : List Cell) (c : Colour) (y : Step (List Cell)) → length cells ≤ most → IsStep touch c cells y
      → Contains (moves c (to cells)) (record { to = to y.to; taken = y.taken })
  from_step cells c y le step = subst (λ xs. Contains xs (record { to = to y.to; taken = y.taken })) (sym (are c cells le)) (step_in touch cells c P to y step)

  abbrev Stands : P → List Cell → Type 0
  Stands p cells = (to cells ≡ p) × (length cells ≤ most)

  cells_out : (p : P) (cells : List Cell) (c : Colour) (x : Step P) → Stands p cells → Contains (moves c p) x
      → (y : Step (List Cell)) × IsStep touch c cells y × (y.taken ≡ x.taken) × Stands x.to y.to
  cells_out p cells c x (e, le) among =
      let s = step_from cells c x le (subst (λ z. Contains (moves c z) x) (sym e) among) in
      (s.0, s.1, s.3, (s.2, s.4))

  cells_back : (p : P) (cells : List Cell) (c : Colour) (y : Step (List Cell)) → Stands p cells → IsStep touch c cells y
      → (x : Step P) × Contains (moves c p) x × (x.taken ≡ y.taken) × Stands x.to y.to
  cells_back p cells c y (e, le) step = (
    record { to = to y.to; taken = y.taken },
    subst (λ z. Contains (moves c z) (record { to = to y.to; taken = y.taken })) e (from_step cells c y le step),
    refl,
    (refl, omega (arith, le, long_after step.1)),
  )

  tree_is : (n : ℕ) (cells : List Cell) → length cells ≤ most → IsTreeOf touch n cells (tree_within P moves n (to cells))
  tree_is n cells le = stands_tree P (List Cell) (IsStep touch) moves Stands cells_out cells_back n (to cells) cells (refl, le)

  pub cells_end : (n : ℕ) (cells : List Cell) → length cells ≤ most → PlaysAreShort (List Cell) (MovesTo touch) n cells
      → EndsWithin P (StepsTo P moves) n (to cells)
  cells_end n cells le short = stands_end P (List Cell) (IsStep touch) moves Stands cells_out cells_back n (to cells) cells (refl, le) short

  pub tree_as : (n m : ℕ) (cells : List Cell) (G : Tree) → length cells ≤ most → PlaysAreShort (List Cell) (MovesTo touch) m cells
      → PlaysAreShort (List Cell) (MovesTo touch) n cells → IsTreeOf touch m cells G → G ≡ᵍ tree_within P moves n (to cells)
  tree_as n m cells G le short shorter of_position =
      stands_same P (List Cell) (IsStep touch) moves Stands cells_out cells_back n m (to cells) cells G (refl, le) short shorter of_position

pub trees-exist : TreesExist
trees-exist touch cells n =
    let moves : Colour → List Cell → List (Step (List Cell)) = λ c x. steps touch x c (List Cell) (λ y. y) in
    (tree_within (List Cell) moves n cells, tree_is (List Cell) touch (length cells) (λ y. y) moves (λ c x le. refl) n cells (omega arith))

-- The places of a graph as the positions of a game.
module _ (P : Type 0) (to : ℕ → P) (moves : Colour → P → List (Step P)) (r : Region) (g : Graph) (of : IsGraphOf r g)
    (are : (c : Colour) (i : ℕ) → moves c (to i) ≡ steps_of P to c (edges_at g.edges i)) where
  abbrev IsAtPlace : P → List Cell → Type 0
  IsAtPlace p cells = (i : ℕ) × (to i ≡ p) × IsPlaceOf r g i cells

  place_out : (p : P) (cells : List Cell) (c : Colour) (x : Step P) → IsAtPlace p cells → Contains (moves c p) x
      → (y : Step (List Cell)) × IsStep r.touch c cells y × (y.taken ≡ x.taken) × IsAtPlace x.to y.to
  place_out p cells c x (i, e, has) among =
      let s = steps-out P to c (edges_at g.edges i) x (subst (λ xs. Contains xs x) (ap (moves c) (sym e) ∙ are c i) among) in
      let m = move_of r g of i cells s.edge has s.among in (
        record { to = m.0; taken = s.edge.taken },
        (s.edge.place, subst (λ d. IsLocalMove r.touch cells d s.edge.place m.0) s.colour m.1, m.2.number),
        ap (λ y. y.taken) s.is,
        (s.edge.next, ap (λ y. y.to) s.is, next_place r g of i cells m.0 s.edge.colour s.edge.place s.edge.taken s.edge has m.1 m.2),
      )

  place_back : (p : P) (cells : List Cell) (c : Colour) (y : Step (List Cell)) → IsAtPlace p cells → IsStep r.touch c cells y
      → (x : Step P) × Contains (moves c p) x × (x.taken ≡ y.taken) × IsAtPlace x.to y.to
  place_back p cells c y (i, at, has) (k, move, number) =
      let e = edge_of r g of i cells y.to c k y.taken has move number in (
        step_of P to e.0,
        subst (λ xs. Contains xs (step_of P to e.0)) (sym (are c i) ∙ ap (moves c) at) (steps-in P to c (edges_at g.edges i) e.0 e.1 e.2.colour),
        e.2.taken,
        (e.0.next, refl, next_place r g of i cells y.to c k y.taken e.0 has move e.2),
      )

  -- the tree over the graph is a tree of the position
  pub place_tree : (n i : ℕ) (cells : List Cell) → IsPlaceOf r g i cells → IsTreeOf r.touch n cells (tree_within P moves n (to i))
  place_tree n i cells has = stands_tree P (List Cell) (IsStep r.touch) moves IsAtPlace place_out place_back n (to i) cells (i, refl, has)

  pub place_ends : (n i : ℕ) (cells : List Cell) → IsPlaceOf r g i cells → 3 ^ length r.cells ≤ n → EndsWithin P (StepsTo P moves) n (to i)
  place_ends n i cells has le = stands_end P (List Cell) (IsStep r.touch) moves IsAtPlace place_out place_back n (to i) cells (i, refl, has)
      (λ qs w. let most = short_plays r.touch r.cells of.no_cycle cells has.reachable qs w in omega (arith, most, le))

  -- a tree of a position is as good as that of its place, cut off at any depth that is long enough
  pub tree_same : (n : ℕ) → 3 ^ length r.cells ≤ n → (i : ℕ) (cells : List Cell) (G : Tree) → IsPlaceOf r g i cells → IsTreeOf r.touch (3 ^ length cells) cells G
      → G ≡ᵍ tree_within P moves n (to i)
  tree_same n deep i cells G has of_position =
      let long : length cells ≡ length r.cells = plays_long r.touch r.cells cells has.reachable.0 has.reachable.1 in
      let short = short_plays r.touch r.cells of.no_cycle cells has.reachable in
      let short' : PlaysAreShort (List Cell) (MovesTo r.touch) (3 ^ length cells) cells = λ qs w. omega (arith, short qs w, ap (λ m. 3 ^ m) long) in
      let shorter : PlaysAreShort (List Cell) (MovesTo r.touch) n cells = λ qs w. omega (arith, short qs w, deep) in
      stands_same P (List Cell) (IsStep r.touch) moves IsAtPlace place_out place_back n (3 ^ length cells) (to i) cells G (i, refl, has) short' shorter of_position
