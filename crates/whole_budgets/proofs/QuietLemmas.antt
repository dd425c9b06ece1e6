-- Play without a capture by a player that returns: it doesn't come back to a board by a stone of that player's.
use Rattle.std.proofs.Common.{◌≡◌, ℕ, zero, suc, ◌<◌, ◌⊎◌, inl, inr, refl, sym, ap, ◌∙◌, subst, arith, List, [], ◌∷◌, ◌++◌, length, get_or, slice_index, Contains}
use Rattle.std.proofs.lemmas.List.{get_or-map, get_or_default, length-map}
use Rattle.std.proofs.lemmas.List.Elements.{Contains-get_or}
use Rattle.go_grid.specs.declared.grid.Cell.{Cell}
use Rattle.go_grid.specs.declared.grid.Cell.TheVariants as cell
use Rattle.go_grid.specs.declared.grid.Colour.{Colour}
use Rattle.go_grid.specs.declared.region.Touch.{Touch}
use Rattle.go_grid.specs.Board.{Board, cell_at}
use Rattle.go_grid.specs.Chain.{IsSettled}
use Rattle.go_grid.specs.Region.{Region}
use Rattle.go_grid.proofs.PlayLemmas.{long_after}
use Rattle.go_play.specs.Place.{IsPlaced}
use Rattle.local_play.specs.LocalPlay.{IsLocalMove}
use Rattle.local_graph.specs.declared.cycle.CycleMove.{CycleMove}
use Rattle.local_graph.specs.LocalGraph.{Plays, IsReachable}
use Rattle.local_graph.specs.Returns as local
use Rattle.local_graph.specs.Returns.{HasCapture}
use Rattle.local_graph.proofs.PlayLemmas.{plays_more, plays_both, one_after}
use Rattle.local_graph.proofs.ReturnLaws.{way_back_takes}
use Rattle.region_cut.specs.Cut.{AreRegionsOfPlay}
use Rattle.region_cut.specs.LocalBoard.{IsLocal}
use Rattle.region_cut.proofs.LocalBoardLemmas.{one_region, plays_locally}
use Rattle.whole_rules.specs.declared.states.Move.{Move}
use Rattle.whole_rules.specs.declared.states.Move.TheVariants.{Stone, Spend, Half}
use Rattle.whole_rules.specs.WholeGame.{Whole, IsMove}
use Rattle.whole_rules.proofs.WallLaws.{Keeps, keeps_move}
use Rattle.whole_budgets.specs.BudgetPlay.{position_on, IsReturningCapture}
use Rattle.whole_budgets.proofs.BudgetPlayLemmas.{inside_or_not}
use Rattle.whole_budgets.proofs.RegionLemmas.{position_is, held}

-- local moves none of which is a capture by the colour that returns
abbrev pub Quietly : List Touch → Colour → List Cell → List CycleMove → List Cell → Type 0
Quietly touch c from [] to = from ≡ to
Quietly touch c from (m ∷ ms) to = (next : List Cell) × IsLocalMove touch from m.colour m.place next × ¬ local.IsReturningCapture touch c from m next × Quietly touch c next ms to

quiet_plays : (touch : List Touch) (c : Colour) (from to : List Cell) (ms : List CycleMove) → Quietly touch c from ms to → Plays touch from ms to
quiet_plays touch c from to [] q = q
quiet_plays touch c from to (m ∷ ms) (next, move, not, rest) = (next, move, quiet_plays touch c next to ms rest)

-- such moves that lead on to where they may come from have no capture by the colour
no_capture : (touch : List Touch) (c : Colour) (start from to : List Cell) (ms : List CycleMove) → Quietly touch c from ms to
    → IsReachable touch to start → IsReachable touch start from → HasCapture touch c from ms → ⊥
no_capture touch c start from to [] q back there takes = takes
no_capture touch c start from to (m ∷ ms) (next, move, not, rest) back there (next', move', takes) =
    let same = one_after touch from next' next m.colour m.place move' move in
    elim takes [
      | inl (own, capture) ↦ not (
        own,
        subst (local.IsCapture from) same capture,
        (
          ms ++ (back.0 ++ there.0),
          plays_both touch next to from ms (back.0 ++ there.0) (quiet_plays touch c next to ms rest)
              (plays_both touch to start from back.0 there.0 back.1 there.1),
        ),
      )
      | inr later ↦ no_capture touch c start next to ms rest back (there.0 ++ m ∷ [], plays_more touch start from next there.0 m there.1 move)
          (subst (λ x. HasCapture touch c x ms) same later)
    ]

-- so they don't come back
no_way_back : (touch : List Touch) (c : Colour) (from to : List Cell) (ms : List CycleMove) → 0 < length ms → Quietly touch c from ms to → to ≡ from → ⊥
no_way_back touch c from to ms some q e =
    let loop : Quietly touch c from ms from = subst (Quietly touch c from ms) e q in
    no_capture touch c from from from ms loop ([], refl) ([], refl) (way_back_takes touch c from ms some (quiet_plays touch c from from ms loop))

module _ (g : Board) (settled : IsSettled g) (regions : List Region) (are : AreRegionsOfPlay g regions) (owner : Colour) where
  -- the move isn't a capture by the owner that returns, in any region
  abbrev pub IsQuiet : Whole → Move → Whole → Type 0
  IsQuiet s m t = s.side ≡ owner → (r : Region) → Contains regions r → ¬ IsReturningCapture r s m t

  -- so many such moves lead from the one state to the other
  abbrev pub PlaysQuietly : ℕ → Whole → Whole → Type 0
  PlaysQuietly zero s t = s ≡ t
  PlaysQuietly (suc n) s t = (u : Whole) × ((m : Move) × IsMove s m u × IsQuiet s m u × PlaysQuietly n u t)

  pub quiet_more : (n : ℕ) (s t u : Whole) (m : Move) → PlaysQuietly n s t → IsMove t m u → IsQuiet t m u → PlaysQuietly (suc n) s u
  quiet_more zero s t u m e move quiet = (u, (m, subst (λ z. IsMove z m u) (sym e) move, subst (λ z. IsQuiet z m u) (sym e) quiet, refl))
  quiet_more (suc n) s t u m (v, (k, first, still, rest)) move quiet = (v, (k, first, still, quiet_more n v t u m rest move quiet))

  pub quiet_keeps : (n : ℕ) (s t : Whole) → Keeps g s → PlaysQuietly n s t → Keeps g t
  quiet_keeps zero s t keeps e = subst (Keeps g) e keeps
  quiet_keeps (suc n) s t keeps (u, (m, move, still, rest)) = quiet_keeps n u t (keeps_move g settled s u m keeps move) rest

  module _ (r : Region) (in' : Contains regions r) where
    abbrev pos : Whole → List Cell
    pos s = position_on r s.board

    -- a local move of the region that isn't a capture by the owner that returns
    abbrev QuietStep : List Cell → List Cell → Type 0
    QuietStep from to = (k : CycleMove) × IsLocalMove r.touch from k.colour k.place to × ¬ local.IsReturningCapture r.touch owner from k to

    same_cells : (s : Whole) (h : Board) → ((i : ℕ) → i < length r.points → cell_at h (slice_index r.points i) ≡ cell_at s.board (slice_index r.points i))
        → pos s ≡ position_on r h
    same_cells s h same = sym (position_is r h (pos s) (length-map r.points (λ p. cell_at s.board p))
        (λ i lt. same i lt ∙ sym (get_or-map (λ p. cell_at s.board p) r.points i 0 cell.Empty lt)))

    pub stone_inside : (s t : Whole) (i : ℕ) → Keeps g s → i < length r.points → IsMove s (Stone (slice_index r.points i)) t
        → IsQuiet s (Stone (slice_index r.points i)) t → QuietStep (pos s) (pos t)
    stone_inside s t i keeps lt (inside, (h, (n, placed, taken, is))) quiet =
        let here = plays_locally g r settled (are.each r in') in
        let holds = held g r s keeps in
        let (next, move) = (here.legal (pos s) s.board s.side i holds lt).0 (h, placed) in
        let moved : IsLocal r s.board h (pos s) next = here.local (pos s) next s.board h s.side i holds lt placed move in
        let then : pos t ≡ next = ap (position_on r) (ap (λ z. z.board) is) ∙ position_is r h next (long_after move ∙ holds.long) moved.inside in (
          record { colour = s.side; place = i },
          subst (IsLocalMove r.touch (pos s) s.side i) (sym then) move,
          λ (own, takes, returns). quiet own r in' (Contains-get_or r.points i 0 lt, takes, returns),
        )

    stone_outside : (s t : Whole) (x : ℕ) → Keeps g s → ¬ Contains r.points x → IsMove s (Stone x) t → pos s ≡ pos t
    stone_outside s t x keeps out (inside, (h, (n, placed, taken, is))) =
        let (r', (l, ll, el), (i, lt, at)) = are.every x ((keeps.contested x).0 inside) in
        let in'' : Contains regions r' = (l, ll, el) in
        let here = plays_locally g r' settled (are.each r' in'') in
        let holds = held g r' s keeps in
        let point : slice_index r'.points i ≡ x = get_or_default r'.points i 0 x lt ∙ at in
        let placed' = subst (λ z. IsPlaced s.board z s.side h) (sym point) placed in
        let (next, move) = (here.legal (position_on r' s.board) s.board s.side i holds lt).0 (h, placed') in
        let moved : IsLocal r' s.board h (position_on r' s.board) next = here.local (position_on r' s.board) next s.board h s.side i holds lt placed' move in
        let apart : (y : ℕ) → Contains r.points y → ¬ Contains r'.points y = λ y mine theirs.
        let first : get_or regions in'.0 r ≡ r = in'.2 in
        let second : get_or regions l r ≡ r' = get_or_default regions l r r' ll ∙ el in
        let one = one_region g regions are in'.0 l y r in'.1 ll (subst (λ z. Contains z.points y) (sym first) mine)
        (subst (λ z. Contains z.points y) (sym second) theirs) in
        out (subst (λ z. Contains z.points x) (sym second ∙ ap (λ k. get_or regions k r) (sym one) ∙ first) (i, lt, at)) in
        same_cells s h (λ k lk. moved.outside (slice_index r.points k) (apart (slice_index r.points k) (Contains-get_or r.points k 0 lk)))
        ∙ sym (ap (position_on r) (ap (λ z. z.board) is))

    step_in : (s t : Whole) (m : Move) → Keeps g s → IsMove s m t → IsQuiet s m t → (pos s ≡ pos t) ⊎ QuietStep (pos s) (pos t)
    step_in s t Spend keeps move quiet = inl (sym (ap (λ z. position_on r z.board) move.1))
    step_in s t Half keeps move quiet = inl (sym (ap (λ z. position_on r z.board) move.1))
    step_in s t (Stone x) keeps move quiet = elim (inside_or_not r x) [
      | inl (i, lt, at) ↦
          let point : slice_index r.points i ≡ x = get_or_default r.points i 0 x lt ∙ at in
          inr (stone_inside s t i keeps lt (subst (λ z. IsMove s (Stone z) t) (sym point) move) (subst (λ z. IsQuiet s (Stone z) t) (sym point) quiet))
      | inr out ↦ inl (stone_outside s t x keeps out move)
    ]

    -- play that ends with a local move is local moves
    follows : (n : ℕ) (s t u : Whole) → Keeps g s → PlaysQuietly n s t → QuietStep (pos t) (pos u)
        → (ms : List CycleMove) × (0 < length ms) × Quietly r.touch owner (pos s) ms (pos u)
    follows zero s t u keeps e (k, move, not) =
        subst (λ z. (ms : List CycleMove) × (0 < length ms) × Quietly r.touch owner (pos z) ms (pos u)) (sym e) (k ∷ [], omega arith, (pos u, move, not, refl))
    follows (suc n) s t u keeps (v, (m, move, still, rest)) last =
        let (ms, some, q) = follows n v t u (keeps_move g settled s v m keeps move) rest last in
        elim (step_in s v m keeps move still) [
          | inl same ↦ (ms, some, subst (λ z. Quietly r.touch owner z ms (pos u)) (sym same) q)
          | inr (k, there, not) ↦ (k ∷ ms, omega arith, (pos v, there, not, q))
        ]

  -- such play doesn't come back to a board by a stone
  pub no_return : (n : ℕ) (s t u : Whole) (x : ℕ) → Keeps g s → PlaysQuietly n s t → IsMove t (Stone x) u → IsQuiet t (Stone x) u → s.board ≡ u.board → ⊥
  no_return n s t u x keeps path move quiet same =
      let keeps' = quiet_keeps n s t keeps path in
      let (r, in', (i, lt, at)) = are.every x ((keeps'.contested x).0 move.0) in
      let point : slice_index r.points i ≡ x = get_or_default r.points i 0 x lt ∙ at in
      let last = stone_inside r in' t u i keeps' lt (subst (λ z. IsMove t (Stone z) u) (sym point) move) (subst (λ z. IsQuiet t (Stone z) u) (sym point) quiet) in
      let (ms, some, q) = follows r in' n s t u keeps path last in
      no_way_back r.touch owner (position_on r s.board) (position_on r u.board) ms some q (ap (position_on r) (sym same))
