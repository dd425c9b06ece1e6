-- The whole game over its regions of play: its moves are the local moves of the regions and those on purses and token, and who
-- loses is the sign of a sum.
use Rattle.std.proofs.Common.{ℕ, zero, suc, ◌≡◌, ◌⊎◌, ◌↔◌, ◌+◌, ◌^◌, ◌<◌, ◌≤◌, arith, inl, inr, refl, sym, ap, ◌∙◌, subst, List, [], ◌∷◌, ◌++◌, length, get_or, Contains, length-set, ℤ, Bool, ◌+ℤ◌}
use Rattle.std.proofs.lemmas.Bool.{cases_eq, cases_lt}
use Rattle.std.proofs.lemmas.List.{ext_get_or, get_or_default}
use Rattle.std.proofs.lemmas.List.Elements.{Contains-get_or}
use Rattle.std.proofs.Math.Nat.{pow-le-pow_right}
use Rattle.go_grid.specs.declared.grid.Cell.{Cell}
use Rattle.go_grid.specs.declared.grid.Cell.TheVariants.{Empty}
use Rattle.go_grid.specs.declared.grid.Colour.{Colour}
use Rattle.go_grid.specs.declared.grid.Colour.TheVariants.{Black, White}
use Rattle.go_grid.specs.Chain.{IsSettled}
use Rattle.go_grid.specs.Board.{Board, other, stone}
use Rattle.go_grid.specs.Region.{Region}
use Rattle.go_grid.proofs.PlayLemmas.{long_after}
use Rattle.go_play.specs.Place.{IsPlaced, IsNumberTaken}
use Rattle.benson_life.specs.Walls.{WallsStand}
use Rattle.benson_life.proofs.HeldLemmas.{short}
use Rattle.whole_rules.specs.declared.money.Purses.{Purses}
use Rattle.whole_rules.specs.declared.states.Move.{Move}
use Rattle.whole_rules.specs.declared.states.Move.TheVariants.{Stone, Spend, Half}
use Rattle.whole_rules.specs.Purses.{paid_in, paid_out, halved}
use Rattle.whole_rules.specs.Opening.{IsOpening}
use Rattle.whole_rules.specs.PlainRecursion.{MoverWins, MoverLoses}
use Rattle.whole_rules.specs.Walls.{Plays}
use Rattle.whole_rules.specs.WholeGame.{Whole}
use Rattle.whole_rules.specs.WholeGame as whole
use Rattle.whole_rules.proofs.WallLaws.{Keeps, keeps_move, keeps_start}
use Rattle.short_games.specs.Tree.{Tree, Trees, Has, node, none, more, tree_at}
use Rattle.short_games.specs.Order.{◌≡ᵍ◌}
use Rattle.short_games.specs.Number.{IsNumber, num}
use Rattle.short_games.specs.Sum.{◌+ᵍ◌, total}
use Rattle.short_games.proofs.NumberLaws.{num-double, num-plus_le, num-le_plus}
use Rattle.short_games.proofs.OrderLaws.{le-trans, same-path, same-refl, same-sym, same-trans}
use Rattle.short_games.proofs.SumLaws.{nought, nought-plus, plus-assoc, same-plus}
use Rattle.game_store.specs.Meaning.{pick}
use Rattle.game_players.specs.Players.{credit, gain, options, LosesGame}
use Rattle.game_players.proofs.PlayerLaws.{loses-same}
use Rattle.local_play.specs.LocalPlay.{IsLocalMove}
use Rattle.local_graph.specs.declared.cycle.CycleMove.{CycleMove}
use Rattle.local_graph.specs.FiniteLocalPlay.{HasNoCycle}
use Rattle.local_graph.specs.LocalGraph.{IsReachable}
use Rattle.local_graph.proofs.PlayLemmas.{plays_long, plays_more}
use Rattle.local_trees.specs.Ending.{EndsWithin}
use Rattle.local_trees.specs.Laws.{MovesTo}
use Rattle.local_trees.specs.LocalGame.{Step, StepsTo, tree_within}
use Rattle.local_trees.specs.PositionTree.{IsTreeOf, IsValueOf, PlaysAreShort}
use Rattle.local_trees.proofs.TreeLaws.{cells_end, from_step, step_from, tree_as, trees-exist, short_plays}
use Rattle.local_trees.proofs.MoveLaws.{steps}
use Rattle.region_cut.specs.Cut.{AreRegionsOfPlay}
use Rattle.region_cut.specs.LocalBoard.{HoldsPosition, IsLocal}
use Rattle.region_cut.proofs.LocalBoardLemmas.{holds_start, only_region, other_kept, holds_after, placing_is_local, plays_locally, point_contested}
use Rattle.endgame_solver.specs.Decomposition.{AreTreesOn, money_tree, WholeDecomposes}
use Rattle.endgame_solver.specs.Regions.{no_region, region_at}
use Rattle.endgame_solver.specs.Solved.{HoldsCells}
use Rattle.endgame_solver.specs.SumGame.{State, Leads, StepIn, AllEnd, balance, parts_tree, purses_tree, state_tree, token_tree}
use Rattle.endgame_solver.specs.inner.Regions.{IsPointOf}
use Rattle.endgame_solver.specs.inner.WholeParts.{OthersStay, IsPlayedIn, IsPlayableIn, IsLocalPlay, AllShown, IsSeenAs}
use Rattle.std.proofs.lemmas.Int.{ints}
use Rattle.endgame_solver.specs.PlayLine.{IsHot}
use Rattle.endgame_solver.proofs.AvoidanceLaws.{Hot, HotIn, HotStep, avoid}
use Rattle.endgame_solver.proofs.ThresholdLaws.{balance_paid}
use Rattle.endgame_solver.proofs.PartsLaws.{Matches, decomposes, loses-forth, purses-balance, wins-forth}

-- The moves of a whole state are the local moves of its parts and the moves on purses and token.
module _ (P : Type 0) (moves : Colour → P → List (Step P)) (InPart : ℕ → ℕ → Type 0) (Shown : Board → ℕ → P → Type 0) where
  abbrev Stay : ℕ → Board → Board → Type 0
  Stay j h k = OthersStay P moves InPart Shown j h k

  abbrev Showing : Board → ℕ → List P → Type 0
  Showing h i qs = AllShown P moves InPart Shown h i qs

  -- parts past the one that is played in stay
  later_stay : (h k : Board) (j i : ℕ) (qs : List P) → j < i → Stay j h k → Showing h i qs → Showing k i qs
  later_stay h k j i [] lt stay w = tt
  later_stay h k j i (q ∷ qs) lt stay w =
      (stay i q (λ e. omega (arith, lt, e)) w.0, later_stay h k j (suc i) qs (omega (arith, lt)) stay w.1)

  module _ (g : Board) (parts : ℕ) (play : IsLocalPlay P moves InPart Shown g parts) (h : Board) (walls : WallsStand g h) (c : Colour) where
    step_forth : (k : Board) (p n j i : ℕ) (qs : List P) → Showing h i qs → i ≤ j → j < i + length qs → i + length qs ≤ parts → InPart j p
        → IsPlaced h p c k → IsNumberTaken h k n
        → (rs : List P) × StepIn P moves c qs rs n × Showing k i rs × (length rs ≡ length qs) × Stay j h k
    step_forth k p n j i [] w le lt most at placed number = absurd (omega (arith, le, lt))
    step_forth k p n j i (q ∷ qs) w le lt most at placed number = elim (cases_eq j i) [
      | inl e ↦
          let (x, among, taken, held, stay) = play.played h k c p n i q walls (omega (arith, most))
          (subst (λ z. InPart z p) e at) w.0 placed number in
          let later = later_stay h k i (suc i) qs (omega arith) stay w.1 in
          (x.to ∷ qs, inl ((x, among, refl, taken), refl), (held, later), refl, subst (λ z. Stay z h k) (sym e) stay)
      | inr ne ↦
          let (rs, step, held, long, stay) = step_forth k p n j (suc i) qs w.1 (omega (arith, le, ne)) (omega (arith, lt))
          (omega (arith, most)) at placed number in
          (q ∷ rs, inr (refl, step), (stay i q (λ e. ne (sym e)) w.0, held), omega (arith, long), stay)
    ]

    step_back : (n i : ℕ) (qs rs : List P) → Showing h i qs → i + length qs ≤ parts → StepIn P moves c qs rs n
        → (j : ℕ) × ((p : ℕ) × ((k : Board) × (i ≤ j) × (j < parts) × InPart j p × IsPlaced h p c k × IsNumberTaken h k n × Showing k i rs
        × (length rs ≡ length qs) × Stay j h k))
    step_back n i [] rs w most m = absurd m
    step_back n i (q ∷ qs) [] w most m = absurd m
    step_back n i (q ∷ qs) (r ∷ rs) w most (inl ((x, among, to, taken), e)) =
        let (p, (k, inside, placed, number, held, stay)) = play.playable h c i q x walls (omega (arith, most)) w.0 among in
        let later = subst (Showing k (suc i)) e (later_stay h k i (suc i) qs (omega arith) stay w.1) in
        let shown : Showing k i (r ∷ rs) = (subst (Shown k i) to held, later) in
        let number' = subst (IsNumberTaken h k) taken number in
        (i, (p, (k, omega arith, omega (arith, most), inside, placed, number', shown, ap suc (ap length (sym e)), stay)))
    step_back n i (q ∷ qs) (r ∷ rs) w most (inr (e, m)) =
        let (j, (p, (k, le, lt, inside, placed, number, held, long, stay))) = step_back n (suc i) qs rs w.1 (omega (arith, most)) m in
        let shown : Showing k i (r ∷ rs) = (subst (Shown k i) e (stay i q (λ z. omega (arith, le, z)) w.0), held) in
        (j, (p, (k, omega (arith, le), lt, inside, placed, number, shown, omega (arith, long), stay)))

  module _ (g : Board) (settled : IsSettled g) (parts : ℕ) (play : IsLocalPlay P moves InPart Shown g parts) where
    -- a state of the whole game, seen as its parts
    abbrev pub Sees : Whole → State P → Type 0
    Sees s u = Keeps g s × IsSeenAs P moves InPart Shown parts s u

    abbrev with_parts : List P → Purses → Colour → State P
    with_parts ps m c = record { parts = ps; purses = m; side = c }

    -- the state after a move is seen as the parts that its board shows, with its purses and the other side to move
    sees_after : (s t : Whole) (m : Move) (h : Board) (ms : Purses) (ps : List P) → Keeps g s → whole.IsMove s m t → t ≡ whole.after h ms s
        → length ps ≡ parts → Showing h 0 ps → Sees t (with_parts ps ms (other s.side))
    sees_after s t m h ms ps keeps move is count shown = (
      keeps_move g settled s t m keeps move,
      record {
        count = count;
        shown = subst (λ z. Showing z.board 0 ps) (sym is) shown;
        purses = ap (λ z. z.purses) is;
        turn = ap (λ z. z.side) is;
      },
    )

    module _ (s : Whole) (ps : List P) (keeps : Keeps g s) (count : length ps ≡ parts) (shown : Showing s.board 0 ps) where
      -- the state after a move is seen as one that the parts' state leads to
      led_to : (t : Whole) (m : Move) (h : Board) (ms : Purses) (qs : List P) → whole.IsMove s m t → t ≡ whole.after h ms s
          → length qs ≡ parts → Showing h 0 qs → Leads P moves (with_parts ps s.purses s.side) (with_parts qs ms (other s.side))
          → (v : State P) × Leads P moves (with_parts ps s.purses s.side) v × Sees t v
      led_to t m h ms qs move is long held leads =
          (with_parts qs ms (other s.side), leads, sees_after s t m h ms qs keeps move is long held)

      forth_from : (t : Whole) → whole.Leads s t → (v : State P) × Leads P moves (with_parts ps s.purses s.side) v × Sees t v
      forth_from t (Stone p, m) =
          let (mark, (h, (n, placed, number, is))) = m in
          let (j, lt, at) = play.covers p ((keeps.contested p).0 mark) in
          let first : j < 0 + length ps = omega (arith, lt, count) in
          let (qs, step, held, long, stay) = step_forth g parts play s.board keeps.walls s.side h p n j 0 ps shown (omega arith) first
          (omega (arith, count)) at placed number in
          led_to t (Stone p) h (paid_in s.side n s.purses) qs m is (long ∙ count) held record { turn = refl; move = inl (n, step, refl) }
      forth_from t (Spend, m) =
          led_to t Spend s.board (paid_out s.side s.purses) ps m m.1 count shown record { turn = refl; move = inr (inl (m.0, refl, refl)) }
      forth_from t (Half, m) =
          led_to t Half s.board (halved s.side s.purses) ps m m.1 count shown record { turn = refl; move = inr (inr (m.0, refl, refl)) }

      back_from : (v : State P) → Leads P moves (with_parts ps s.purses s.side) v → (t : Whole) × whole.Leads s t × Sees t v
      back_from v l = elim l.move [
        | inl (n, step, money) ↦
            let (j, (p, (k, le, lt, at, placed, number, held, long, stay))) = step_back g parts play s.board keeps.walls s.side n 0 ps v.parts shown
            (omega (arith, count)) step in
            led (Stone p) k (paid_in s.side n s.purses) ((keeps.contested p).1 (play.within j p lt at), (k, (n, placed, number, refl)))
            (long ∙ count) held money
        | inr (inl (some, same, money)) ↦ still Spend (paid_out s.side s.purses) (some, refl) same money
        | inr (inr (some, same, money)) ↦ still Half (halved s.side s.purses) (some, refl) same money
      ]
        where
          led : (m : Move) (h : Board) (ms : Purses) → whole.IsMove s m (whole.after h ms s) → length v.parts ≡ parts → Showing h 0 v.parts
              → v.purses ≡ ms → (t : Whole) × whole.Leads s t × Sees t v
          led m h ms move long held money =
              let t = whole.after h ms s in (
                t,
                (m, move),
                subst (Sees t) (λ i. with_parts v.parts (sym money i) (sym l.turn i))
                    (sees_after s t m h ms v.parts keeps move refl long held),
              )

          still : (m : Move) (ms : Purses) → whole.IsMove s m (whole.after s.board ms s) → v.parts ≡ ps → v.purses ≡ ms
              → (t : Whole) × whole.Leads s t × Sees t v
          still m ms move same money = led m s.board ms move (ap length same ∙ count) (subst (Showing s.board 0) (sym same) shown) money

    pub bookkeeping : Matches Whole (State P) whole.Leads (Leads P moves) Sees
    bookkeeping = record {
      forth = λ s t u (keeps, w) m. subst (λ x. (v : State P) × Leads P moves x v × Sees t v) (same s u w)
          (forth_from s u.parts keeps w.count w.shown t m);
      back = λ s u v (keeps, w) l. back_from s u.parts keeps w.count w.shown v (subst (λ x. Leads P moves x v) (sym (same s u w)) l);
    }
      where
        same : (s : Whole) (u : State P) → IsSeenAs P moves InPart Shown parts s u → with_parts u.parts s.purses s.side ≡ u
        same s u w = λ i. with_parts u.parts (w.purses i) (w.turn i)

    -- a state of the whole game has a winner, and who loses is the sign of the sum
    pub whole_decomposes : (n : ℕ) (s : Whole) (u : State P) → AllEnd P moves n u.parts → Sees s u
        → (MoverWins Whole whole.Leads s ⊎ MoverLoses Whole whole.Leads s) × (MoverLoses Whole whole.Leads s ↔ LosesGame s.side (state_tree P moves n u))
    whole_decomposes n s u end w =
        let d = decomposes P moves n u end in
        let back : Matches (State P) Whole (Leads P moves) whole.Leads (λ v t. Sees t v) =
        record { forth = λ v w t e l. bookkeeping.back t v w e l; back = λ v t r e l. bookkeeping.forth t r v e l } in (
          elim d.has_winner [
            | inl x ↦ inl (x.0, wins-forth _ _ _ _ _ back x.0 u s w x.1)
            | inr x ↦ inr (x.0, loses-forth _ _ _ _ _ back x.0 u s w x.1)
          ],
          (
            λ x. subst (λ c. LosesGame c (state_tree P moves n u)) (sym w.1.turn) (d.loser.0 (x.0, loses-forth _ _ _ _ Sees bookkeeping x.0 s u w x.1)),
            λ x. (let y = d.loser.1
                (subst (λ c. LosesGame c (state_tree P moves n u)) w.1.turn x) in (y.0, loses-forth _ _ _ _ _ back y.0 u s w y.1)),
          ),
        )

-- The regions of play as the parts of a game whose positions are local positions: local play of the regions is play on each board
-- on which the walls stand.

-- which region, and a local position of it
pub record Position : Type 0 where
  pub region : ℕ
  pub cells : List Cell

abbrev pub position_in : ℕ → List Cell → Position
position_in k cells = record { region = k; cells = cells }

-- the steps from a position of at most b places
pub limited : {X : Type 0} (b n : ℕ) → (b < n) ⊎ (n ≤ b) → List X → List X
limited b n (inl lt) xs = []
limited b n (inr le) xs = xs

pub limited-is : {X : Type 0} (b n : ℕ) (d : (b < n) ⊎ (n ≤ b)) (xs : List X) → n ≤ b → limited b n d xs ≡ xs
unfolding limited
limited-is b n (inl lt) xs le = absurd (omega (arith, lt, le))
limited-is b n (inr le') xs le = refl

pub limited-in : {X : Type 0} (b n : ℕ) (d : (b < n) ⊎ (n ≤ b)) (xs : List X) (x : X) → Contains (limited b n d xs) x
    → (n ≤ b) × Contains xs x
unfolding limited
limited-in b n (inl lt) xs x h = absurd (omega (arith, h.1))
limited-in b n (inr le) xs x h = (le, h)

pub moves_of : List Region → ℕ → Colour → Position → List (Step Position)
moves_of regions b c q =
    limited b (length q.cells) (cases_lt b (length q.cells)) (steps (region_at regions q.region).touch q.cells c Position (position_in q.region))

-- the board holds the position, which is one of the region's
pub record IsHeld (g : Board) (regions : List Region) (h : Board) (k : ℕ) (q : Position) : Type 0 where
  pub region : q.region ≡ k
  pub known : k < length regions
  pub reachable : IsReachable (region_at regions k).touch (region_at regions k).cells q.cells
  pub holds : HoldsPosition g (region_at regions k) q.cells h

-- a board holds one position in a region
pub one_cells : (r : Region) (a b : List Cell) (h : Board) → HoldsCells h r a → HoldsCells h r b → a ≡ b
one_cells r a b h x y =
    ext_get_or Empty a b (x.0 ∙ sym y.0) (λ i lt. let short : i < length r.points = omega (arith, lt, x.0) in sym (x.1 i short) ∙ y.1 i short)

-- purses and token, whichever way they are added up
pub money_same : (m : Purses) → purses_tree m ≡ᵍ money_tree m
money_same m =
    same-plus _ _ _ _ (num-plus_le 0 (credit Black m.black) (credit White m.white), num-le_plus 0 (credit Black m.black) (credit White m.white))
    (same-refl (token_tree m.token))

-- what a player is paid goes over to the balance
paid_beside : (G : Tree) (c : Colour) (k : ℕ) (m : Purses) → ((G +ᵍ gain c k) +ᵍ num 1 (balance m)) ≡ᵍ (G +ᵍ num 1 (balance (paid_in c k m)))
paid_beside G c k m =
    let x = credit c k in
    let sum : (num 1 (x +ℤ x) +ᵍ num 1 (balance m)) ≡ᵍ num 1 ((x +ℤ x) +ℤ balance m) = (num-plus_le 1 (x +ℤ x) (balance m), num-le_plus 1 (x +ℤ x) (balance m)) in
    let is : (x +ℤ x) +ℤ balance m ≡ balance (paid_in c k m) = turned (x +ℤ x) (balance m) ∙ sym (balance_paid c k m) in
    let inner : (gain c k +ᵍ num 1 (balance m)) ≡ᵍ num 1 (balance (paid_in c k m)) =
    same-trans _ _ _ (same-path _ _ (ap (λ t. t +ᵍ num 1 (balance m)) (sym (num-double 0 x)))) (same-trans _ _ _ sum (same-path _ _ (ap (num 1) is))) in
    same-trans _ _ _ (same-path _ _ (plus-assoc G (gain c k) (num 1 (balance m)))) (same-plus G G _ _ (same-refl G) inner)
  where
    turned : (a b : ℤ) → a +ℤ b ≡ b +ℤ a
    turned a b = omega (arith, ints)

no_option : (c : Colour) (X : Tree) → Has (options c nought) X → ⊥
no_option Black X h = h
no_option White X h = h

module _ (g : Board) (settled : IsSettled g) (regions : List Region) (are : AreRegionsOfPlay g regions) where
  abbrev Most : ℕ
  Most = length g.cells

  abbrev Moves : Colour → Position → List (Step Position)
  Moves = moves_of regions Most

  abbrev AreHeld : Board → ℕ → List Position → Type 0
  AreHeld h k qs = AllShown Position Moves (IsPointOf regions) (IsHeld g regions) h k qs

  moves-are : (k : ℕ) (c : Colour) (cells : List Cell) → length cells ≤ Most
      → Moves c (position_in k cells) ≡ steps (region_at regions k).touch cells c Position (position_in k)
  unfolding moves_of
  moves-are k c cells le = limited-is Most (length cells) (cases_lt Most (length cells)) _ le

  pub region_in : (k : ℕ) → k < length regions → Contains regions (region_at regions k)
  region_in k lt = Contains-get_or regions k no_region lt

  -- no region has more points than the board
  cells_few : (k : ℕ) → k < length regions → length (region_at regions k).cells ≤ Most
  cells_few k lt =
      let r = region_at regions k in
      let play = are.each r (region_in k lt) in
      let on_board = λ (i d : ℕ) (inside : i < length r.points).
      (point_contested g r play (get_or r.points i d) (Contains-get_or r.points i d inside)).0 in
      omega (arith, play.proper.full, short r.points (length g.cells) play.proper.ascending on_board)

  pub held_long : (h : Board) (k : ℕ) (q : Position) → IsHeld g regions h k q → length q.cells ≤ Most
  held_long h k q s =
      let r = region_at regions k in
      omega (arith, cells_few k s.known, plays_long r.touch r.cells q.cells s.reachable.0 s.reachable.1)

  position_is : (k : ℕ) (q : Position) → q.region ≡ k → position_in k q.cells ≡ q
  position_is k q e = λ i. record { region = sym e i; cells = q.cells }

  -- the board after a local move of one region holds the next position there, and the same elsewhere
  pub held_after : (h after : Board) (k : ℕ) (q : Position) (next : List Cell) (c : Colour) (i p : ℕ) → IsHeld g regions h k q
      → IsPlaced h p c after → IsLocalMove (region_at regions k).touch q.cells c i next → IsLocal (region_at regions k) h after q.cells next
      → IsHeld g regions after k (position_in k next) × OthersStay Position Moves (IsPointOf regions) (IsHeld g regions) k h after
  held_after h after k q next c i p s placed move local =
      let r = region_at regions k in
      let own = holds_after g r q.cells next h after (are.each r (region_in k s.known)) s.holds placed.0.columns
      (placed.1.without.long ∙ length-set h.cells p (stone c)) (long_after move) local.inside local.outside in
      let m : CycleMove = record { colour = c; place = i } in (
        record {
          region = refl;
          known = s.known;
          reachable = (s.reachable.0 ++ m ∷ [], plays_more r.touch r.cells q.cells next s.reachable.0 m s.reachable.1 move);
          holds = own;
        },
        λ l q' ne s'.
            let t = region_at regions l in record {
              region = s'.region;
              known = s'.known;
              reachable = s'.reachable;
              holds = record {
                walls = own.walls;
                long = s'.holds.long;
                local = λ j lt.
                    other_kept g regions are k l no_region h after q.cells next s.known s'.known ne local (get_or t.points j 0) (Contains-get_or t.points j 0 lt)
                    ∙ s'.holds.local j lt;
              };
            },
      )

  played : (h after : Board) (c : Colour) (p n k : ℕ) (q : Position) → WallsStand g h → k < length regions → IsPointOf regions k p → IsHeld g regions h k q
      → IsPlaced h p c after → IsNumberTaken h after n → IsPlayedIn Position Moves (IsPointOf regions) (IsHeld g regions) h c after n k q
  played h after c p n k q walls lt (i, short, at) s placed number =
      let r = region_at regions k in
      let there : get_or r.points i 0 ≡ p = get_or_default r.points i 0 p short ∙ at in
      let placed' = subst (λ x. IsPlaced h x c after) (sym there) placed in
      let (next, move, local) = placing_is_local g r settled (are.each r (region_in k lt)) s.holds i short c after placed' in
      let (held, stay) = held_after h after k q next c i p s placed move local in
      let among = from_step Position r.touch Most (position_in k) Moves (moves-are k) q.cells c (record { to = next; taken = n })
      (held_long h k q s) (i, move, (local.taken n).0 number) in
      let x : Step Position = record { to = position_in k next; taken = n } in
      (x, subst (λ z. Contains (Moves c z) x) (position_is k q s.region) among, refl, held, stay)

  playable : (h : Board) (c : Colour) (k : ℕ) (q : Position) (x : Step Position) → WallsStand g h → k < length regions → IsHeld g regions h k q
      → Contains (Moves c q) x → IsPlayableIn Position Moves (IsPointOf regions) (IsHeld g regions) h c k x
  playable h c k q x walls lt s among =
      let r = region_at regions k in
      let (y, (i, move, number), to, taken, few) = step_from Position r.touch Most (position_in k) Moves (moves-are k) q.cells c x (held_long h k q s)
      (subst (λ z. Contains (Moves c z) x) (sym (position_is k q s.region)) among) in
      let short : i < length r.points = omega (arith, move.place, s.holds.long) in
      let plays = plays_locally g r settled (are.each r (region_in k lt)) in
      let (after, placed) = (plays.legal q.cells h c i s.holds short).1 (y.to, move) in
      let local = plays.local q.cells y.to h after c i s.holds short placed move in
      let (held, stay) = held_after h after k q y.to c i (get_or r.points i 0) s placed move local in
      let number' = subst (IsNumberTaken h after) taken ((local.taken y.taken).1 number) in
      (get_or r.points i 0, (after, Contains-get_or r.points i 0 short, placed, number', subst (IsHeld g regions after k) to held, stay))

  pub cell_play : IsLocalPlay Position Moves (IsPointOf regions) (IsHeld g regions) g (length regions)
  cell_play = record {
    covers = λ p contested. (let w = only_region g regions are p no_region contested in (w.0, w.1, w.2));
    within = λ k p lt in'. point_contested g (region_at regions k) (are.each (region_at regions k) (region_in k lt)) p in';
    played = played;
    playable = playable;
  }

  abbrev pub SeenAs : Whole → State Position → Type 0
  SeenAs s u = Sees Position Moves (IsPointOf regions) (IsHeld g regions) g settled (length regions) cell_play s u

  -- the board holds these cells in region `k`, and they can be reached
  abbrev pub HoldsReached : Board → ℕ → List Cell → Type 0
  HoldsReached h k cells = IsReachable (region_at regions k).touch (region_at regions k).cells cells × HoldsPosition g (region_at regions k) cells h

  -- the positions that a board holds in the regions from the one at `k` on
  gathered : (h : Board) (k n : ℕ) → k + n ≡ length regions → ((j : ℕ) → j < length regions → (cells : List Cell) × HoldsReached h j cells)
      → (qs : List Position) × (length qs ≡ n) × AreHeld h k qs
  gathered h k zero e w = ([], refl, tt)
  gathered h k (suc n) e w =
      let lt : k < length regions = omega (arith, e) in
      let (cells, (reachable, holds)) = w k lt in
      let (qs, long, held) = gathered h (suc k) n (omega (arith, e)) w in
      (position_in k cells ∷ qs, ap suc long, (record { region = refl; known = lt; reachable = reachable; holds = holds }, held))

  pub seen_now : (s : Whole) → Keeps g s → ((j : ℕ) → j < length regions → (cells : List Cell) × HoldsReached s.board j cells)
      → (u : State Position) × SeenAs s u
  seen_now s keeps w =
      let (qs, long, held) = gathered s.board 0 (length regions) (omega arith) w in
      (record { parts = qs; purses = s.purses; side = s.side }, (keeps, record { count = long; shown = held; purses = refl; turn = refl }))

  seen_plays : (s t : Whole) (ms : List Move) (u : State Position) → SeenAs s u → Plays s ms t → (v : State Position) × SeenAs t v
  seen_plays s t [] u w e = (u, subst (λ z. SeenAs z u) e w)
  seen_plays s t (m ∷ ms) u w (r, move, rest) =
      let (v, leads, seen) = (bookkeeping Position Moves (IsPointOf regions) (IsHeld g regions) g settled (length regions) cell_play).forth s r u w
      (m, move) in
      seen_plays r t ms v seen rest

  module _ (calm : (r : Region) → Contains regions r → HasNoCycle r.touch r.cells) where
    -- a depth that no play in a region is longer than
    abbrev Depth : ℕ
    Depth = 3 ^ Most

    shorter : (h : Board) (k : ℕ) (q : Position) → IsHeld g regions h k q
        → PlaysAreShort (List Cell) (MovesTo (region_at regions k).touch) (3 ^ length (region_at regions k).cells) q.cells
    shorter h k q s =
        let r = region_at regions k in
        short_plays r.touch r.cells (calm r (region_in k s.known)) q.cells s.reachable

    deep : (h : Board) (k : ℕ) (q : Position) → IsHeld g regions h k q → PlaysAreShort (List Cell) (MovesTo (region_at regions k).touch) Depth q.cells
    deep h k q s qs w =
        let three : 0 < 3 = omega arith in
        let most = pow-le-pow_right {n = 3} three (cells_few k s.known) in
        omega (arith, shorter h k q s qs w, most)

    -- a tree of the position is as good as that over the listed moves
    held_tree : (h : Board) (k : ℕ) (q : Position) (G : Tree) → IsHeld g regions h k q
        → IsTreeOf (region_at regions k).touch (3 ^ length q.cells) q.cells G → G ≡ᵍ tree_within Position Moves Depth q
    held_tree h k q G s tree =
        let r = region_at regions k in
        let long = plays_long r.touch r.cells q.cells s.reachable.0 s.reachable.1 in
        let own : PlaysAreShort (List Cell) (MovesTo r.touch) (3 ^ length q.cells) q.cells = λ qs w. omega (arith, shorter h k q s qs w, ap (λ m. 3 ^ m) long) in
        subst (λ z. G ≡ᵍ tree_within Position Moves Depth z) (position_is k q s.region)
        (tree_as Position r.touch Most (position_in k) Moves (moves-are k) Depth (3 ^ length q.cells) q.cells G (held_long h k q s) own
        (deep h k q s) tree)

    -- play ends in each part
    all_end : (h : Board) (k : ℕ) (qs : List Position) → AreHeld h k qs → AllEnd Position Moves Depth qs
    all_end h k [] shown = tt
    all_end h k (q ∷ qs) (s, shown) = (
      subst (EndsWithin Position (StepsTo Position Moves) Depth) (position_is k q s.region)
          (cells_end Position (region_at regions k).touch Most (position_in k) Moves (moves-are k) Depth q.cells (held_long h k q s) (deep h k q s)),
      all_end h (suc k) qs shown,
    )

    -- the trees of the positions on the board are as good as those of the parts
    trees_total : (h : Board) (k : ℕ) (rs : List Region) (trees : Trees) (qs : List Position)
        → ((j : ℕ) → j < length rs → region_at regions (k + j) ≡ get_or rs j no_region)
        → AreTreesOn g h rs trees → length qs ≡ length rs → AreHeld h k qs → total trees ≡ᵍ parts_tree Position Moves Depth qs
    unfolding total parts_tree
    trees_total h k [] none [] at w e shown = same-refl (node none none)
    trees_total h k [] none (q ∷ qs) at w e shown = absurd (omega (arith, e))
    trees_total h k [] (more G Gs) qs at w e shown = absurd w
    trees_total h k (r ∷ rs) none qs at w e shown = absurd w
    trees_total h k (r ∷ rs) (more G Gs) [] at w e shown = absurd (omega (arith, e))
    trees_total h k (r ∷ rs) (more G Gs) (q ∷ qs) at ((cells, holds, tree), w) e (held, shown) =
        let here : region_at regions k ≡ r = ap (λ j. region_at regions j) (omega arith) ∙ at 0 (omega arith) in
        let holds' = subst (λ x. HoldsPosition g x cells h) (sym here) holds in
        let same = one_cells (region_at regions k) cells q.cells h (holds'.long, holds'.local) (held.holds.long, held.holds.local) in
        let tree' = subst (λ x. IsTreeOf x.touch (3 ^ length cells) cells G) (sym here) tree in
        let first = held_tree h k q G held (subst (λ x. IsTreeOf (region_at regions k).touch (3 ^ length x) x G) same tree') in
        let rest = trees_total h (suc k) rs Gs qs (λ j lt. ap (λ i. region_at regions i) (omega arith) ∙ at (suc j) (omega (arith, lt))) w
        (omega (arith, e)) shown in
        same-plus _ _ _ _ first rest

    -- the positions that a board holds have trees
    trees_on : (h : Board) (k : ℕ) (rs : List Region) (qs : List Position) → ((j : ℕ) → j < length rs → region_at regions (k + j) ≡ region_at rs j)
        → length qs ≡ length rs → AreHeld h k qs → (trees : Trees) × AreTreesOn g h rs trees
    trees_on h k [] qs at e shown = (none, tt)
    trees_on h k (r ∷ rs) [] at e shown = absurd (omega (arith, e))
    trees_on h k (r ∷ rs) (q ∷ qs) at e (held, shown) =
        let here : region_at regions k ≡ r = ap (λ j. region_at regions j) (omega arith) ∙ at 0 (omega arith) in
        let (trees, on) = trees_on h (suc k) rs qs (λ j lt. ap (λ i. region_at regions i) (omega arith) ∙ at (suc j) (omega (arith, lt))) (omega (arith, e)) shown in
        let (G, tree) = trees-exist r.touch q.cells (3 ^ length q.cells) in
        (more G trees, ((q.cells, subst (λ x. HoldsPosition g x q.cells h) here held.holds, tree), on))

    -- Who loses a state is the sign of the sum of any trees of the positions on its board, and of its money.
    decided : (t : Whole) (v : State Position) → SeenAs t v → (MoverWins Whole whole.Leads t ⊎ MoverLoses Whole whole.Leads t)
        × ((trees : Trees) → AreTreesOn g t.board regions trees
        → MoverLoses Whole whole.Leads t ↔ LosesGame t.side (total trees +ᵍ money_tree t.purses))
    decided t v w =
        let d = whole_decomposes Position Moves (IsPointOf regions) (IsHeld g regions) g settled (length regions) cell_play
        Depth t v (all_end t.board 0 v.parts w.1.shown) w in (
          d.0,
          λ trees on.
              let sum = trees_total t.board 0 regions trees v.parts (λ j lt. ap (region_at regions) (omega arith)) on w.1.count w.1.shown in
              let same : state_tree Position Moves Depth v ≡ᵍ (total trees +ᵍ money_tree t.purses) =
              same-plus _ _ _ _ (same-sym _ _ sum) (subst (λ m. purses_tree v.purses ≡ᵍ money_tree m) (sym w.1.purses) (money_same v.purses)) in
              (λ x. loses-same t.side _ _ same (d.1.0 x), λ x. d.1.1 (loses-same t.side _ _ (same-sym _ _ same) x)),
        )

    -- who loses a state is told by the parts that another state with its board shows
    pub decided_alike : (t : Whole) (v : State Position) → SeenAs t v → (u : Whole) → Keeps g u → u.board ≡ t.board
        → (MoverWins Whole whole.Leads u ⊎ MoverLoses Whole whole.Leads u)
        × (MoverLoses Whole whole.Leads u ↔ LosesGame u.side (parts_tree Position Moves Depth v.parts +ᵍ num 1 (balance u.purses)))
    decided_alike t v w u keeps same =
        let shown = subst (λ h. AreHeld h 0 v.parts) (sym same) w.1.shown in
        let seen : SeenAs u (record { parts = v.parts; purses = u.purses; side = u.side }) =
        (keeps, record { count = w.1.count; shown = shown; purses = refl; turn = refl }) in
        let d = whole_decomposes Position Moves (IsPointOf regions) (IsHeld g regions) g settled (length regions) cell_play
        Depth u (record { parts = v.parts; purses = u.purses; side = u.side }) (all_end u.board 0 v.parts shown) seen in
        let money = same-plus _ _ _ _ (same-refl (parts_tree Position Moves Depth v.parts)) (purses-balance u.purses) in
        (d.0, (λ x. loses-same u.side _ _ money (d.1.0 x), λ x. d.1.1 (loses-same u.side _ _ (same-sym _ _ money) x)))

    -- a step in a part that is no number is a stone on the board
    hot_back : (h : Board) → WallsStand g h → (c : Colour) (n i : ℕ) (qs rs : List Position) → AreHeld h i qs → i + length qs ≤ length regions
        → HotStep Position Moves Depth c qs rs n
        → (j : ℕ) × ((q : Position) × ((p : ℕ) × ((k : Board) × (i ≤ j) × IsHeld g regions h j q × Hot Position Moves Depth c q × IsPointOf regions j p
        × IsPlaced h p c k × IsNumberTaken h k n × AreHeld k i rs × (length rs ≡ length qs)
        × OthersStay Position Moves (IsPointOf regions) (IsHeld g regions) j h k)))
    hot_back h walls c n i [] rs w most m = absurd m
    hot_back h walls c n i (q ∷ qs) [] w most m = absurd m
    hot_back h walls c n i (q ∷ qs) (r ∷ rs) w most (inl (hot, (x, among, to, taken), e)) =
        let (p, (k, inside, placed, number, held, stay)) = cell_play.playable h c i q x walls (omega (arith, most)) w.0 among in
        let later = subst (AreHeld k (suc i)) e (later_stay Position Moves (IsPointOf regions) (IsHeld g regions) h k i (suc i) qs (omega arith) stay w.1) in
        let shown : AreHeld k i (r ∷ rs) = (subst (IsHeld g regions k i) to held, later) in
        (i, (q, (p, (k, omega arith, w.0, hot, inside, placed, subst (IsNumberTaken h k) taken number, shown, ap suc (ap length (sym e)), stay))))
    hot_back h walls c n i (q ∷ qs) (r ∷ rs) w most (inr (e, m)) =
        let (j, (q', (p, (k, le, held, hot, inside, placed, number, later, long, stay)))) = hot_back h walls c n (suc i) qs rs w.1 (omega (arith, most)) m in
        let shown : AreHeld k i (r ∷ rs) = (subst (IsHeld g regions k i) e (stay i q (λ z. omega (arith, le, z)) w.0), later) in
        (j, (q', (p, (k, omega (arith, le), held, hot, inside, placed, number, shown, omega (arith, long), stay))))

    -- a part is a number where a tree of its position is
    hot_region : (h : Board) (c : Colour) (j : ℕ) (q : Position) → IsHeld g regions h j q → Hot Position Moves Depth c q → IsHot g h (region_at regions j)
    hot_region h c j q held hot cells G holds tree (e, m, under, over) =
        let r = region_at regions j in
        let same = one_cells r cells q.cells h (holds.long, holds.local) (held.holds.long, held.holds.local) in
        let alike = held_tree h j q G held (subst (λ x. IsTreeOf r.touch (3 ^ length x) x G) same tree) in
        hot (e, m, le-trans _ _ _ alike.1 under, le-trans _ _ _ over alike.0)

    region_hot : (h : Board) (c : Colour) (j : ℕ) (q : Position) (cells : List Cell) (G : Tree) → IsHeld g regions h j q
        → HoldsPosition g (region_at regions j) cells h → IsTreeOf (region_at regions j).touch (3 ^ length cells) cells G → ¬ IsNumber G
        → Hot Position Moves Depth c q
    region_hot h c j q cells G held holds tree hot (e, m, under, over) =
        let r = region_at regions j in
        let same = one_cells r cells q.cells h (holds.long, holds.local) (held.holds.long, held.holds.local) in
        let alike = held_tree h j q G held (subst (λ x. IsTreeOf r.touch (3 ^ length x) x G) same tree) in
        hot (e, m, le-trans _ _ _ alike.0 under, le-trans _ _ _ over alike.1)

    hot_part : (h : Board) (c : Colour) (i : ℕ) (qs : List Position) → AreHeld h i qs → (j : ℕ) → i ≤ j → j < i + length qs
        → ((q : Position) → IsHeld g regions h j q → Hot Position Moves Depth c q) → HotIn Position Moves Depth c qs
    hot_part h c i [] w j le lt hot = absurd (omega (arith, le, lt))
    hot_part h c i (q ∷ qs) w j le lt hot = elim (cases_eq j i) [
      | inl e ↦ inl (hot q (subst (λ z. IsHeld g regions h z q) (sym e) w.0))
      | inr ne ↦ inr (hot_part h c (suc i) qs w.1 j (omega (arith, le, ne)) (omega (arith, lt)) hot)
    ]

    -- Who wins by moving first wins by a stone in a region that is no number, if there is one.
    pub avoids : (u : Whole) (v : State Position) (r : Region) → SeenAs u v → Contains regions r → IsHot g u.board r → ¬ MoverLoses Whole whole.Leads u
        → ((p : ℕ) (w : Whole) → whole.IsMove u (Stone p) w → ((r : Region) × Contains regions r × Contains r.points p × IsHot g u.board r)
        → ¬ MoverLoses Whole whole.Leads w) → ⊥
    avoids u v r seen (i, lt, is) hot wins unwon =
        avoid Position Moves Depth u.side v.parts (all_end u.board 0 v.parts seen.1.shown) nought 1 (balance u.purses) (inr hot_in)
        (λ X h l. no_option u.side X h) by_step
        (λ l. wins ((decided_alike u v seen u seen.0 refl).1.1 (subst (λ t. LosesGame u.side (t +ᵍ num 1 (balance u.purses))) (nought-plus parts) l)))
      where
        parts : Tree
        parts = parts_tree Position Moves Depth v.parts

        here : region_at regions i ≡ r
        here = get_or_default regions i no_region r lt ∙ is

        hot_in : HotIn Position Moves Depth u.side v.parts
        hot_in = hot_part u.board u.side 0 v.parts seen.1.shown i (omega arith) (omega (arith, lt, seen.1.count)) (λ q held.
            let (G, tree) = trees-exist (region_at regions i).touch q.cells (3 ^ length q.cells) in
            region_hot u.board u.side i q q.cells G held held.holds tree (subst (IsHot g u.board) (sym here) hot q.cells G held.holds tree))

        by_step : (qs : List Position) (k : ℕ) → HotStep Position Moves Depth u.side v.parts qs k
            → ¬ LosesGame (other u.side) ((nought +ᵍ (parts_tree Position Moves Depth qs +ᵍ gain u.side k)) +ᵍ num 1 (balance u.purses))
        by_step qs k step l =
            let c = u.side in
            let (j, (q, (p, (h, le, held, hot', inside, placed, number, shown, long, stay)))) =
            hot_back u.board seen.0.walls c k 0 v.parts qs seen.1.shown (omega (arith, seen.1.count)) step in
            let money = paid_in c k u.purses in
            let w = whole.after h money u in
            let move : whole.IsMove u (Stone p) w = ((seen.0.contested p).1 (cell_play.within j p held.known inside), (h, (k, placed, number, refl))) in
            let keeps = keeps_move g settled u w (Stone p) seen.0 move in
            let next : SeenAs w (record { parts = qs; purses = money; side = other c }) =
            (keeps, record { count = long ∙ seen.1.count; shown = shown; purses = refl; turn = refl }) in
            let d = decided_alike w (record { parts = qs; purses = money; side = other c }) next w keeps refl in
            unwon p w move (region_at regions j, region_in j held.known, inside, hot_region u.board c j q held hot')
            (d.1.1 (loses-same (other c) _ _ (same-trans _ _ _
            (same-path _ _ (ap (λ t. t +ᵍ num 1 (balance u.purses)) (nought-plus (parts_tree Position Moves Depth qs +ᵍ gain c k))))
            (paid_beside (parts_tree Position Moves Depth qs) c k u.purses)) l))

    -- values of positions that a board holds are as good as some trees of them
    valued : (h : Board) (Ts : List Tree) (rs : List Region) (ids : List ℕ) → length ids ≡ length rs
        → ((j : ℕ) → j < length rs → (cells : List Cell) × HoldsPosition g (get_or rs j no_region) cells h
        × IsValueOf (get_or rs j no_region).touch cells (tree_at Ts (get_or ids j 0)))
        → (trees : Trees) × AreTreesOn g h rs trees × (total trees ≡ᵍ total (pick Ts ids))
    unfolding total
    valued h Ts [] [] e w = (none, tt, same-refl (node none none))
    valued h Ts [] (id ∷ ids) e w = absurd (omega (arith, e))
    valued h Ts (r ∷ rs) [] e w = absurd (omega (arith, e))
    valued h Ts (r ∷ rs) (id ∷ ids) e w =
        let (cells, holds, value) = w 0 (omega arith) in
        let (trees, on, same) = valued h Ts rs ids (omega (arith, e)) (λ j lt. w (suc j) (omega (arith, lt))) in
        (more value.tree trees, ((cells, holds, value.of_position), on), same-plus _ _ _ _ value.same same)

    -- The state has a winner, and who loses is the sign of the sum of the values, and of the balance of the purses and the token.
    pub decided_by_values : (s : Whole) (Ts : List Tree) (ids : List ℕ) → Keeps g s → length ids ≡ length regions
        → ((j : ℕ) → j < length regions → (cells : List Cell) × HoldsReached s.board j cells × IsValueOf (region_at regions j).touch cells (tree_at Ts (get_or ids j 0)))
        → (MoverWins Whole whole.Leads s ⊎ MoverLoses Whole whole.Leads s)
        × (MoverLoses Whole whole.Leads s ↔ LosesGame s.side (total (pick Ts ids) +ᵍ num 1 (balance s.purses)))
    decided_by_values s Ts ids keeps long w =
        let (v, seen) = seen_now s keeps (λ j lt. ((w j lt).0, (w j lt).1)) in
        let (trees, on, same) = valued s.board Ts regions ids long (λ j lt. ((w j lt).0, (w j lt).1.1, (w j lt).2)) in
        let d = decided s v seen in
        let money = same-trans _ _ _ (same-sym _ _ (money_same s.purses)) (purses-balance s.purses) in
        let same' : (total trees +ᵍ money_tree s.purses) ≡ᵍ (total (pick Ts ids) +ᵍ num 1 (balance s.purses)) = same-plus _ _ _ _ same money in
        (d.0, (λ x. loses-same s.side _ _ same' ((d.1 trees on).0 x), λ x. (d.1 trees on).1 (loses-same s.side _ _ (same-sym _ _ same') x)))

-- each state that moves reach from an opening is seen as its regions
pub seen_from_opening : (g : Board) (settled : IsSettled g) (regions : List Region) (are : AreRegionsOfPlay g regions) (black white : ℕ) (komi : ℤ)
    (side : Colour) (tax : Bool) (s t : Whole) (ms : List Move) → IsOpening g black white komi side tax s → Plays s ms t
    → (v : State Position) × SeenAs g settled regions are t v
seen_from_opening g settled regions are black white komi side tax s t ms opening plays =
    let start : (j : ℕ) → j < length regions → (cells : List Cell) × HoldsReached g settled regions are s.board j cells = λ j lt.
    let r = region_at regions j in
    let play = are.each r (Contains-get_or regions j no_region lt) in
    (r.cells, (([], refl), subst (HoldsPosition g r r.cells) (sym opening.board) (holds_start g r play play.proper.full))) in
    let (u, seen) = seen_now g settled regions are s (keeps_start g black white komi side tax s opening) start in
    seen_plays g settled regions are s t ms u seen plays

pub decomposes_whole : WholeDecomposes
decomposes_whole g regions black white komi side tax s t ms settled are calm opening plays =
    let (v, seen) = seen_from_opening g settled regions are black white komi side tax s t ms opening plays in
    let d = decided g settled regions are calm t v seen in (
      d.0,
      trees_on g settled regions are calm t.board 0 regions v.parts (λ j lt. ap (region_at regions) (omega arith)) seen.1.count seen.1.shown,
      d.1,
    )

-- Who loses a state with the board of an opening is the sign of the sum of any trees of the regions and of the balance.
pub decided_by_trees : (g : Board) (settled : IsSettled g) (regions : List Region) (are : AreRegionsOfPlay g regions)
    (calm : (r : Region) → Contains regions r → HasNoCycle r.touch r.cells) (t : Whole) (v : State Position) → SeenAs g settled regions are t v
    → (trees : Trees) → AreTreesOn g t.board regions trees
    → (MoverWins Whole whole.Leads t ⊎ MoverLoses Whole whole.Leads t)
    × (MoverLoses Whole whole.Leads t ↔ LosesGame t.side (total trees +ᵍ num 1 (balance t.purses)))
decided_by_trees g settled regions are calm t v seen trees on =
    let d = decided g settled regions are calm t v seen in
    let money = same-plus _ _ _ _ (same-refl (total trees)) (same-trans _ _ _ (same-sym _ _ (money_same t.purses)) (purses-balance t.purses)) in (
      d.0,
      (
        λ x. loses-same t.side _ _ money ((d.1 trees on).0 x),
        λ x. (d.1 trees on).1 (loses-same t.side _ _ (same-sym _ _ money) x),
      ),
    )
