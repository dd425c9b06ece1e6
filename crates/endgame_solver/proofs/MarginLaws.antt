-- By how much a state is won: between which numbers a sum lies, and that halving finds the threshold.
use Rattle.std.proofs.Common.{ℕ, ℤ, ◌≡◌, ◌+◌, ◌*◌, ◌^◌, ◌<◌, ◌≤◌, refl, sym, ap, ◌∙◌, subst, arith, List, [], ◌∷◌, drop, length, get_or, set, pos, negsuc, unsigned_abs, ◌+ℤ◌, ◌-ℤ◌, ◌*ℤ◌, ◌<ℤ◌}
use mir.Val.{SFits, of_z, to_z}
use mir.Syntax.{w64, w128}
use Rattle.std.proofs.lemmas.Int.{fits_signed_from_abs, ints, to_z-of_z, unsigned_abs-mul}
use Rattle.std.proofs.lemmas.List.{drop_all, drop_more}
use Rattle.go_grid.specs.declared.grid.Colour.{Colour}
use Rattle.go_grid.specs.declared.grid.Colour.TheVariants.{Black, White}
use Rattle.short_games.specs.Tree.{Tree, tree_at}
use Rattle.short_games.specs.Number.{num, number_tree}
use Rattle.short_games.specs.Stops.{IsLeftStop, IsRightStop}
use Rattle.short_games.specs.Sum.{◌+ᵍ◌, total}
use Rattle.short_games.specs.TextOrder.{IsCanonicalTree}
use Rattle.short_games.proofs.NumberLaws.{num-zero}
use Rattle.short_games.proofs.StopLaws.{num-scaled, over-right_stop, under-left_stop}
use Rattle.game_canon.specs.Outcomes.{AreWithin}
use Rattle.game_store.specs.Meaning.{pick}
use Rattle.sum_outcome.specs.Sums.{IsBounded}
use Rattle.sum_outcome.proofs.StopLoopLaws.{small_fits}
use Rattle.sum_outcome.proofs.StopSumLaws.{left_stop-number, over-number, over-plus, over-sign, right_stop-number, under-number, under-plus, under-sign}
use Rattle.whole_rules.specs.Opening.{komi_points}
use Rattle.endgame_solver.specs.Thresholds.{BlackWins, IsLeastWin, IsThresholdFrom}
use Rattle.endgame_solver.specs.ModestGames.{AreModestGames, most_value}
use Rattle.endgame_solver.specs.inner.Thresholds.{IsMargin, IsOver, IsUnder, LiesBetween}
use Rattle.endgame_solver.specs.declared.thresholds.StopSums.{StopSums}
use Rattle.go_grid.specs.Board.{Board, other}
use Rattle.go_grid.specs.Region.{Region}
use Rattle.benson_life.specs.Walls.{WallsStand}
use Rattle.whole_rules.specs.declared.money.Purses.{Purses}
use Rattle.whole_rules.specs.declared.states.Move.TheVariants.{Stone}
use Rattle.whole_rules.specs.Purses.{paid_in}
use Rattle.whole_rules.specs.Threshold.{IsThresholdAfter, stones}
use Rattle.whole_rules.specs.Walls.{Plays}
use Rattle.whole_rules.specs.WholeGame.{Whole, IsLegal}
use Rattle.local_graph.specs.declared.graph.Edge.{Edge}
use Rattle.local_graph.specs.Graph.{Graph}
use Rattle.endgame_solver.specs.SumGame.{balance}
use Rattle.endgame_solver.specs.inner.Held.{AreSolvedAt, IsAt, IsStoneEdge, place_at}
use Rattle.endgame_solver.specs.inner.Regions.{IsShown, spot_in}
use Rattle.endgame_solver.specs.inner.Views.{IsHeldInBook, ShowsAll, seen_ids}
use Rattle.endgame_solver.specs.declared.view_book.Book.{Book}
use Rattle.endgame_solver.proofs.HeldLaws.{decided_beside, present, small_bounded, small_values, stone_leads}
use Rattle.endgame_solver.proofs.ThresholdLaws.{AreAlike, IsDecidedBeside, alike_openings, alike_stones, balance_less, least_by, threshold_by}
use Rattle.endgame_solver.proofs.WinningLaws.{stone_is_legal, stone_kept, stone_seen}

-- Between which numbers a game and a sum lie.

pub lies_at : (G : Tree) (most : ℕ) (r l : ℤ) → IsCanonicalTree G → AreWithin most G → IsRightStop 60 G r → IsLeftStop 60 G l
    → LiesBetween G most (record { right = r; left = l })
lies_at G most r l canonical within right left = record {
  over = over-right_stop 60 G r canonical right;
  under = under-left_stop 60 G l canonical left;
  right_small = within r (right_stop-number G r right);
  left_small = within l (left_stop-number G l left);
}

-- a number of parts comes back out of 128 bits
pub units_back : {u r : ℤ} → u ≡ r → unsigned_abs r < 2 ^ 120 → r ≡ to_z w128 (of_z w128 u)
units_back {u} {r} is small = sym is ∙ sym (to_z-of_z w128 u (small_fits u (subst (λ z. unsigned_abs z < 2 ^ 120) (sym is) small)))

pub halves_back : (n : ℤ) → unsigned_abs n ≤ 2 ^ 46 → n ≡ to_z w64 (of_z w64 n)
halves_back n small = sym (to_z-of_z w64 n (fits_signed_from_abs w64 n (omega (arith, small))))

pub left_back : (b least n : ℤ) → unsigned_abs b ≤ 2 ^ 45 → unsigned_abs least ≤ 2 ^ 45
    → n ≡ to_z w128 (of_z w128 b) -ℤ to_z w64 (of_z w64 least) → n ≡ b -ℤ least
left_back b least n small small' is =
    let first : b ≡ to_z w128 (of_z w128 b) = units_back refl (omega (arith, small)) in
    let second = halves_back least (omega (arith, small')) in
    is ∙ (λ i. sym first i -ℤ sym second i)

-- what is known of a sum by the games before a place: numbers between which the others lie, added to their stops
pub record StopsSoFar (Ts : List Tree) (ids : List ℕ) (stops : StopSums) (k : ℕ) : Type 0 where
  pub inside : k ≤ length ids
  pub right_small : unsigned_abs stops.right ≤ k * most_value
  pub left_small : unsigned_abs stops.left ≤ k * most_value
  pub over : (z : ℤ) → IsOver (total (pick Ts (drop k ids))) z → IsOver (total (pick Ts ids)) (stops.right +ℤ z)
  pub under : (z : ℤ) → IsUnder (total (pick Ts (drop k ids))) z → IsUnder (total (pick Ts ids)) (stops.left +ℤ z)

pub stops_start : (Ts : List Tree) (ids : List ℕ) → StopsSoFar Ts ids (record { right = pos 0; left = pos 0 }) 0
stops_start Ts ids = record {
  inside = omega arith;
  right_small = omega arith;
  left_small = omega arith;
  over = λ z o. subst (IsOver (total (pick Ts ids))) (omega (arith, ints)) o;
  under = λ z o. subst (IsUnder (total (pick Ts ids))) (omega (arith, ints)) o;
}

pub size-plus : (y z : ℤ) → unsigned_abs (y +ℤ z) ≤ unsigned_abs y + unsigned_abs z
size-plus y z = omega (arith, ints)

pub stops_next : (Ts : List Tree) (ids : List ℕ) (stops here : StopSums) (k : ℕ) → StopsSoFar Ts ids stops k → k < length ids
    → LiesBetween (tree_at Ts (get_or ids k 0)) most_value here
    → StopsSoFar Ts ids (record { right = stops.right +ℤ here.right; left = stops.left +ℤ here.left }) (k + 1)
unfolding total
stops_next Ts ids stops here k w lt h = record {
  inside = omega (arith, lt);
  right_small = omega (arith, w.right_small, h.right_small, size-plus stops.right here.right);
  left_small = omega (arith, w.left_small, h.left_small, size-plus stops.left here.left);
  over = λ z o. subst (IsOver (total (pick Ts ids))) (omega (arith, ints))
      (w.over (here.right +ℤ z) (rw (drop_more ids k 0 lt) (over-plus G (total (pick Ts (drop (k + 1) ids))) here.right z h.over o)));
  under = λ z o. subst (IsUnder (total (pick Ts ids))) (omega (arith, ints))
      (w.under (here.left +ℤ z) (rw (drop_more ids k 0 lt) (under-plus G (total (pick Ts (drop (k + 1) ids))) here.left z h.under o)));
}
  where
    G : Tree
    G = tree_at Ts (get_or ids k 0)

pub stops_end : (Ts : List Tree) (ids : List ℕ) (stops : StopSums) (k : ℕ) → StopsSoFar Ts ids stops k → length ids ≤ k
    → length ids ≤ 625 → LiesBetween (total (pick Ts ids)) (625 * most_value) stops
unfolding total
stops_end Ts ids stops k w le few = record {
  over = subst (IsOver (total (pick Ts ids))) (omega (arith, ints))
      (w.over (pos 0) (rw (drop_all k ids le) (subst (λ t. IsOver t (pos 0)) (num-zero 60) (over-number (pos 0)))));
  under = subst (IsUnder (total (pick Ts ids))) (omega (arith, ints))
      (w.under (pos 0) (rw (drop_all k ids le) (subst (λ t. IsUnder t (pos 0)) (num-zero 60) (under-number (pos 0)))));
  right_small = omega (arith, w.right_small, few, w.inside);
  left_small = omega (arith, w.left_small, few, w.inside);
}

-- Who wins a sum that lies on one side of 0 beside a number.

-- so many halves of a point, in the parts of a `Dyadic`
abbrev pub in_units : ℤ → ℤ
in_units halves = halves *ℤ pos (2 ^ 59)

pub units_of : {x : ℤ} (halves : ℤ) → unsigned_abs halves ≤ 2 ^ 45 → x ≡ in_units (to_z w64 (of_z w64 halves)) → x ≡ in_units halves
units_of {x} halves small is = is ∙ ap in_units (sym (halves_back halves (omega (arith, small))))

pub beside_units : (G : Tree) (halves x : ℤ) → x ≡ in_units halves → G +ᵍ number_tree x ≡ G +ᵍ num 1 halves
beside_units G halves x is = ap (λ z. G +ᵍ number_tree z) is ∙ ap (λ t. G +ᵍ t) (num-scaled 59 1 halves)

module _ {G : Tree} {most : ℕ} {stops : StopSums} (lies : LiesBetween G most stops) (c : Colour) (halves : ℤ) {x : ℤ}
    (is : x ≡ in_units halves) where
  pub above_wins : pos 0 <ℤ (stops.right +ℤ x) → BlackWins c (G +ᵍ num 1 halves)
  above_wins lt = subst (BlackWins c) (beside_units G halves x is) (at c)
    where
      at : (c : Colour) → BlackWins c (G +ᵍ number_tree x)
      at Black = (over-sign _ _ (over-plus G (number_tree x) stops.right x lies.over (over-number x)) lt).1
      at White = (over-sign _ _ (over-plus G (number_tree x) stops.right x lies.over (over-number x)) lt).0

  pub below_loses : (stops.left +ℤ x) <ℤ pos 0 → ¬ BlackWins c (G +ᵍ num 1 halves)
  below_loses lt = subst (λ t. ¬ BlackWins c t) (beside_units G halves x is) (at c)
    where
      at : (c : Colour) → ¬ BlackWins c (G +ᵍ number_tree x)
      at Black = λ w. w (under-sign _ _ (under-plus G (number_tree x) stops.left x lies.under (under-number x)) lt).0
      at White = (under-sign _ _ (under-plus G (number_tree x) stops.left x lies.under (under-number x)) lt).1

-- the sum fits a search
pub games_bounded : (Ts : List Tree) (ids : List ℕ) (halves x : ℤ) → AreModestGames Ts ids → unsigned_abs halves ≤ 2 ^ 45 → x ≡ in_units halves
    → IsBounded (pick Ts ids) x
games_bounded Ts ids halves x modest small is =
    subst (IsBounded (pick Ts ids)) (sym is)
    (small_bounded most_value Ts ids (in_units halves) (omega arith) modest.few modest.within (omega (arith, small, unsigned_abs-mul halves (pos (2 ^ 59)))))

-- Halving.

-- so many halves of a point above -2 ^ 45
abbrev pub above_least : ℕ → ℤ
above_least n = pos n -ℤ pos (2 ^ 45)

-- Black doesn't win beside the first of the two numbers, and wins beside the second
pub record IsBetween (G : Tree) (c : Colour) (lost won : ℕ) : Type 0 where
  pub order : lost < won
  pub most : won ≤ 2 ^ 46
  pub loses : ¬ BlackWins c (G +ᵍ num 1 (above_least lost))
  pub wins : BlackWins c (G +ᵍ num 1 (above_least won))

pub between_start : (G : Tree) (c : Colour) (stops : StopSums) → LiesBetween G (625 * most_value) stops → IsBetween G c 0 (2 ^ 46)
between_start G c stops lies = record {
  order = omega arith;
  most = omega arith;
  loses = below_loses lies c (above_least 0) refl (omega (arith, ints, lies.left_small));
  wins = above_wins lies c (above_least (2 ^ 46)) refl (omega (arith, ints, lies.right_small));
}

pub between_end : (G : Tree) (c : Colour) (lost won : ℕ) (least : ℤ) → IsBetween G c lost won → won ≤ lost + 1 → least ≡ above_least won
    → IsLeastWin c G least
between_end G c lost won least w le is =
    subst (IsLeastWin c G) (sym is)
    (least_by c G (above_least won) (subst (λ z. ¬ BlackWins c (G +ᵍ num 1 z)) (before (w.order) le) w.loses) w.wins)
  where
    before : lost < won → won ≤ lost + 1 → above_least lost ≡ above_least won -ℤ pos 1
    before lt le = omega (arith, ints, lt, le)

pub least_small : (n : ℕ) (least : ℤ) → n ≤ 2 ^ 46 → least ≡ above_least n → unsigned_abs least ≤ 2 ^ 46
least_small n least le is = omega (arith, ints, le, is)

-- By how much a solved game is won.

-- what is left of a balance, and what was taken from it
pub taken_back : (b n : ℤ) → n ≡ b -ℤ (b -ℤ n)
taken_back b n = omega (arith, ints)

pub taken_least : (b least n : ℤ) → n ≡ b -ℤ least → least ≡ b -ℤ n
taken_least b least n e = omega (arith, ints, e)

added : (b k least n : ℤ) → n ≡ b -ℤ least → (b +ℤ k) -ℤ least ≡ k +ℤ n
added b k least n e = omega (arith, ints, e)

-- a state with the board and the contested points of another one holds the same positions
at_alike : {g : Board} {regions : List Region} {graphs : List Graph} {places : List ℕ} {gap : ℤ} {t u : Whole} → IsAt g regions graphs places t
    → AreAlike gap t u → IsAt g regions graphs places u
at_alike {g} {regions} {graphs} {places} at alike = record {
  many = at.many;
  walls = subst (WallsStand g) alike.board at.walls;
  contested = λ q. (λ m. (at.contested q).0 ((alike.contested q).1 m), λ c. (alike.contested q).0 ((at.contested q).1 c));
  shown = λ k lt. subst (λ h. IsShown g regions graphs h k (spot_in k (place_at places k))) alike.board (at.shown k lt);
}

module _ {regions : List Region} {graphs : List Graph} {values : List (List ℕ)} {places ids : List ℕ} {Ts : List Tree} {t : Whole}
    (kept : AreSolvedAt regions graphs values places ids Ts t) where
  pub modest_games : AreModestGames Ts ids
  modest_games = record {
    known = λ j lt. ((present kept.solved kept.at ids kept.summed).each j (omega (arith, lt, kept.summed.many))).2.0;
    few = omega (arith, kept.summed.many, kept.solved.few);
    within = λ j lt y number. omega (arith, small_values kept.solved kept.at ids kept.summed j lt y number);
  }

  -- the sum of the present values decides each state that is alike
  decided_alike : {gap : ℤ} {u : Whole} → AreAlike gap t u → IsDecidedBeside (total (pick Ts ids)) u
  decided_alike alike = let at = at_alike kept.at alike in decided_beside kept.solved at ids (present kept.solved at ids kept.summed)

  -- the margin is the balance less the least number that wins
  pub margin_is : (c : Colour) (least n : ℤ) → IsLeastWin c (total (pick Ts ids)) least → n ≡ balance t.purses -ℤ least → IsMargin t c [] n
  margin_is c least n is e x k o = subst (IsThresholdAfter x c []) (added (balance t.purses) k least n e)
      (threshold_by x c c [] (total (pick Ts ids)) (balance t.purses +ℤ k) least is (λ l u v p same.
      let alike = alike_openings x k l t.side c t u o p in
      subst (λ z. IsDecidedBeside (total (pick Ts ids)) z × (z.side ≡ c) × (balance z.purses ≡ (balance t.purses +ℤ k) -ℤ l)) same
      (decided_alike alike, p.turn, balance_less (balance u.purses) (balance t.purses) k l alike.balance_is)))

  -- after stones it is that of the state that they lead to
  pub margin_after : (s : Whole) (ps : List ℕ) → Plays s (stones ps) t → (least n : ℤ) → IsLeastWin t.side (total (pick Ts ids)) least
      → n ≡ balance t.purses -ℤ least → IsMargin s s.side ps n
  margin_after s ps plays least n is e x k o = subst (IsThresholdAfter x s.side ps) (added (balance t.purses) k least n e)
      (threshold_by x s.side t.side ps (total (pick Ts ids)) (balance t.purses +ℤ k) least is (λ l u v p plays'.
      let (alike, turn) = alike_stones (l -ℤ k) ps s u t v (alike_openings x k l s.side s.side s u o p) (sym p.turn) plays plays' in
      (decided_alike alike, sym turn, balance_less (balance v.purses) (balance t.purses) k l alike.balance_is)))

-- the margin of a stone that the book shows
module _ {regions rs : List Region} {book : Book} {places ps ids : List ℕ} {Ts : List Tree} {s : Whole} (held : IsHeldInBook regions book places ids Ts s)
    (lent : rs ≡ regions) (at : ps ≡ places) {d : Colour} (side : d ≡ s.side) {p k : ℕ} {e : Edge}
    (found : (graphs : List Graph) (values : List (List ℕ)) → ShowsAll book graphs values (length rs) → IsStoneEdge rs graphs ps d p k e)
    {v : ℕ} (value : v ≡ get_or (seen_ids book k) e.next 0) where
  pub stone_games : AreModestGames Ts (set ids k v)
  stone_games =
      let (t, move) = stone_is_legal held lent at side found value in
      modest_games (stone_kept held lent at side found value t move)

  pub stone_margin : {n : ℕ} {m : Purses} {o : Colour} (least beyond : ℤ) → n ≡ e.taken → m ≡ paid_in d n s.purses → o ≡ other d
      → IsLeastWin o (total (pick Ts (set ids k v))) least → beyond ≡ balance m -ℤ least
      → IsLegal s (Stone p) × IsMargin s s.side (p ∷ []) beyond
  stone_margin {n} {m} {o} least beyond taken paid turn is e' =
      let (t, move) = stone_is_legal held lent at side found value in
      let leads = stone_leads held.kept.solved held.kept.at t (stone_seen held lent at side found) move in
      let purses = paid ∙ (λ i. paid_in (side i) (taken i) s.purses) ∙ sym leads.purses in
      let mover = turn ∙ ap other side ∙ sym leads.turn in
      let there = subst (λ c. IsLeastWin c (total (pick Ts (set ids k v))) least) mover is in (
        (t, move),
        margin_after (stone_kept held lent at side found value t move) s (p ∷ []) (t, move, refl) least beyond there
            (e' ∙ ap (λ z. balance z -ℤ least) purses),
      )

-- The threshold is the komi and the margin.

-- a purse that holds few points holds a small komi
pub komi_small : (k : ℤ) (b w x y : ℕ) → b ≡ x + komi_points Black k → w ≡ y + komi_points White k → b ≤ 2 ^ 41 → w ≤ 2 ^ 41 → unsigned_abs k ≤ 2 ^ 43
komi_small (pos n) b w x y eb ew lb lw = omega (arith, ew, lw)
komi_small (negsuc n) b w x y eb ew lb lw = omega (arith, eb, lb)

-- the komi and the margin come back out of 64 bits, where they fit
pub raised_back : (k n r : ℤ) → SFits w64 k → unsigned_abs n ≤ 2 ^ 46
    → (unsigned_abs (to_z w64 (of_z w64 k) +ℤ to_z w64 (of_z w64 n)) < 2 ^ 63 → r ≡ to_z w64 (of_z w64 k) +ℤ to_z w64 (of_z w64 n))
    → unsigned_abs (k +ℤ n) < 2 ^ 63 → to_z w64 (of_z w64 r) ≡ k +ℤ n
raised_back k n r komi small is fits =
    let there = subst (λ T. T) (λ i. unsigned_abs (to_z-of_z w64 k komi i +ℤ sym (halves_back n small) i) < 2 ^ 63
    → r ≡ to_z-of_z w64 k komi i +ℤ sym (halves_back n small) i) is fits in
    ap (λ z. to_z w64 (of_z w64 z)) there ∙ to_z-of_z w64 (k +ℤ n) (fits_signed_from_abs w64 (k +ℤ n) fits)

pub threshold_from : {regions : List Region} {graphs : List Graph} {values : List (List ℕ)} {places ids : List ℕ} {Ts : List Tree} {s : Whole}
    → AreSolvedAt regions graphs values places ids Ts s → (c : Colour) (ps : List ℕ) (k n K : ℤ) → unsigned_abs n ≤ 2 ^ 46
    → (unsigned_abs (k +ℤ n) < 2 ^ 63 → K ≡ k +ℤ n) → IsMargin s c ps n → IsThresholdFrom s k c ps K
threshold_from {s = s} kept c ps k n K small is margin x o =
    let room = kept.room.room in
    let few = komi_small k s.purses.black s.purses.white _ _ o.black.2 o.white.2 (omega (arith, room Black)) (omega (arith, room White)) in
    subst (IsThresholdAfter x c ps) (sym (is (omega (arith, ints, few, small, size-plus k n)))) (margin x k o)
