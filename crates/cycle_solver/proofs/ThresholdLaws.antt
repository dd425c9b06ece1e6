-- Thresholds where kos can arise: who wins beside a game, that there is exactly one threshold for each player, and how they lie.
use Rattle.std.proofs.Common.{ℕ, ℤ, suc, ◌≡◌, ◌↔◌, ◌<◌, inl, inr, refl, sym, ◌∙◌, subst, arith, List, [], ◌∷◌, length, get_or, pos, Contains, ◌+ℤ◌, ◌-ℤ◌, ◌<ℤ◌, ◌≤ℤ◌}
use Rattle.std.proofs.lemmas.Int.{ints, by_lt_z}
use Rattle.go_grid.specs.declared.grid.Cell.{Cell}
use Rattle.go_grid.specs.declared.grid.Colour.{Colour}
use Rattle.go_grid.specs.declared.grid.Colour.TheVariants.{Black, White}
use Rattle.go_grid.specs.Board.{Board}
use Rattle.go_grid.specs.Region.{Region}
use Rattle.region_cut.specs.LocalBoard.{HoldsPosition}
use Rattle.whole_rules.specs.FirstWinningMove.{IsWinner}
use Rattle.whole_rules.specs.OpeningWith.{Ground, OpensWith}
use Rattle.whole_rules.specs.Threshold.{stones}
use Rattle.whole_rules.specs.Walls.{Plays}
use Rattle.whole_rules.specs.WholeGame.{Whole}
use Rattle.whole_rules.proofs.PlainLaws.{one_winner}
use Rattle.whole_rules.proofs.OpeningLaws.{opens_with_each}
use Rattle.short_games.specs.Tree.{Tree, Trees, none, more}
use Rattle.short_games.specs.Number.{num}
use Rattle.short_games.specs.Sum.{◌+ᵍ◌, total}
use Rattle.short_games.proofs.OrderLaws.{same-refl}
use Rattle.game_players.proofs.PlayerLaws.{loses-or_not}
use Rattle.local_trees.specs.Steady.{IsSteady}
use Rattle.local_trees.proofs.BudgetTreeLaws.{budget_trees-exist}
use Rattle.endgame_solver.specs.Regions.{no_region}
use Rattle.endgame_solver.specs.SumGame.{balance}
use Rattle.endgame_solver.specs.Thresholds.{BlackWins, HasOne, IsLeastWin}
use Rattle.endgame_solver.proofs.ThresholdLaws.{alike_openings, alike_stones, balance_less, opening_balance, some_least, stones_serve, wins_first}
use Rattle.whole_budgets.specs.BudgetSums.{AreSteadyTreesOn, WinsGame}
use Rattle.whole_budgets.proofs.BudgetPlayLemmas.{other_not}
use Rattle.whole_budgets.proofs.BudgetSumLaws.{keeps_from, reached_from, winner_by_sum}
use Rattle.cycle_solver.specs.Thresholds.{BothThresholdsExist, IsGoodFor, IsSteadyGround, IsThresholdFor, MovingFirstCostsAHalf, ThresholdsAreInOrder}
use Rattle.cycle_solver.proofs.SumLaws.{beside}

-- Who wins a game beside a number.

-- Black wins where Black wins, and White wins where Black doesn't
abbrev pub WinsHere : Colour → Colour → Tree → Type 0
WinsHere Black c G = BlackWins c G
WinsHere White c G = ¬ BlackWins c G

pub wins_here : (d c : Colour) (G : Tree) → WinsGame d c G ↔ WinsHere d c G
wins_here Black Black G = (
  λ w. elim w [ inl (same, f) ↦ f | inr (same, l) ↦ absurd (other_not Black same) ],
  λ f. inl (refl, f),
)
wins_here Black White G = (
  λ w. elim w [ inl (same, f) ↦ absurd (other_not Black same) | inr (same, l) ↦ l ],
  λ l. inr (refl, l),
)
wins_here White White G = (
  λ w. elim w [ inl (same, f) ↦ f | inr (same, l) ↦ absurd (other_not White same) ],
  λ f. inl (refl, f),
)
wins_here White Black G = (
  λ w. elim w [ inl (same, f) ↦ absurd (other_not White same) | inr (same, l) ↦ λ f. f l ],
  λ f. elim (loses-or_not Black G) [ inl l ↦ inr (refl, l) | inr not ↦ absurd (f not) ],
)

-- the player wins the state exactly where the game beside the balance of the purses says so
abbrev pub IsWonBeside : Colour → Tree → Whole → Type 0
IsWonBeside d G t = IsWinner t d ↔ WinsGame d t.side (G +ᵍ num 1 (balance t.purses))

turned : (b least k : ℤ) → least ≤ℤ (b -ℤ k) ↔ k ≤ℤ (b -ℤ least)
turned b least k = (λ h. omega (arith, ints, h), λ h. omega (arith, ints, h))

past : (b least k : ℤ) → least ≤ℤ (b -ℤ k) → (b -ℤ least) <ℤ k → ⊥
past b least k h lt = omega (arith, ints, h, lt)

-- the komi is on the player's side of the threshold exactly where the player wins beside what the komi leaves
pub good_here : (d e : Colour) (G : Tree) (b least k : ℤ) → IsLeastWin e G least → WinsHere d e (G +ᵍ num 1 (b -ℤ k)) ↔ IsGoodFor d (b -ℤ least) k
good_here Black e G b least k is = (
  λ w. (turned b least k).0 ((is (b -ℤ k)).0 w),
  λ h. (is (b -ℤ k)).1 ((turned b least k).1 h),
)
good_here White e G b least k is = (
  λ not. by_lt_z (b -ℤ least) k (λ lt. lt) (λ le. absurd (not ((is (b -ℤ k)).1 ((turned b least k).1 le)))),
  λ lt w. past b least k ((is (b -ℤ k)).0 w) lt,
)

-- where a game decides each state that is reached by the stones, the player's threshold is found beside it
pub threshold_beside : (d : Colour) (x : Ground) (c e : Colour) (ps : List ℕ) (G : Tree) (b least : ℤ) → IsLeastWin e G least
    → ((k : ℤ) (s t : Whole) → OpensWith x k c s → Plays s (stones ps) t → IsWonBeside d G t × (t.side ≡ e) × (balance t.purses ≡ b -ℤ k))
    → IsThresholdFor d x c ps (b -ℤ least)
threshold_beside d x c e ps G b least is each k s t o plays =
    let (won, turn, money) = each k s t o plays in
    let there : IsWinner t d ↔ WinsGame d e (G +ᵍ num 1 (b -ℤ k)) =
    subst (λ T. IsWinner t d ↔ T) (λ i. WinsGame d (turn i) (G +ᵍ num 1 (money i))) won in
    let here = wins_here d e (G +ᵍ num 1 (b -ℤ k)) in
    let good = good_here d e G b least k is in
    (λ w. good.0 (here.0 (there.0 w)), λ g. there.1 (here.1 (good.1 g)))

-- Two thresholds of a player are one.

-- a komi that is just on the player's side
abbrev just_good : Colour → ℤ → ℤ
just_good Black A = A
just_good White A = A +ℤ pos 1

is_good : (d : Colour) (A : ℤ) → IsGoodFor d A (just_good d A)
is_good Black A = omega (arith, ints)
is_good White A = omega (arith, ints)

both_good : (d : Colour) (A B : ℤ) → IsGoodFor d B (just_good d A) → IsGoodFor d A (just_good d B) → B ≡ A
both_good Black A B g h = omega (arith, ints, g, h)
both_good White A B g h = omega (arith, ints, g, h)

pub one_threshold_for : (d : Colour) (x : Ground) (c : Colour) (ps : List ℕ) (k : ℤ) (s t : Whole) → OpensWith x k c s → Plays s (stones ps) t
    → (K L : ℤ) → IsThresholdFor d x c ps K → IsThresholdFor d x c ps L → L ≡ K
one_threshold_for d x c ps k s t o plays K L is is' =
    let good : (A B : ℤ) → IsThresholdFor d x c ps A → IsThresholdFor d x c ps B → IsGoodFor d B (just_good d A) = λ A B a b.
    let (u, p) = opens_with_each x k (just_good d A) c c s o in
    let (v, plays') = stones_serve x k (just_good d A) c s t u ps o plays p in
    (b (just_good d A) u v p plays').0 ((a (just_good d A) u v p plays').1 (is_good d A)) in
    both_good d K L (good K L is is') (good L K is' is)

-- Trees of what the board of a ground holds.

steady_trees : (g h : Board) (d : Colour) (rs : List Region)
    → ((j : ℕ) → j < length rs → (cells : List Cell) × HoldsPosition g (get_or rs j no_region) cells h)
    → ((r : Region) → Contains rs r → (j : ℕ) × IsSteady r.touch r.cells d j) → (trees : Trees) × AreSteadyTreesOn g h d rs trees
steady_trees g h d [] held steady = (none, tt)
steady_trees g h d (r ∷ rs) held steady =
    let (cells, holds) = held 0 (omega arith) in
    let (j, is) = steady r (0, omega arith, refl) in
    let (G, tree) = budget_trees-exist r.touch d _ j cells in
    let (trees, on) = steady_trees g h d rs (λ i lt. held (suc i) (omega (arith, lt))) (λ q (i, lt, at). steady q (suc i, omega (arith, lt), at)) in
    (more G trees, ((cells, holds, (j, is, tree)), on))

module _ (d : Colour) (x : Ground) (regions : List Region) (steady : IsSteadyGround x regions) where
  -- one game decides all states with the board of one that stones reach from an opening
  decides : (k : ℤ) (c : Colour) (s t : Whole) (ps : List ℕ) → OpensWith x k c s → Plays s (stones ps) t
      → (G : Tree) × ((l : ℤ) (e : Colour) (u v : Whole) (qs : List ℕ) → OpensWith x l e u → Plays u (stones qs) v → v.board ≡ t.board
      → IsWonBeside d G v)
  decides k c s t ps o plays =
      let g = x.board in
      let reached = reached_from g steady.settled regions steady.are_regions x.black_prisoners x.white_prisoners k c x.tax s t (stones ps) o plays in
      let (trees, on) = steady_trees g t.board d regions (λ j lt. ((reached j lt).0, (reached j lt).1.1)) (λ r h. steady.steady r h d) in (
        total trees,
        λ l e u v qs p plays' same.
            let sum = winner_by_sum g steady.settled regions steady.are_regions d v
            (keeps_from g steady.settled regions steady.are_regions x.black_prisoners x.white_prisoners l e x.tax u v (stones qs) p plays')
            (reached_from g steady.settled regions steady.are_regions x.black_prisoners x.white_prisoners l e x.tax u v (stones qs) p plays')
            trees (subst (λ h. AreSteadyTreesOn g h d regions trees) (sym same) on) in
            let money = beside d v.side (total trees) (total trees) v.purses (same-refl (total trees)) in
            (λ w. money.0 (sum.0 w), λ w. sum.1 (money.1 w)),
      )

  exactly_one : (k : ℤ) (c : Colour) (s t : Whole) (ps : List ℕ) → OpensWith x k c s → Plays s (stones ps) t → HasOne (IsThresholdFor d x c ps)
  exactly_one k c s t ps o plays =
      let (G, won) = decides k c s t ps o plays in
      let (least, is) = some_least t.side G in
      let found = threshold_beside d x c t.side ps G (balance t.purses +ℤ k) least is (λ l u v p plays'.
      let (alike, turn) = alike_stones (l -ℤ k) ps s u t v (alike_openings x k l c c s u o p) (o.turn ∙ sym p.turn) plays plays' in
      (won l c u v ps p plays' (sym alike.board), sym turn, balance_less (balance v.purses) (balance t.purses) k l alike.balance_is)) in
      ((balance t.purses +ℤ k) -ℤ least, found, λ L other_one. one_threshold_for d x c ps k s t o plays ((balance t.purses +ℤ k) -ℤ least) L found other_one)

  moving_first : (k : ℤ) (c : Colour) (s : Whole) (K L : ℤ) → OpensWith x k c s → IsThresholdFor d x Black [] K → IsThresholdFor d x White [] L
      → L ≤ℤ (K +ℤ pos 1)
  moving_first k c s K L o black white =
      let (G, won) = decides k c s s [] o refl in
      let (b, money) = opening_balance x k c s o in
      let found : (e : Colour) (least : ℤ) → IsLeastWin e G least → IsThresholdFor d x e [] (b -ℤ least) = λ e least is.
      threshold_beside d x e e [] G b least is (λ l u v p same.
      subst (λ z. IsWonBeside d G z × (z.side ≡ e) × (balance z.purses ≡ b -ℤ l)) same
      (won l e u u [] p refl (p.board ∙ sym o.board), p.turn, money l e u p)) in
      let (first, is) = some_least Black G in
      let (second, is') = some_least White G in
      let less : first ≤ℤ (second +ℤ pos 1) = (is (second +ℤ pos 1)).0 (wins_first G second ((is' second).1 (omega (arith, ints)))) in
      let (u, p) = opens_with_each x k k c Black s o in
      let (v, q) = opens_with_each x k k c White s o in
      shifted b first second K L less (one_threshold_for d x Black [] k u u p refl (b -ℤ first) K (found Black first is) black)
      (one_threshold_for d x White [] k v v q refl (b -ℤ second) L (found White second is') white)
    where
      shifted : (b y z K L : ℤ) → y ≤ℤ (z +ℤ pos 1) → K ≡ b -ℤ y → L ≡ b -ℤ z → L ≤ℤ (K +ℤ pos 1)
      shifted b y z K L le e f = omega (arith, ints, le, e, f)

pub both_thresholds_exist : BothThresholdsExist
both_thresholds_exist d x regions k c s t ps steady o plays = exactly_one d x regions steady k c s t ps o plays

pub moving_first_costs_a_half : MovingFirstCostsAHalf
moving_first_costs_a_half d x regions k c s K L steady o black white = moving_first d x regions steady k c s K L o black white

pub thresholds_are_in_order : ThresholdsAreInOrder
thresholds_are_in_order x k c s t ps K L o plays black white = by_lt_z L K (λ lt.
    let (u, p) = opens_with_each x k K c c s o in
    let (v, plays') = stones_serve x k K c s t u ps o plays p in
    absurd (let wrong = one_winner v Black White ((black K u v p plays').1 (omega (arith, ints))) ((white K u v p plays').1 lt) in cc)) (λ le. le)
