-- On a settled board without a cycle there is exactly one threshold, and it stands in the sum of the regions' trees.
use Rattle.std.proofs.Common.{ℕ, ℤ, ◌≡◌, ◌↔◌, refl, sym, ◌∙◌, subst, arith, List, [], pos, ◌+ℤ◌, ◌-ℤ◌, ◌≤ℤ◌}
use Rattle.std.proofs.lemmas.Int.{ints}
use Rattle.go_grid.specs.declared.grid.Colour.{Colour}
use Rattle.go_grid.specs.declared.grid.Colour.TheVariants.{Black, White}
use Rattle.go_grid.specs.Region.{Region}
use Rattle.whole_rules.specs.OpeningWith.{Ground, OpensWith}
use Rattle.whole_rules.specs.Threshold.{IsThreshold, IsThresholdAfter, stones}
use Rattle.whole_rules.specs.Walls.{Plays}
use Rattle.whole_rules.specs.WholeGame.{Whole}
use Rattle.whole_rules.proofs.OpeningLaws.{opens_with_each}
use Rattle.whole_rules.proofs.WallLaws.{keeps_plays, keeps_start}
use Rattle.short_games.specs.Tree.{Tree}
use Rattle.short_games.specs.Number.{num}
use Rattle.short_games.specs.Sum.{◌+ᵍ◌, total}
use Rattle.endgame_solver.specs.Decomposition.{AreTreesOn}
use Rattle.endgame_solver.specs.SumGame.{balance}
use Rattle.endgame_solver.specs.Thresholds.{BlackWins, FirstMoveCostsAHalf, HasOne, IsGreatest, IsLeastWin, IsWithoutCycle, ThresholdIsInSum, ThresholdsExist}
use Rattle.endgame_solver.proofs.ThresholdLaws.{IsDecidedBeside, alike_openings, alike_stones, balance_less, one_threshold, opening_balance, some_least, threshold_by, wins_first}
use Rattle.endgame_solver.proofs.WholeLaws.{decided_alike, decided_by_trees, seen_from_opening}

module _ (x : Ground) (regions : List Region) (calm : IsWithoutCycle x regions) where
  -- one game decides all states that the same stones reach from openings
  decided_after : (k : ℤ) (c : Colour) (s t : Whole) (ps : List ℕ) → OpensWith x k c s → Plays s (stones ps) t
      → (G : Tree) × ((l : ℤ) (u v : Whole) → OpensWith x l c u → Plays u (stones ps) v
      → IsDecidedBeside G v × (v.side ≡ t.side) × (balance v.purses ≡ (balance t.purses +ℤ k) -ℤ l))
  decided_after k c s t ps o plays =
      let (parts, seen) = seen_from_opening x.board calm.settled regions calm.are_regions x.black_prisoners x.white_prisoners k c x.tax s t (stones ps) o plays in (
        _,
        λ l u v p plays'.
            let (alike, turn) = alike_stones (l -ℤ k) ps s u t v (alike_openings x k l c c s u o p) (o.turn ∙ sym p.turn) plays plays' in
            let keeps = keeps_plays x.board calm.settled u v (stones ps)
            (keeps_start x.board x.black_prisoners x.white_prisoners l c x.tax u p) plays' in (
              decided_alike x.board calm.settled regions calm.are_regions calm.no_cycle t parts seen v keeps (sym alike.board),
              sym turn,
              balance_less (balance v.purses) (balance t.purses) k l alike.balance_is,
            ),
      )

  -- one game decides all openings
  decided_openings : (k : ℤ) (c : Colour) (s : Whole) → OpensWith x k c s
      → (G : Tree) × ((l : ℤ) (d : Colour) (u : Whole) → OpensWith x l d u → IsDecidedBeside G u)
  decided_openings k c s o =
      let (parts, seen) = seen_from_opening x.board calm.settled regions calm.are_regions x.black_prisoners x.white_prisoners k c x.tax s s [] o refl in (
        _,
        λ l d u p. decided_alike x.board calm.settled regions calm.are_regions calm.no_cycle s parts seen u
            (keeps_start x.board x.black_prisoners x.white_prisoners l d x.tax u p) (p.board ∙ sym o.board),
      )

  exactly_one : (k : ℤ) (c : Colour) (s t : Whole) (ps : List ℕ) → OpensWith x k c s → Plays s (stones ps) t → HasOne (IsThresholdAfter x c ps)
  exactly_one k c s t ps o plays =
      let (G, each) = decided_after k c s t ps o plays in
      let (least, is) = some_least t.side G in
      let K = (balance t.purses +ℤ k) -ℤ least in
      let found = threshold_by x c t.side ps G (balance t.purses +ℤ k) least is each in
      (K, found, λ L other. one_threshold x c ps k s t o plays K L found other)

  -- the threshold where a game decides the openings
  beside_game : (k : ℤ) (e : Colour) (s : Whole) → OpensWith x k e s → (G : Tree) → ((l : ℤ) (d : Colour) (u : Whole) → OpensWith x l d u → IsDecidedBeside G u)
      → (b : ℤ) × ((l : ℤ) (d : Colour) (u : Whole) → OpensWith x l d u → balance u.purses ≡ b -ℤ l)
      × ((c : Colour) (least K : ℤ) → IsLeastWin c G least → IsThreshold x c K ↔ (K ≡ b -ℤ least))
  beside_game k e s o G decided =
      let (b, money) = opening_balance x k e s o in
      let found = λ (c : Colour) (least : ℤ) (is : IsLeastWin c G least). threshold_by x c c [] G b least is (λ l u v p same.
      subst (λ z. IsDecidedBeside G z × (z.side ≡ c) × (balance z.purses ≡ b -ℤ l)) same (decided l c u p, p.turn, money l c u p)) in (
        b,
        money,
        λ c least K is. (
          λ h. (let (u, p) = opens_with_each x k k e c s o in one_threshold x c [] k u u p refl (b -ℤ least) K (found c least is) h),
          λ same. subst (IsThreshold x c) (sym same) (found c least is),
        ),
      )

pub thresholds_exist : ThresholdsExist
thresholds_exist x regions k c s t ps calm o plays = exactly_one x regions calm k c s t ps o plays

pub first_move_costs_a_half : FirstMoveCostsAHalf
first_move_costs_a_half x regions k c s K L calm o black white =
    let (G, decided) = decided_openings x regions calm k c s o in
    let (b, money, threshold) = beside_game x regions calm k c s o G decided in
    let (first, is) = some_least Black G in
    let (second, is') = some_least White G in
    let less : first ≤ℤ (second +ℤ pos 1) = (is (second +ℤ pos 1)).0 (wins_first G second ((is' second).1 (omega (arith, ints)))) in
    shifted b first second K L less ((threshold Black first K is).0 black) ((threshold White second L is').0 white)
  where
    shifted : (b y z K L : ℤ) → y ≤ℤ (z +ℤ pos 1) → K ≡ b -ℤ y → L ≡ b -ℤ z → L ≤ℤ (K +ℤ pos 1)
    shifted b y z K L le e f = omega (arith, ints, le, e, f)

pub threshold_is_in_sum : ThresholdIsInSum
threshold_is_in_sum x regions trees c s K calm on o =
    let G = total trees in
    let decided : (l : ℤ) (d : Colour) (u : Whole) → OpensWith x l d u → IsDecidedBeside G u = λ l d u p.
    let (parts, seen) = seen_from_opening x.board calm.settled regions calm.are_regions x.black_prisoners x.white_prisoners l d x.tax u u [] p refl in
    decided_by_trees x.board calm.settled regions calm.are_regions calm.no_cycle u parts seen trees
    (subst (λ h. AreTreesOn x.board h regions trees) (sym p.board) on) in
    let (b, money, threshold) = beside_game x regions calm (pos 0) c s o G decided in
    let (least, is) = some_least c G in
    let start : balance s.purses ≡ b = money (pos 0) c s o ∙ omega (arith, ints) in
    let wins : (k : ℤ) → BlackWins c (G +ᵍ num 1 (balance s.purses -ℤ k)) ↔ (k ≤ℤ (b -ℤ least)) = λ k. (
      λ w. below (balance s.purses) b k least start ((is (balance s.purses -ℤ k)).0 w),
      λ le. (is (balance s.purses -ℤ k)).1 (above (balance s.purses) b k least start le),
    ) in (
      λ h. subst (IsGreatest (λ k. BlackWins c (G +ᵍ num 1 (balance s.purses -ℤ k)))) (sym ((threshold c least K is).0 h))
          ((wins (b -ℤ least)).1 (omega (arith, ints)), λ k w. (wins k).0 w),
      λ (won, most). (threshold c least K is).1 (same K (b -ℤ least) ((wins K).0 won) (most (b -ℤ least) ((wins (b -ℤ least)).1 (omega (arith, ints))))),
    )
  where
    below : (a b k y : ℤ) → a ≡ b → y ≤ℤ (a -ℤ k) → k ≤ℤ (b -ℤ y)
    below a b k y e le = omega (arith, ints, e, le)

    above : (a b k y : ℤ) → a ≡ b → k ≤ℤ (b -ℤ y) → y ≤ℤ (a -ℤ k)
    above a b k y e le = omega (arith, ints, e, le)

    same : (a b : ℤ) → a ≤ℤ b → b ≤ℤ a → a ≡ b
    same a b e f = omega (arith, ints, e, f)
