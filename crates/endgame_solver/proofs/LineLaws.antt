-- No stone has a better threshold than the state in which it is played, and the best stone in a hot region has that threshold. So a
-- line loses nothing.
use Rattle.std.proofs.Common.{ℕ, ℤ, suc, ◌≡◌, ◌⊎◌, ◌↔◌, ◌++◌, ◌∷◌, [], inl, inr, refl, sym, ap, ◌∙◌, subst, arith, List, Contains, ◌<◌, ◌≤◌, ◌≤ℤ◌}
use Rattle.std.proofs.lemmas.Bool.{cases_lt}
use Rattle.std.proofs.lemmas.Int.{ints, by_lt_z}
use Rattle.std.proofs.lemmas.List.{append-nil, append_assoc}
use Rattle.go_grid.specs.declared.grid.Colour.{Colour}
use Rattle.go_grid.specs.declared.grid.Colour.TheVariants.{Black, White}
use Rattle.go_grid.specs.Board.{other}
use Rattle.go_grid.specs.Marks.{IsMarked}
use Rattle.go_grid.specs.Region.{Region}
use Rattle.whole_rules.specs.declared.states.Move.TheVariants.{Stone}
use Rattle.whole_rules.specs.FirstWinningMove.{IsWinner}
use Rattle.whole_rules.specs.OpeningWith.{Ground, OpensWith}
use Rattle.whole_rules.specs.PlainRecursion.{MoverWins, MoverLoses}
use Rattle.whole_rules.specs.Threshold.{IsThresholdAfter, stones}
use Rattle.whole_rules.specs.Walls.{Plays}
use Rattle.whole_rules.specs.WholeGame.{Whole, IsLegal, IsMove, Leads}
use Rattle.whole_rules.proofs.OpeningLaws.{opens_with_each}
use Rattle.whole_rules.proofs.OutcomeLaws.{wins-not_loses}
use Rattle.whole_rules.proofs.PlainLaws.{move_same}
use Rattle.endgame_solver.specs.PlayLine.{BestStoneLosesNothing, HasOneLine, IsAsGood, IsFirstBestStone, IsHot, IsHotStone, LeadsByBest, LineLosesNothing, NoneIsHot, NoStoneIsBetter}
use Rattle.endgame_solver.specs.Thresholds.{IsWithoutCycle}
use Rattle.endgame_solver.specs.inner.Line.{KeepsThreshold, last_won}
use Rattle.endgame_solver.proofs.SumThresholdLaws.{thresholds_exist}
use Rattle.endgame_solver.proofs.ThresholdLaws.{alike_openings, alike_stones, follow_stones, one_threshold, stones_serve}
use Rattle.endgame_solver.proofs.WholeLaws.{avoids, decomposes_whole, seen_from_opening}

-- the player who moves wins with the first komi where the second is the threshold
abbrev WinsAt : Colour → ℤ → ℤ → Type 0
WinsAt Black k K = k ≤ℤ K
WinsAt White k K = ¬ (k ≤ℤ K)

mover_at : (d : Colour) (t : Whole) (k K : ℤ) → t.side ≡ d → (MoverWins Whole Leads t ⊎ MoverLoses Whole Leads t) → IsWinner t Black ↔ (k ≤ℤ K)
    → MoverWins Whole Leads t ↔ WinsAt d k K
mover_at Black t k K e some w = (
  λ wins. w.0 (inl (sym e, wins)),
  λ le. elim (w.1 le) [ inl (_, wins) ↦ wins | inr (is, _) ↦ absurd (let wrong = is ∙ ap other e in cc) ],
)
mover_at White t k K e some w = (
  λ wins le. elim (w.1 le) [
    | inl (is, _) ↦ absurd (let wrong = is ∙ e in cc)
    | inr (_, loses) ↦ wins-not_loses Whole Leads wins.0 loses.0 t wins.1 loses.1
  ],
  λ not. elim some [ inl wins ↦ wins | inr loses ↦ absurd (not (w.0 (inr (ap other (sym e), loses)))) ],
)

next_at : (d : Colour) (v : Whole) (k L : ℤ) → v.side ≡ other d → (MoverWins Whole Leads v ⊎ MoverLoses Whole Leads v) → IsWinner v Black ↔ (k ≤ℤ L)
    → MoverLoses Whole Leads v ↔ WinsAt d k L
next_at Black v k L e some w = (
  λ loses. w.0 (inr (ap other (sym e), loses)),
  λ le. elim (w.1 le) [ inl (is, _) ↦ absurd (let wrong = is ∙ e in cc) | inr (_, loses) ↦ loses ],
)
next_at White v k L e some w = (
  λ loses le. elim (w.1 le) [
    | inl (_, wins) ↦ wins-not_loses Whole Leads wins.0 loses.0 v wins.1 loses.1
    | inr (is, _) ↦ absurd (let wrong = is ∙ ap other e in cc)
  ],
  λ not. elim some [ inl wins ↦ absurd (not (w.0 (inl (sym e, wins)))) | inr loses ↦ loses ],
)

good_from : (d : Colour) (K L : ℤ) → ((k : ℤ) → WinsAt d k L → WinsAt d k K) → IsAsGood d K L
good_from Black K L f = f L (omega (arith, ints))
good_from White K L f = by_lt_z L K (λ lt. absurd (f K (λ le. omega (arith, ints, lt, le)) (omega (arith, ints)))) (λ le. le)

-- the player who moves wins at the last komi with which it does, and a threshold with which it wins there too is as good
pub wins_last : (d : Colour) (K : ℤ) → WinsAt d (last_won d K) K
wins_last Black K = omega (arith, ints)
wins_last White K = λ le. omega (arith, ints, le)

pub last_good : (d : Colour) (K L : ℤ) → WinsAt d (last_won d K) L → IsAsGood d L K
last_good Black K L w = w
last_good White K L w = by_lt_z K L (λ lt. absurd (w (omega (arith, ints, lt)))) (λ le. le)

stable_good : (d : Colour) (K L : ℤ) → ¬ (¬ IsAsGood d K L) → IsAsGood d K L
stable_good Black K L not = by_lt_z K L (λ lt. absurd (not (λ le. omega (arith, ints, lt, le)))) (λ le. le)
stable_good White K L not = by_lt_z L K (λ lt. absurd (not (λ le. omega (arith, ints, lt, le)))) (λ le. le)

pub as_good : (d : Colour) (K L : ℤ) → IsAsGood d K L → IsAsGood d L K → L ≡ K
as_good Black K L a b = omega (arith, ints, a, b)
as_good White K L a b = omega (arith, ints, a, b)

pub plays_push : (ps : List ℕ) (s t v : Whole) (p : ℕ) → Plays s (stones ps) t → IsMove t (Stone p) v → Plays s (stones (ps ++ p ∷ [])) v
plays_push [] s t v p e m = (v, subst (λ z. IsMove z (Stone p) v) (sym e) m, refl)
plays_push (q ∷ ps) s t v p (u, move, rest) m = (u, move, plays_push ps u t v p rest m)

turn_after : (t v : Whole) (p : ℕ) → IsMove t (Stone p) v → v.side ≡ other t.side
turn_after t v p (mark, (h, (n, placed, number, is))) = ap (λ z. z.side) is

module _ (x : Ground) (regions : List Region) (calm : IsWithoutCycle x regions) (c : Colour) where
  has_winner : (k : ℤ) (s t : Whole) (ps : List ℕ) → OpensWith x k c s → Plays s (stones ps) t → MoverWins Whole Leads t ⊎ MoverLoses Whole Leads t
  has_winner k s t ps o plays =
      (decomposes_whole x.board regions x.black_prisoners x.white_prisoners k c x.tax s t (stones ps) calm.settled calm.are_regions calm.no_cycle o plays).0

  -- the state with another komi
  record With (k : ℤ) (ps : List ℕ) (t : Whole) : Type 0 where
    start : Whole
    state : Whole
    opens : OpensWith x k c start
    plays : Plays start (stones ps) state
    board : t.board ≡ state.board
    marks : (q : ℕ) → IsMarked t.contested q ↔ IsMarked state.contested q
    turn : t.side ≡ state.side

  with_komi : (k l : ℤ) (s t : Whole) (ps : List ℕ) → OpensWith x k c s → Plays s (stones ps) t → With l ps t
  with_komi k l s t ps o plays =
      let (u, p) = opens_with_each x k l c c s o in
      let (v, plays') = stones_serve x k l c s t u ps o plays p in
      let (alike, turn) = alike_stones _ ps s u t v (alike_openings x k l c c s u o p) (o.turn ∙ sym p.turn) plays plays' in
      record { start = u; state = v; opens = p; plays = plays'; board = alike.board; marks = alike.contested; turn = turn }

  module _ {k : ℤ} {ps : List ℕ} {t : Whole} (w : With k ps t) where
    -- a stone of the one state is one of the other
    there : (p : ℕ) → IsLegal t (Stone p) → IsLegal w.state (Stone p)
    there p (v, move) =
        let (z, (v', move', _)) = follow_stones (p ∷ []) t w.state v w.board w.turn (λ q m. (w.marks q).0 m) (v, move, refl) in (v', move')

    back : (p : ℕ) → IsLegal w.state (Stone p) → IsLegal t (Stone p)
    back p (v, move) =
        let (z, (v', move', _)) = follow_stones (p ∷ []) w.state t v (sym w.board) (sym w.turn) (λ q m. (w.marks q).1 m) (v, move, refl) in (v', move')

    mover : (K : ℤ) → IsThresholdAfter x c ps K → MoverWins Whole Leads w.state ↔ WinsAt t.side k K
    mover K is = mover_at t.side w.state k K (sym w.turn) (has_winner k w.start w.state ps w.opens w.plays) (is k w.start w.state w.opens w.plays)

    after_stone : (p : ℕ) (v : Whole) (L : ℤ) → IsMove w.state (Stone p) v → IsThresholdAfter x c (ps ++ p ∷ []) L → MoverLoses Whole Leads v ↔ WinsAt t.side k L
    after_stone p v L move is =
        let plays = plays_push ps w.start w.state v p w.plays move in
        next_at t.side v k L (turn_after w.state v p move ∙ ap other (sym w.turn)) (has_winner k w.start v (ps ++ p ∷ []) w.opens plays)
        (is k w.start v w.opens plays)

pub no_stone_is_better : NoStoneIsBetter
no_stone_is_better x regions k c s t ps p K L calm o plays legal before later = good_from t.side K L (λ l won.
    let w = with_komi x regions calm c k l s t ps o plays in
    let (v, move) = there x regions calm c w p legal in
    let lost = (after_stone x regions calm c w p v L move later).1 won in
    (mover x regions calm c w K before).0 (suc lost.0, (v, (Stone p, move), lost.1)))

-- where some region is hot, a stone in a hot region keeps the threshold
pub some_keeps : (x : Ground) (regions : List Region) (k : ℤ) (c : Colour) (s t : Whole) (ps : List ℕ) (K : ℤ) → IsWithoutCycle x regions
    → OpensWith x k c s → Plays s (stones ps) t → IsThresholdAfter x c ps K → (r : Region) → Contains regions r → IsHot x.board t.board r
    → ((q : ℕ) → ¬ KeepsThreshold x regions c ps t q K) → ⊥
some_keeps x regions k c s t ps K calm o plays before r among hot none =
    let l = last_won t.side K in
    let w = with_komi x regions calm c k l s t ps o plays in
    let wins = (mover x regions calm c w K before).1 (wins_last t.side K) in
    let (parts, seen) = seen_from_opening x.board calm.settled regions calm.are_regions x.black_prisoners x.white_prisoners l c x.tax w.start w.state
    (stones ps) w.opens w.plays in
    avoids x.board calm.settled regions calm.are_regions calm.no_cycle w.state parts r seen among (subst (λ h. IsHot x.board h r) w.board hot)
    (λ lost. wins-not_loses Whole Leads wins.0 lost.0 w.state wins.1 lost.1)
    (λ q v move (r', among', inside', hot') lost.
    let (M, is', _) = thresholds_exist x regions l c w.start v (ps ++ q ∷ []) calm w.opens (plays_push ps w.start w.state v q w.plays move) in
    let legal = back x regions calm c w q (v, move) in
    let worse = last_good t.side K M ((after_stone x regions calm c w q v M move is').0 lost) in
    let better = no_stone_is_better x regions k c s t ps q K M calm o plays legal before is' in
    let stone : IsHotStone x.board regions t q = (legal, (r', among', inside', subst (λ h. IsHot x.board h r') (sym w.board) hot')) in
    none q (stone, subst (IsThresholdAfter x c (ps ++ q ∷ [])) (as_good t.side K M better worse) is'))

pub best_stone_loses_nothing : BestStoneLosesNothing
best_stone_loses_nothing x regions k c s t ps p K calm o plays best before =
    let ((v, move), (r, among, inside, hot)) = best.hot in
    let (L, is, _) = thresholds_exist x regions k c s v (ps ++ p ∷ []) calm o (plays_push ps s t v p plays move) in
    let better = no_stone_is_better x regions k c s t ps p K L calm o plays (v, move) before is in
    let worse = stable_good t.side L K (λ not. some_keeps x regions k c s t ps K calm o plays before r among hot
    (λ q keeps. not (best.best q L K keeps.0 is keeps.1))) in
    subst (IsThresholdAfter x c (ps ++ p ∷ [])) (as_good t.side K L better worse) is

-- the first stone in a hot region that keeps the threshold is the first of the best
pub first_keeps : (x : Ground) (regions : List Region) (k : ℤ) (c : Colour) (s t : Whole) (ps : List ℕ) (p : ℕ) (K : ℤ) → IsWithoutCycle x regions
    → OpensWith x k c s → Plays s (stones ps) t → IsThresholdAfter x c ps K → KeepsThreshold x regions c ps t p K
    → ((q : ℕ) → q < p → ¬ KeepsThreshold x regions c ps t q K) → IsFirstBestStone x regions c ps t p
first_keeps x regions k c s t ps p K calm o plays before keeps none =
    let (v, move) = keeps.0.0 in
    let after = plays_push ps s t v p plays move in
    record {
      best = record {
        hot = keeps.0;
        best = λ q A L hot own others. subst (λ z. IsAsGood t.side z L) (one_threshold x c (ps ++ p ∷ []) k s v o after A K own keeps.1)
            (no_stone_is_better x regions k c s t ps q K L calm o plays hot.0 before others);
      };
      first = λ q best. elim (cases_lt q p) as (λ _. p ≤ q) [
        | inl lt ↦ absurd (none q lt (best.hot, best_stone_loses_nothing x regions k c s t ps q K calm o plays best before))
        | inr le ↦ le
      ];
    }

-- Lines.

pub line_push : (x : Ground) (regions : List Region) (c : Colour) (ps qs : List ℕ) (s t u : Whole) (q : ℕ) → LeadsByBest x regions c ps s qs t
    → IsFirstBestStone x regions c (ps ++ qs) t q → IsMove t (Stone q) u → LeadsByBest x regions c ps s (qs ++ q ∷ []) u
line_push x regions c ps [] s t u q e best move = (
  subst (λ T. T) (λ i. IsFirstBestStone x regions c (append-nil ps i) (sym e i) q) best,
  (u, subst (λ z. IsMove z (Stone q) u) (sym e) move, refl),
)
line_push x regions c ps (p ∷ qs) s t u q (first, (v, m, rest)) best move = (
  first,
  (
    v,
    m,
    line_push x regions c (ps ++ p ∷ []) qs v t u q rest
        (subst (λ z. IsFirstBestStone x regions c z t q) (sym (append_assoc ps (p ∷ []) qs)) best) move,
  ),
)

keeps_on : (x : Ground) (regions : List Region) (k : ℤ) (c : Colour) (s t u : Whole) (ps qs : List ℕ) (K : ℤ) → IsWithoutCycle x regions
    → OpensWith x k c s → Plays s (stones ps) t → LeadsByBest x regions c ps t qs u → IsThresholdAfter x c ps K → IsThresholdAfter x c (ps ++ qs) K
keeps_on x regions k c s t u ps [] K calm o plays e is = subst (λ z. IsThresholdAfter x c z K) (sym (append-nil ps)) is
keeps_on x regions k c s t u ps (q ∷ qs) K calm o plays (first, (v, move, rest)) is =
    subst (λ z. IsThresholdAfter x c z K) (append_assoc ps (q ∷ []) qs)
    (keeps_on x regions k c s v u (ps ++ q ∷ []) qs K calm o (plays_push ps s t v q plays move) rest
    (best_stone_loses_nothing x regions k c s t ps q K calm o plays first.best is))

pub line_loses_nothing : LineLosesNothing
line_loses_nothing x regions k c s t qs K calm o leads is = keeps_on x regions k c s s t [] qs K calm o refl leads is

not_over : (x : Ground) (regions : List Region) (c : Colour) (ps : List ℕ) (s t : Whole) (q : ℕ) → s ≡ t → NoneIsHot x.board regions t
    → ¬ IsFirstBestStone x regions c ps s q
not_over x regions c ps s t q e none first =
    let (legal, (r, among, inside, hot)) = first.best.hot in
    none r among (subst (λ z. IsHot x.board z.board r) e hot)

one_line : (x : Ground) (regions : List Region) (c : Colour) (ps qs rs : List ℕ) (s t u : Whole) → LeadsByBest x regions c ps s qs t
    → NoneIsHot x.board regions t → LeadsByBest x regions c ps s rs u → NoneIsHot x.board regions u → qs ≡ rs
one_line x regions c ps [] [] s t u l none m none' = refl
one_line x regions c ps [] (r ∷ rs) s t u e none (first, rest) none' = absurd (not_over x regions c ps s t r e none first)
one_line x regions c ps (q ∷ qs) [] s t u (first, rest) none e none' = absurd (not_over x regions c ps s u q e none' first)
one_line x regions c ps (q ∷ qs) (r ∷ rs) s t u (first, (v, move, rest)) none (first', (w, move', rest')) none' =
    let same : q ≡ r = omega (arith, first.first r first'.best, first'.first q first.best) in
    let there : w ≡ v = move_same s w v (Stone r) move' (subst (λ z. IsMove s (Stone z) v) same move) in
    let on = subst (λ T. T) (λ i. LeadsByBest x regions c (ps ++ sym same i ∷ []) (there i) rs u) rest' in
    λ i. same i ∷ one_line x regions c (ps ++ q ∷ []) qs rs v t u rest none on none' i

pub has_one_line : HasOneLine
has_one_line x regions s qs rs (t, leads, none) (u, leads', none') = one_line x regions s.side [] qs rs s t u leads none leads' none'
