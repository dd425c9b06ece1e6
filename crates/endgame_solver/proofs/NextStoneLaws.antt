-- The next stone of a line: which regions are hot by their values, and whether a stone keeps the threshold by the sum that it leaves.
use Rattle.std.proofs.Common.{ℕ, ℤ, ◌≡◌, ◌↔◌, ◌+◌, ◌^◌, ◌<◌, ◌≤◌, ◌++◌, refl, sym, ap, ◌∙◌, subst, arith, inl, inr, List, [], ◌∷◌, length, get_or, set, Bool, IsTrue, All, Option, Some, None, Result, Ok, Err, Contains, pos, unsigned_abs, ◌+ℤ◌, ◌-ℤ◌, ◌*ℤ◌, ◌<ℤ◌, ◌≤ℤ◌}
use mir.Val.{SFits, of_z, to_z}
use mir.Syntax.{w64}
use Rattle.std.proofs.lemmas.Bool.{cases_eq}
use Rattle.std.proofs.lemmas.Int.{ints, by_lt_z, to_z-of_z, unsigned_abs-mul}
use Rattle.std.proofs.lemmas.List.{get_or_default, length-set}
use Rattle.std.proofs.lemmas.List.Elements.{All-push, Contains-get_or}
use Rattle.go_grid.specs.declared.grid.Cell.{Cell}
use Rattle.go_grid.specs.declared.grid.Colour.{Colour}
use Rattle.go_grid.specs.declared.grid.Colour.TheVariants.{Black, White}
use Rattle.go_grid.specs.Board.{Board, other, stone}
use Rattle.go_grid.specs.Region.{Region}
use Rattle.benson_life.specs.Walls.{WallsStand}
use Rattle.whole_rules.specs.declared.money.Purses.{Purses}
use Rattle.whole_rules.specs.declared.states.Move.{Move}
use Rattle.whole_rules.specs.declared.states.Move.TheVariants.{Stone}
use Rattle.whole_rules.specs.declared.states.MoveError.{MoveError}
use Rattle.whole_rules.specs.OpeningWith.{Ground, OpensWith}
use Rattle.whole_rules.specs.Purses.{paid_in}
use Rattle.whole_rules.specs.Threshold.{IsThresholdAfter, stones}
use Rattle.whole_rules.specs.Walls.{Plays}
use Rattle.whole_rules.specs.WholeGame.{Whole, Applies, IsLegal, IsMove}
use Rattle.whole_rules.proofs.MoveLaws.{refused_not_legal}
use Rattle.whole_rules.proofs.WallLaws.{keeps_plays, keeps_start}
use Rattle.local_graph.specs.declared.graph.Edge.{Edge}
use Rattle.local_graph.specs.Graph.{Graph}
use Rattle.region_cut.proofs.LocalBoardLemmas.{only_region, point_contested}
use Rattle.short_games.specs.Tree.{Tree, tree_at}
use Rattle.short_games.specs.Number.{IsNumberTree, num}
use Rattle.short_games.specs.Order.{◌≤ᵍ◌}
use Rattle.short_games.specs.Sum.{◌+ᵍ◌, total}
use Rattle.short_games.proofs.OrderLaws.{le-trans}
use Rattle.short_games.proofs.ReductionLaws.{canonical-number}
use Rattle.game_store.specs.Meaning.{pick}
use Rattle.game_players.specs.Players.{LosesGame}
use Rattle.sum_outcome.specs.Sums.{IsBounded, sum_tree}
use Rattle.game_players.proofs.PlayerLaws.{loses-or_not}
use Rattle.local_trees.specs.PositionTree.{IsStep, IsTreeOf}
use Rattle.local_trees.proofs.TreeLaws.{trees-same}
use Rattle.endgame_solver.specs.PlayLine.{IsAsGood, IsHot, IsHotStone, IsLineFrom, LeadsByBest}
use Rattle.endgame_solver.specs.Regions.{no_region, region_at}
use Rattle.endgame_solver.specs.SumGame.{AreModest, balance}
use Rattle.endgame_solver.specs.Thresholds.{IsLeastWin, IsWithoutCycle}
use Rattle.endgame_solver.specs.inner.Held.{AreSolvedAt, IsStoneEdge}
use Rattle.endgame_solver.specs.inner.Line.{HasFewStones, IsReached, KeepsThreshold, TellsKeeping, TellsNext, last_won}
use Rattle.endgame_solver.specs.inner.Thresholds.{IsMargin}
use Rattle.endgame_solver.specs.inner.Views.{IsHeldInBook, ShowsAll, seen_ids}
use Rattle.endgame_solver.specs.declared.view_book.Book.{Book}
use Rattle.endgame_solver.specs.ModestGames.{most_value}
use Rattle.endgame_solver.proofs.HeldLaws.{present, small_balance, small_bounded, stone_leads}
use Rattle.endgame_solver.proofs.LineLaws.{as_good, first_keeps, line_push, no_stone_is_better, plays_push, some_keeps}
use Rattle.endgame_solver.proofs.MarginLaws.{beside_units, margin_after, stone_games}
use Rattle.endgame_solver.proofs.ThresholdLaws.{one_threshold, some_least}
use Rattle.endgame_solver.proofs.WholeLaws.{one_cells}
use Rattle.endgame_solver.proofs.WinningLaws.{stone_is_legal, stone_kept, stone_seen}

-- Hot regions, by the values of their present positions.

module _ {regions : List Region} {graphs : List Graph} {values : List (List ℕ)} {places ids : List ℕ} {Ts : List Tree} {t : Whole}
    (kept : AreSolvedAt regions graphs values places ids Ts t) (g : Board) (walls : WallsStand g t.board) (k : ℕ) (lt : k < length regions) where
  hot_by_value : ¬ IsNumberTree (tree_at Ts (get_or ids k 0)) → IsHot g t.board (region_at regions k)
  hot_by_value not cells G holds tree (e, m, under, over) =
      let r = region_at regions k in
      let (others, here, (known, value)) = (present kept.solved kept.at ids kept.summed).each k lt in
      let same = one_cells r cells others t.board (holds.long, holds.local) here in
      let tree' = subst (λ x. IsTreeOf r.touch (3 ^ length x) x G) same tree in
      let alike = trees-same (List Cell) (IsStep r.touch) (3 ^ length others) others G value.tree tree' value.of_position in
      not (
        e,
        m,
        canonical-number (tree_at Ts (get_or ids k 0)) value.canonical
            (e, m, le-trans _ _ _ value.same.1 (le-trans _ _ _ alike.1 under), le-trans _ _ _ over (le-trans _ _ _ alike.0 value.same.0)),
      )

  cold_by_value : IsNumberTree (tree_at Ts (get_or ids k 0)) → ¬ IsHot g t.board (region_at regions k)
  cold_by_value (e, m, is) hot =
      let (cells, here, (known, value)) = (present kept.solved kept.at ids kept.summed).each k lt in
      hot cells value.tree (record { walls = walls; long = here.0; local = here.1 }) value.of_position
      (e, m, subst (λ V. value.tree ≤ᵍ V) is value.same.0, subst (λ V. V ≤ᵍ value.tree) is value.same.1)

walls_reached : {x : Ground} {regions : List Region} {k : ℤ} {s t : Whole} {ps : List ℕ} {n : ℤ} → IsReached x regions k s t ps n → WallsStand x.board t.board
walls_reached {x} {k = k} {s = s} {t = t} {ps = ps} w =
    (keeps_plays x.board w.calm.settled s t (stones ps) (keeps_start x.board x.black_prisoners x.white_prisoners k s.side x.tax s w.opens) w.plays).walls

-- the region of a point is the one in which an edge has it
own_region : (x : Ground) (regions : List Region) → IsWithoutCycle x regions → (k p : ℕ) → k < length regions → Contains (region_at regions k).points p
    → (r : Region) → Contains regions r → Contains r.points p → r ≡ region_at regions k
own_region x regions calm k p lt inside r (i, short, is) there =
    let among = Contains-get_or regions k no_region lt in
    let contested = point_contested x.board (region_at regions k) (calm.are_regions.each (region_at regions k) among) p inside in
    let (j, known, at, alone) = only_region x.board regions calm.are_regions p no_region contested in
    let here = get_or_default regions i no_region r short ∙ is in
    let there' = subst (λ z. Contains z.points p) (sym here) there in
    sym here ∙ ap (region_at regions) (alone i short there' ∙ sym (alone k lt inside))

-- Whether a stone keeps the threshold.

-- who moves after a stone loses at the last komi with which the other wins where the stone's threshold is as good
lost_good : (c : Colour) (G : Tree) (b least n : ℤ) → IsLeastWin (other c) G least
    → LosesGame (other c) (G +ᵍ num 1 (b -ℤ last_won c n)) ↔ IsAsGood c (b -ℤ least) n
lost_good Black G b least n is = (
  λ w. up ((is (b -ℤ n)).0 w),
  λ le. (is (b -ℤ n)).1 (down le),
)
  where
    up : least ≤ℤ (b -ℤ n) → n ≤ℤ (b -ℤ least)
    up le = omega (arith, ints, le)

    down : n ≤ℤ (b -ℤ least) → least ≤ℤ (b -ℤ n)
    down le = omega (arith, ints, le)
lost_good White G b least n is = (
  λ l. by_lt_z n (b -ℤ least) (λ lt. absurd ((is (b -ℤ (n +ℤ pos 1))).1 (up lt) l)) (λ le. le),
  λ le. elim (loses-or_not Black (G +ᵍ num 1 (b -ℤ (n +ℤ pos 1)))) [ inl l ↦ l | inr w ↦ absurd (down le ((is (b -ℤ (n +ℤ pos 1))).0 w)) ],
)
  where
    up : n <ℤ (b -ℤ least) → least ≤ℤ (b -ℤ (n +ℤ pos 1))
    up lt = omega (arith, ints, lt)

    down : (b -ℤ least) ≤ℤ n → least ≤ℤ (b -ℤ (n +ℤ pos 1)) → ⊥
    down le over = omega (arith, ints, le, over)

good_shift : (c : Colour) (k K L : ℤ) → IsAsGood c K L ↔ IsAsGood c (k +ℤ K) (k +ℤ L)
good_shift Black k K L = (λ le. omega (arith, ints, le), λ le. omega (arith, ints, le))
good_shift White k K L = (λ le. omega (arith, ints, le), λ le. omega (arith, ints, le))

good_same : (c : Colour) (K L : ℤ) → K ≡ L → IsAsGood c K L
good_same Black K L e = omega (arith, ints, e)
good_same White K L e = omega (arith, ints, e)

small_last : (m : Purses) (c : Colour) (n : ℤ) → AreModest m → unsigned_abs n ≤ 2 ^ 46 → unsigned_abs ((balance m -ℤ last_won c n) *ℤ pos (2 ^ 59)) ≤ 2 ^ 110
small_last m c n modest small = times (balance m -ℤ last_won c n) (at c (balance m) (small_balance m modest))
  where
    at : (c : Colour) (b : ℤ) → unsigned_abs b ≤ 2 ^ 45 → unsigned_abs (b -ℤ last_won c n) ≤ 2 ^ 47
    at Black b h = omega (arith, ints, h, small)
    at White b h = omega (arith, ints, h, small)

    times : (x : ℤ) → unsigned_abs x ≤ 2 ^ 47 → unsigned_abs (x *ℤ pos (2 ^ 59)) ≤ 2 ^ 110
    times x h = omega (arith, h, unsigned_abs-mul x (pos (2 ^ 59)))

pub never_keeps : {regions : List Region} {t : Whole} {n : ℤ} {p : ℕ} {b : Bool} → ¬ IsTrue b → ¬ IsLegal t (Stone p) → TellsKeeping regions t n p b
never_keeps not illegal x k s ps w = (λ e. absurd (not e), λ keeps. absurd (illegal keeps.0.0))

-- a stone that the book shows
module _ {regions rs : List Region} {book : Book} {places ps ids : List ℕ} {Ts : List Tree} {t : Whole} (held : IsHeldInBook regions book places ids Ts t)
    (lent : rs ≡ regions) (at : ps ≡ places) {d : Colour} (side : d ≡ t.side) {p k : ℕ} {e : Edge}
    (found : (graphs : List Graph) (values : List (List ℕ)) → ShowsAll book graphs values (length rs) → IsStoneEdge rs graphs ps d p k e) where
  point_inside : Contains (region_at regions k).points p
  point_inside =
      let x = stone_seen held lent at side found in
      subst (Contains (region_at regions k).points) x.edge.stone.point (Contains-get_or (region_at regions k).points e.place 0 x.edge.stone.inside)

  -- the value of its region is in the store
  pub stone_here : get_or ids k 0 < length Ts
  stone_here = ((present held.kept.solved held.kept.at ids held.kept.summed).each k (stone_seen held lent at side found).known).2.0

  -- in a region that is a number it keeps nothing
  pub cold_keeps_not : {n : ℤ} {b : Bool} → ¬ IsTrue b → IsNumberTree (tree_at Ts (get_or ids k 0)) → TellsKeeping regions t n p b
  cold_keeps_not not number x l s qs w = (
    λ e. absurd (not e),
    λ keeps.
        let (r, among, inside, hot) = keeps.0.1 in
        let known = (stone_seen held lent at side found).known in
        let is = own_region x regions w.calm k p known point_inside r among inside in
        absurd (cold_by_value held.kept x.board (walls_reached w) k known number (subst (IsHot x.board t.board) is hot)),
  )

  module _ {v : ℕ} (value : v ≡ get_or (seen_ids book k) e.next 0) {n : ℕ} {m : Purses} {o : Colour} (taken : n ≡ e.taken)
      (paid : m ≡ paid_in d n t.purses) (turn : o ≡ other d) where
    -- the search may be asked
    pub last_bounds : (beyond : ℤ) {y : ℤ} → unsigned_abs beyond ≤ 2 ^ 46 → AreModest m → y ≡ (balance m -ℤ last_won d beyond) *ℤ pos (2 ^ 59)
        → IsBounded (pick Ts (set ids k v)) y
    last_bounds beyond {y} small modest number =
        let games = stone_games held lent at side found value in
        small_bounded most_value Ts (set ids k v) y (omega arith) games.few games.within (subst (λ z. unsigned_abs z ≤ 2 ^ 110) (sym number) (small_last m d beyond modest small))

    -- in another it keeps the threshold where the other player loses the sum that it leaves, at the last komi with which the mover wins
    pub hot_keeps : {beyond y : ℤ} {b : Bool} → y ≡ (balance m -ℤ last_won d beyond) *ℤ pos (2 ^ 59)
        → ¬ IsNumberTree (tree_at Ts (get_or ids k 0)) → IsTrue b ↔ LosesGame o (sum_tree Ts (set ids k v) y) → TellsKeeping regions t beyond p b
    hot_keeps {beyond} {y} {b} number not answer x l s qs w =
        let (u, move) = stone_is_legal held lent at side found value in
        let x' = stone_seen held lent at side found in
        let leads = stone_leads held.kept.solved held.kept.at u x' move in
        let G = total (pick Ts (set ids k v)) in
        let (least, is) = some_least (other t.side) G in
        let purses = paid ∙ (λ i. paid_in (side i) (taken i) t.purses) ∙ sym leads.purses in
        let there = plays_push qs s t u p w.plays move in
        let thr = margin_after (stone_kept held lent at side found value u move) s (qs ++ p ∷ []) there least (balance u.purses -ℤ least)
        (subst (λ c. IsLeastWin c G least) (sym leads.turn) is) refl x l w.opens in
        let K = l +ℤ beyond in
        let L = l +ℤ (balance u.purses -ℤ least) in
        let better = no_stone_is_better x regions l s.side s t qs p K L w.calm w.opens w.plays (u, move) w.threshold thr in
        let lost = lost_good t.side G (balance u.purses) least beyond is in
        let shift = good_shift t.side l (balance u.purses -ℤ least) beyond in
        let units = beside_units G (balance m -ℤ last_won d beyond) y number in
        let beside = subst (λ T. IsTrue b ↔ T) (λ i. LosesGame ((turn ∙ ap other side) i) (units i)) answer in
        let asked = subst (λ T. IsTrue b ↔ T) (λ i. LosesGame (other t.side) (G +ᵍ num 1 (balance (purses i) -ℤ last_won (side i) beyond))) beside in
        let hot = hot_by_value held.kept x.board (walls_reached w) k x'.known not in
        let stone : IsHotStone x.board regions t p = ((u, move), (region_at regions k, Contains-get_or regions k no_region x'.known, point_inside, hot)) in (
          λ yes. (stone, subst (IsThresholdAfter x s.side (qs ++ p ∷ [])) (as_good t.side K L better (shift.0 (lost.0 (asked.0 yes)))) thr),
          λ keeps. asked.1 (lost.1 (shift.1 (good_same t.side L K (one_threshold x s.side (qs ++ p ∷ []) l s u w.opens there K L keeps.1 thr)))),
        )

-- a legal move is made
pub applied_legal : (t u : Whole) (m : Move) → IsLegal t m → (r : Result Unit MoveError) → Applies t m u r → IsMove t m u
applied_legal t u m legal (Ok v) a = a
applied_legal t u m legal (Err e) a = absurd (refused_not_legal t m e a.1 legal)

-- Looking for the next stone.

-- none of the first points has a stone that keeps the threshold
abbrev pub NoneKeeps : List Region → Whole → ℤ → ℕ → Type 0
NoneKeeps regions t n count = (q : ℕ) → q < count → (x : Ground) (k : ℤ) (s : Whole) (ps : List ℕ) → IsReached x regions k s t ps n
    → ¬ KeepsThreshold x regions s.side ps t q (k +ℤ n)

-- what is told with a number that went through 64 bits
pub tells_back : {regions : List Region} {t : Whole} (n : ℤ) (next : Option ℕ) → SFits w64 n → TellsNext regions t (to_z w64 (of_z w64 n)) next
    → TellsNext regions t n next
tells_back {regions} {t} n next fits = subst (λ z. TellsNext regions t z next) (to_z-of_z w64 n fits)

pub none_keeps_more : {regions : List Region} {t : Whole} {n : ℤ} {p : ℕ} {b : Bool} → TellsKeeping regions t n p b → ¬ IsTrue b
    → NoneKeeps regions t n p → NoneKeeps regions t n (p + 1)
none_keeps_more {regions} {t} {n} {p} tells not none q lt x k s ps w keeps = elim (cases_eq q p) as (λ _. ⊥) [
  | inl same ↦ not ((tells x k s ps w).1 (subst (λ z. KeepsThreshold x regions s.side ps t z (k +ℤ n)) same keeps))
  | inr ne ↦ none q (omega (arith, lt, ne)) x k s ps w keeps
]

pub next_found : {regions : List Region} {t : Whole} {n : ℤ} {p : ℕ} {b : Bool} → TellsKeeping regions t n p b → IsTrue b
    → NoneKeeps regions t n p → TellsNext regions t n (Some p)
next_found {regions} {t} {n} {p} tells found none x k s ps w =
    let keeps = (tells x k s ps w).0 found in
    (first_keeps x regions k s.side s t ps p (k +ℤ n) w.calm w.opens w.plays w.threshold keeps (λ q lt. none q lt x k s ps w), keeps.1)

pub next_none : {regions : List Region} {t : Whole} {n : ℤ} (count : ℕ) → length t.board.cells ≤ count → NoneKeeps regions t n count
    → TellsNext regions t n None
next_none {regions} {t} {n} count le none x k s ps w r among hot =
    some_keeps x regions k s.side s t ps (k +ℤ n) w.calm w.opens w.plays w.threshold r among hot
    (λ q (((u, (mark, (h, (j, placed, number, is)))), hot'), keeps). none q (omega (arith, placed.1.place, le)) x k s ps w
    (((u, (mark, (h, (j, placed, number, is)))), hot'), keeps))

-- The line so far.

-- the stones lead from the first state to the second, and wherever the first is an opening they begin its line and keep its threshold
pub record LineSoFar (regions : List Region) (s t : Whole) (line : List ℕ) (n : ℤ) : Type 0 where
  pub few : HasFewStones s
  pub small : unsigned_abs n ≤ 2 ^ 46
  pub plays : Plays s (stones line) t
  pub long : length t.board.cells ≡ length s.board.cells
  pub on_board : All (λ p. p < length s.board.cells) line
  pub leads : (x : Ground) (k : ℤ) → IsWithoutCycle x regions → OpensWith x k s.side s
      → LeadsByBest x regions s.side [] s line t × IsThresholdAfter x s.side line (k +ℤ n)

stone_on_board : (t u : Whole) {p : ℕ} → IsMove t (Stone p) u → p < length t.board.cells
stone_on_board t u (mark, (h, (n, placed, number, is))) = placed.1.place

long_move : (t u : Whole) {p : ℕ} → IsMove t (Stone p) u → length u.board.cells ≡ length t.board.cells
long_move t u {p} (mark, (h, (n, placed, number, is))) =
    ap (λ z. length z.board.cells) is ∙ placed.1.without.long ∙ length-set t.board.cells p (stone t.side)

pub line_start : {regions : List Region} {s : Whole} {n : ℤ} → IsMargin s s.side [] n → unsigned_abs n ≤ 2 ^ 46 → HasFewStones s → LineSoFar regions s s [] n
line_start margin small few = record { few = few; small = small; plays = refl; long = refl; on_board = λ k d lt. absurd (omega (arith, lt)); leads = λ x k calm o. (refl, margin x k o) }

pub line_next : {regions : List Region} {s t u : Whole} {line : List ℕ} {n : ℤ} {p : ℕ} → LineSoFar regions s t line n → TellsNext regions t n (Some p)
    → IsMove t (Stone p) u → LineSoFar regions s u (line ++ p ∷ []) n
line_next {regions} {s} {t} {u} {line} {n} {p} w next move = record {
  few = w.few;
  small = w.small;
  plays = plays_push line s t u p w.plays move;
  long = long_move t u move ∙ w.long;
  on_board = All-push (λ q. q < length s.board.cells) line p w.on_board (omega (arith, stone_on_board t u move, w.long));
  leads = λ x k calm o.
      let (leads, keeps) = w.leads x k calm o in
      let (first, keeps') = next x k s line (record { calm = calm; opens = o; plays = w.plays; threshold = keeps }) in
      (line_push x regions s.side [] line s t u p leads first move, keeps');
}

pub line_end : {regions : List Region} {s t : Whole} {line : List ℕ} {n : ℤ} → LineSoFar regions s t line n → TellsNext regions t n None
    → (k : ℤ) → IsLineFrom regions s k line
line_end {s = s} {t = t} {line = line} w next k x calm o =
    let (leads, keeps) = w.leads x k calm o in
    (t, leads, next x k s line (record { calm = calm; opens = o; plays = w.plays; threshold = keeps }))
