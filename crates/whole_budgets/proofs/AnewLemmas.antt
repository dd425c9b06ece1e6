-- A game that the engine wins at its turn ends won, where it finds its budgets anew at each turn: in the order of dictionaries they never grow,
-- and as long as they stay they pay for no capture.
use Rattle.std.proofs.Common.{ℕ, zero, suc, ◌≡◌, ◌<◌, ◌≤◌, ◌⊎◌, inl, inr, refl, sym, ap, ◌∙◌, subst, arith, List, [], ◌∷◌, length, get_or, set, replicate, Option, Some, None}
use Rattle.std.proofs.lemmas.Bool.{cases_eq, cases_lt}
use Rattle.std.proofs.lemmas.List.{ext_get_or, get_or-replicate, get_or-set_other, get_or-set_same, get_or_past, length-replicate}
use Rattle.go_grid.specs.declared.grid.Colour.{Colour}
use Rattle.go_grid.specs.Board.{Board, other}
use Rattle.go_grid.specs.Region.{Region}
use Rattle.whole_rules.specs.declared.states.Move.{Move}
use Rattle.whole_rules.specs.FirstWinningMove.{IsWinner}
use Rattle.whole_rules.specs.WholeGame.{Whole, IsMove}
use Rattle.whole_rules.proofs.PlainLaws.{move_turn}
use Rattle.local_trees.specs.Ending.{EndsWithin}
use Rattle.whole_budgets.specs.BudgetPlay.{Budgeted, LeadsWithin, WinsWithCaptures}
use Rattle.whole_budgets.specs.EnginePlay.{AreLeastCaptures, AreListedAfter, AreReducedBelow, EngineMoves, HasAtTurn, IsFirstKeeping, IsLeastAt, MovesWith, WinsWithList, budget_in}
use Rattle.whole_budgets.proofs.BudgetListLemmas.{budget_there, by_place, listed_after}
use Rattle.whole_budgets.proofs.BudgetPlayLemmas.{budgets_win, free, greater_win, mine, some_win, with}
use Rattle.whole_budgets.proofs.DecidedPlayLemmas.{least_of}
use Rattle.whole_budgets.specs.EngineLaws.{EndsAnew, IsReached, WonGamesEndAnew, ends}
use Rattle.whole_budgets.proofs.EngineMoveLemmas.{can_reduce, has_move}
use Rattle.whole_budgets.proofs.OneMoveLemmas.{one_now, one_reduced}
use Rattle.whole_budgets.proofs.OrderLemmas.{Agree, Below, IsLessWithin, below_at, below_below, by_order, same_or_below}
use Rattle.whole_budgets.proofs.ReachedLemmas.{budgets_or_not, play_ends, reached_on}
use Rattle.whole_budgets.proofs.ReducedLemmas.{AreLess, less_budgets, now_serves, reduced_less, reduced_long, reduced_wins}
use Rattle.whole_budgets.proofs.ServeLemmas.{loses_behind, wins_behind}

module _ (g : Board) (regions : List Region) where
  -- the engine's turn: the least captures with which it wins, and what reducing them leaves
  record IsTurn (s : Whole) (n : ℕ) (cs : List ℕ) : Type 0 where
    reached : IsReached g regions s
    least : AreLeastCaptures regions s s.side n
    reduced : AreReducedBelow regions s (length regions) (replicate (length regions) n) cs

  module _ {s : Whole} {n : ℕ} {cs : List ℕ} (turn : IsTurn s n cs) where
    abbrev start : List ℕ
    start = replicate (length regions) n

    has : HasAtTurn regions s None (Some start)
    has = (n, turn.least, refl)

    serves : WinsWithList regions s.side s start
    serves = (now_serves g regions turn.reached.cut s None start tt has).1

    turn_wins : WinsWithList regions s.side s cs
    turn_wins = reduced_wins regions s (length regions) start cs turn.reduced serves

    turn_long : length cs ≡ length regions
    turn_long = reduced_long regions s (length regions) start cs turn.reduced ∙ length-replicate (length regions) n

    turn_less : AreLess cs start
    turn_less = reduced_less regions s (length regions) start cs turn.reduced serves (omega (arith, length-replicate (length regions) n))

    few : (k : ℕ) → k < length regions → get_or cs k 0 ≤ n
    few k lt = omega (arith, turn_less k, get_or-replicate (length regions) k n 0 lt)

  -- each state that the engine wins is such a turn
  record HasTurn (s : Whole) : Type 0 where
    captures : ℕ
    budgets : List ℕ
    turn : IsTurn s captures budgets

  turn_of : (s : Whole) → IsReached g regions s → IsWinner s s.side → HasTurn s
  turn_of s reached wins =
      let (j, captures) = (some_win regions s.side s).0 wins in
      let (n, le, least_wins, least) = least_of (λ j. WinsWithCaptures regions s.side s j) (λ j. budgets_or_not reached s.side (λ r. j)) j captures in
      let full = replicate (length regions) n in
      let are : AreLeastCaptures regions s s.side n = record { wins = least_wins; least = least } in
      let (cs, reduced) = can_reduce reached (length regions) full (now_serves g regions reached.cut s None full tt (n, are, refl)).1 in
      record { captures = n; budgets = cs; turn = record { reached = reached; least = are; reduced = reduced } }

  -- places that aren't reduced yet are as they were
  untouched : (s : Whole) (k : ℕ) (bs es : List ℕ) → AreReducedBelow regions s k bs es → (i : ℕ) → k ≤ i → get_or es i 0 ≡ get_or bs i 0
  untouched s zero bs es e i le = ap (λ zs. get_or zs i 0) e
  untouched s (suc k) bs es (ds, n, before, least, e) i le =
      ap (λ zs. get_or zs i 0) e ∙ get_or-set_other ds k i n 0 (λ z. omega (arith, z, le)) ∙ untouched s k bs ds before i (omega (arith, le))

  -- Budgets that are reduced from ones that are no less than others that win stand no later than these.
  module _ (s : Whole) (cut : IsReached g regions s) (bs ds : List ℕ) (long : length bs ≡ length regions) (less : AreLess ds bs)
      (wins : WinsWithList regions s.side s ds) where
    abbrev Stands : ℕ → List ℕ → Type 0
    Stands k es = Agree k es ds ⊎ IsLessWithin k es ds

    -- one place more is reduced
    stands_on : (k n : ℕ) (es : List ℕ) → k < length regions → length es ≡ length regions → ((i : ℕ) → k ≤ i → get_or es i 0 ≡ get_or bs i 0)
        → IsLeastAt regions s es k n → Stands k es → Stands (suc k) (set es k n)
    stands_on k n es lt many kept least (inr (j, before, agree, under)) =
        inr (
          j,
          omega (arith, before),
          (λ i at. get_or-set_other es k i n 0 (λ z. omega (arith, z, at, before)) ∙ agree i at),
          omega (arith, under, get_or-set_other es k j n 0 (λ z. omega (arith, z, before))),
        )
    stands_on k n es lt many kept least (inl agree) =
        let here = get_or-set_same es k n 0 (omega (arith, lt, many)) in
        let earlier : (i : ℕ) → i < k → get_or (set es k n) i 0 ≡ get_or ds i 0 = λ i at. get_or-set_other es k i n 0 (λ z. omega (arith, z, at)) ∙ agree i at in
        elim (cases_lt (get_or ds k 0) n) as (λ _. Stands (suc k) (set es k n)) [
          | inl lower ↦ absurd (least.least (get_or ds k 0) lower (greater_win regions s.side s (budget_in regions ds) (budget_in regions (set es k (get_or ds k 0)))
              (less_budgets g regions cut.cut ds (set es k (get_or ds k 0)) at_most) wins))
          | inr le ↦ elim (cases_eq n (get_or ds k 0)) as (λ _. Stands (suc k) (set es k n)) [
            | inl same ↦ inl (λ i at. all earlier (here ∙ same) i at)
            | inr ne ↦ inr (k, omega arith, earlier, omega (arith, here, le, ne))
          ]
        ]
      where
        at_most : AreLess ds (set es k (get_or ds k 0))
        at_most i = elim (cases_eq i k) [
          | inl e ↦ omega (
            arith,
            ap (λ z. get_or ds z 0) e,
            ap (λ z. get_or (set es k (get_or ds k 0)) z 0) e,
            get_or-set_same es k (get_or ds k 0) 0 (omega (arith, lt, many)),
          )
          | inr ne ↦ elim (cases_lt i k) [
            | inl at ↦ omega (arith, get_or-set_other es k i (get_or ds k 0) 0 ne, agree i at)
            | inr ge ↦ omega (arith, get_or-set_other es k i (get_or ds k 0) 0 ne, kept i (omega (arith, ge)), less i)
          ]
        ]

        all : ((i : ℕ) → i < k → get_or (set es k n) i 0 ≡ get_or ds i 0) → get_or (set es k n) k 0 ≡ get_or ds k 0
            → (i : ℕ) → i < suc k → get_or (set es k n) i 0 ≡ get_or ds i 0
        all earlier here i at = elim (cases_eq i k) as (λ _. get_or (set es k n) i 0 ≡ get_or ds i 0) [
          | inl e ↦ subst (λ z. get_or (set es k n) z 0 ≡ get_or ds z 0) (sym e) here
          | inr ne ↦ earlier i (omega (arith, at, ne))
        ]

    stands : (k : ℕ) (es : List ℕ) → k ≤ length regions → AreReducedBelow regions s k bs es → Stands k es
    stands zero es le e = inl (λ i at. absurd (omega (arith, at)))
    stands (suc k) es le (cs, n, before, least, e) =
        subst (Stands (suc k)) (sym e) (stands_on k n cs (omega (arith, le)) (reduced_long regions s k bs cs before ∙ long)
        (λ i at. untouched s k bs cs before i at) least (stands k cs (omega (arith, le)) before))

    pub reduced_stands : (es : List ℕ) → length ds ≡ length regions → AreReducedBelow regions s (length regions) bs es → (es ≡ ds) ⊎ Below es ds
    reduced_stands es many reduced =
        let same_long : length es ≡ length ds = reduced_long regions s (length regions) bs es reduced ∙ long ∙ sym many in
        elim (stands (length regions) es (omega arith) reduced) as (λ _. (es ≡ ds) ⊎ Below es ds) [
          | inl agree ↦ inl (ext_get_or 0 es ds same_long (λ i at. agree i (omega (arith, at, same_long, many))))
          | inr (j, at, agree, under) ↦ inr (below_at es ds same_long j (omega (arith, at, same_long, many)) agree under)
        ]

  -- what is left behind the engine's move is no more at any place
  left_less : (s t : Whole) (m : Move) (cs ds : List ℕ) → AreListedAfter regions s m t cs ds → AreLess ds cs
  left_less s t m cs ds paid k = elim (cases_lt k (length regions)) [
    | inl lt ↦ elim (paid.each k lt) [
      | inl (returning, e) ↦ omega (arith, e)
      | inr (not, e) ↦ omega (arith, e)
    ]
    | inr ge ↦ omega (arith, get_or_past ds k 0 (omega (arith, paid.many, ge)))
  ]

  -- the engine's next turn: its captures and budgets stand before those of this one, or they are the same, and are those that were left
  abbrev NextTo : ℕ → List ℕ → List ℕ → ℕ → List ℕ → Type 0
  NextTo n cs ds j es = Below (j ∷ es) (n ∷ cs) ⊎ ((j ≡ n) × (es ≡ ds) × (ds ≡ cs))

  next_to : (s t u : Whole) (m : Move) (n j : ℕ) (cs ds es : List ℕ) → IsTurn s n cs → AreListedAfter regions s m t cs ds
      → WinsWithList regions u.side u ds → IsTurn u j es → NextTo n cs ds j es
  next_to s t u m n j cs ds es turn paid wins next =
      let less = left_less s t m cs ds paid in
      let enough : (k : ℕ) → k < length regions → get_or ds k 0 ≤ n = λ k lt. omega (arith, less k, few turn k lt) in
      let captures : WinsWithCaptures regions u.side u n = greater_win regions u.side u (budget_in regions ds) (λ r. n)
      (by_place g regions turn.reached.cut (λ r. budget_in regions ds r ≤ n) (λ k lt. omega (arith, budget_there g regions turn.reached.cut ds k lt, enough k lt))) wins in
      elim (cases_lt n j) as (λ _. NextTo n cs ds j es) [
        | inl lt ↦ absurd (next.least.least n lt captures)
        | inr le ↦ elim (cases_eq j n) as (λ _. NextTo n cs ds j es) [
          | inr ne ↦ inl (inl (omega (arith, le, ne)))
          | inl same ↦
              let under : AreLess ds (replicate (length regions) j) = λ k. within k (cases_lt k (length regions)) enough same in
              let place = reduced_stands u next.reached (replicate (length regions) j) ds (length-replicate (length regions) j) under wins es paid.many next.reduced in
              by same place (same_or_below ds cs (paid.many ∙ sym (turn_long turn)) less)
        ]
      ]
    where
      within : (k : ℕ) → (k < length regions) ⊎ (length regions ≤ k) → ((i : ℕ) → i < length regions → get_or ds i 0 ≤ n) → j ≡ n
          → get_or ds k 0 ≤ get_or (replicate (length regions) j) k 0
      within k (inl lt) enough same = omega (arith, enough k lt, same, get_or-replicate (length regions) k j 0 lt)
      within k (inr ge) enough same = omega (arith, get_or_past ds k 0 (omega (arith, paid.many, ge)))

      by : j ≡ n → (es ≡ ds) ⊎ Below es ds → (ds ≡ cs) ⊎ Below ds cs → NextTo n cs ds j es
      by same (inl e) (inl f) = inr (same, e, f)
      by same (inl e) (inr below) = inl (inr (same, subst (λ z. Below z cs) (sym e) below))
      by same (inr below) (inl f) = inl (inr (same, subst (Below es) f below))
      by same (inr below) (inr then) = inl (inr (same, below_below es ds cs below then))

  abbrev Lasts : Colour → ℕ → Whole → List ℕ → Type 0
  Lasts owner n s cs = EndsWithin Budgeted (LeadsWithin regions owner) n (with s (budget_in regions cs))

  -- a move of the engine's, by what it has at its turn
  record IsStep (s : Whole) (cs : List ℕ) (m : Move) (t : Whole) : Type 0 where
    behind : List ℕ
    first : IsFirstKeeping regions s cs m t behind

  step_of : (s t : Whole) (m : Move) (left : Option (List ℕ)) (n : ℕ) (cs : List ℕ) → IsTurn s n cs → EngineMoves regions s None m t left → IsStep s cs m t
  step_of s t m left n cs turn (None, none, moves) = absurd (none (budgets_win regions s.side s (budget_in regions cs) (turn_wins turn)))
  step_of s t m left n cs turn (Some zs, had, (xs, ds, lessened, first, is)) =
      let some : Some (replicate (length regions) n) ≡ Some zs = one_now regions s None (Some (replicate (length regions) n)) (Some zs) (has turn) had in
      let same : zs ≡ replicate (length regions) n = cc some in
      let lists = one_reduced regions s (length regions) (replicate (length regions) n) xs cs
      (subst (λ z. AreReducedBelow regions s (length regions) z xs) same lessened) turn.reduced in
      record { behind = ds; first = subst (λ z. IsFirstKeeping regions s z m t ds) lists first }

  abbrev Ends : List ℕ → Type 0
  Ends [] = Unit {0}
  Ends (n ∷ cs) = (s : Whole) → IsTurn s n cs → EndsAnew regions s

  -- the engine wins at this turn, and at all those whose budgets stand before, and play with its budgets ends
  module _ (n : ℕ) (cs : List ℕ) (before : (ys : List ℕ) → length ys ≡ suc (length regions) → Below ys (n ∷ cs) → Ends ys) where
    abbrev OnBehind : Whole → Type 0
    OnBehind s = (m k : Move) (t u : Whole) (left : Option (List ℕ)) → EngineMoves regions s None m t left → IsMove t k u → EndsAnew regions u

    at_turn : (s : Whole) → IsTurn s n cs → OnBehind s → EndsAnew regions s
    at_turn s turn on = ends
        (let (m, t, left, (now, is, moves)) = has_move turn.reached (start turn) (serves turn) in
        (m, t, left, (Some (start turn), has turn, subst (λ z. MovesWith regions s z m t left) is moves)))
        (λ m t left moves.
        let step = step_of s t m left n cs turn moves in
        loses_behind s t m step.first.keeps.moved (budgets_win regions s.side t (budget_in regions step.behind) step.first.keeps.wins))
        on

    -- a move of the engine's and one of the other side's lead to a turn before this one, or to this one again
    round : (s t u : Whole) (m k : Move) (left : Option (List ℕ)) → IsTurn s n cs → EngineMoves regions s None m t left → IsMove t k u
        → ((ds : List ℕ) → LeadsWithin regions s.side (with s (budget_in regions cs)) (with t (budget_in regions ds))
        → LeadsWithin regions s.side (with t (budget_in regions ds)) (with u (budget_in regions ds)) → u.side ≡ s.side → ds ≡ cs → IsTurn u n cs → EndsAnew regions u)
        → EndsAnew regions u
    round s t u m k left turn moves move again =
        let step = step_of s t m left n cs turn moves in
        let ds = step.behind in let keeps = step.first.keeps in
        let theirs : t.side ≡ other s.side = move_turn s t m keeps.moved in
        let own : u.side ≡ s.side = mine regions s.side t u k theirs move in
        let wins = subst (λ c. WinsWithList regions c u ds) (sym own) (wins_behind regions s.side t u k (budget_in regions ds) own move keeps.wins) in
        let reached = reached_on (reached_on turn.reached t m keeps.moved) u k move in
        let after = turn_of u reached (budgets_win regions u.side u (budget_in regions ds) wins) in
        let there = (listed_after g regions turn.reached.cut s t m cs ds keeps.paid.many).0 keeps.paid in
        elim (next_to s t u m n after.captures cs ds after.budgets turn keeps.paid wins after.turn) [
          | inl below ↦ before (after.captures ∷ after.budgets) (ap suc (turn_long after.turn)) below u after.turn
          | inr (captures, budgets, stay) ↦ again ds (m, keeps.moved, inl (refl, there)) (free regions s.side t u (budget_in regions ds) theirs (k, move)) own stay
              (subst (IsTurn u n) (budgets ∙ stay) (subst (λ z. IsTurn u z after.budgets) captures after.turn))
        ]

    -- where it is this one again, play with the budgets has two moves fewer left
    last : (fewer : ℕ) (s : Whole) → IsTurn s n cs → Lasts s.side fewer s cs → EndsAnew regions s
    last zero s turn lasts = at_turn s turn (λ m k t u left moves move. round s t u m k left turn moves move
        (λ ds one two own stay next. absurd (lasts (with t (budget_in regions ds)) one)))
    last (suc zero) s turn lasts = at_turn s turn (λ m k t u left moves move. round s t u m k left turn moves move
        (λ ds one two own stay next. absurd (lasts (with t (budget_in regions ds)) one (with u (budget_in regions ds)) two)))
    last (suc (suc fewer)) s turn lasts = at_turn s turn (λ m k t u left moves move. round s t u m k left turn moves move
        (λ ds one two own stay next. last fewer u next (subst (λ c. Lasts c fewer u cs) (sym own)
        (subst (Lasts s.side fewer u) stay (lasts (with t (budget_in regions ds)) one (with u (budget_in regions ds)) two)))))

  ends_by : (xs : List ℕ) → length xs ≡ suc (length regions) → ((ys : List ℕ) → length ys ≡ suc (length regions) → Below ys xs → Ends ys) → Ends xs
  ends_by [] long before = tt
  ends_by (n ∷ cs) long before = λ s turn.
      let (fewer, lasts) = play_ends turn.reached s.side (budget_in regions cs) in
      last n cs before fewer s turn lasts

pub won_games_end_anew : WonGamesEndAnew
won_games_end_anew g regions t reached wins =
    let first = turn_of g regions t reached wins in
    by_order (suc (length regions)) (Ends g regions) (ends_by g regions) (first.captures ∷ first.budgets) (ap suc (turn_long g regions first.turn)) t first.turn
