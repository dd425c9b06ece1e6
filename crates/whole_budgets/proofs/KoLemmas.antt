-- An engine that wins doesn't take back a ko at once: what it has then would have been reduced by one.
use Rattle.std.proofs.Common.{ℕ, ◌+◌, ◌≡◌, ◌≢◌, ◌<◌, ◌≤◌, inl, inr, refl, sym, ap, ◌∙◌, subst, arith, List, length, get_or, set, Some, None, Contains, pos, ◌+ℤ◌, neg_ℤ}
use Rattle.std.proofs.lemmas.Bool.{cases_eq, cases_lt}
use Rattle.std.proofs.lemmas.Int.{ints}
use Rattle.std.proofs.lemmas.List.{get_or-set_other, get_or-set_same, get_or_default, get_or_past}
use Rattle.go_grid.specs.declared.grid.Colour.{Colour}
use Rattle.go_grid.specs.Board.{Board}
use Rattle.go_grid.specs.Region.{Region}
use Rattle.region_cut.proofs.LocalBoardLemmas.{one_region}
use Rattle.whole_rules.specs.declared.money.Purses.{Purses}
use Rattle.whole_rules.specs.declared.states.Move.{Move}
use Rattle.whole_rules.specs.declared.states.Move.TheVariants.{Stone}
use Rattle.whole_rules.specs.WholeGame.{Whole, IsMove}
use Rattle.whole_rules.proofs.PlainLaws.{move_turn}
use Rattle.short_games.specs.Number.{num}
use Rattle.short_games.specs.Sum.{◌+ᵍ◌, total}
use Rattle.endgame_solver.specs.Decomposition.{money_tree}
use Rattle.endgame_solver.specs.Regions.{no_region, region_at}
use Rattle.endgame_solver.specs.SumGame.{token_tree}
use Rattle.endgame_solver.proofs.WholeLaws.{cell_play}
use Rattle.whole_budgets.specs.BudgetPlay.{IsReturningCapture, WinsWithBudgets}
use Rattle.whole_budgets.specs.BudgetSums.{ServesFor, WinsGame}
use Rattle.whole_budgets.specs.EnginePlay.{AreReducedBelow, IsFirstKeeping, Serves, WinsWithList, budget_in}
use Rattle.whole_budgets.proofs.BudgetPlayLemmas.{greater_win, other_not, returning_or_not}
use Rattle.whole_budgets.proofs.BudgetSumLaws.{wins_by_sum}
use Rattle.whole_budgets.proofs.QuietLemmas.{no_return}
use Rattle.whole_budgets.proofs.SimpleKoLemmas.{retaken, richer, richer_purses}
use Rattle.whole_budgets.specs.EngineLaws.{IsReached, KeepsSimpleKo}
use Rattle.whole_budgets.proofs.ReachedLemmas.{fits, holds_reached, keeps_reached, reached_on, trees_reached}
use Rattle.whole_budgets.proofs.ReducedLemmas.{has_nothing, less_budgets, now_serves, reduced_long, was_reduced}
use Rattle.whole_budgets.proofs.ServeLemmas.{wins_behind}

-- a point more for each leaves the balance
richer_balance : (m : Purses) → money_tree (richer_purses m) ≡ money_tree m
unfolding richer_purses
richer_balance m =
    let same : pos (m.black + 1) +ℤ neg_ℤ (pos (m.white + 1)) ≡ pos m.black +ℤ neg_ℤ (pos m.white) = balanced m.black m.white in
    ap (λ n. num 0 n +ᵍ token_tree m.token) same
  where
    balanced : (a b : ℕ) → pos (a + 1) +ℤ neg_ℤ (pos (b + 1)) ≡ pos a +ℤ neg_ℤ (pos b)
    balanced a b = omega (arith, ints)

module _ {g : Board} {regions : List Region} {u : Whole} (reached : IsReached g regions u) where
  -- who wins with a point more for each player wins without them
  poorer : (owner : Colour) (b : Region → ℕ) → WinsWithBudgets regions owner (richer u) b → WinsWithBudgets regions owner u b
  poorer owner b w =
      let (trees, on) = trees_reached reached owner b in
      let serve = fits g u.board owner _ (λ r j. ServesFor r owner j (b r)) regions trees (λ r i j e. inl e) on in
      let rich = wins_by_sum g reached.settled regions reached.cut owner (richer u)
      (record { walls = (keeps_reached reached).walls; contested = (keeps_reached reached).contested }) (holds_reached reached) b trees serve in
      let poor = wins_by_sum g reached.settled regions reached.cut owner u (keeps_reached reached) (holds_reached reached) b trees serve in
      poor.1 (subst (λ m. WinsGame owner u.side (total trees +ᵍ m)) (richer_balance u.purses) (rich.0 w))

  -- a stone that leads back to the board before the other side's move is a capture that returns, and in one region
  record IsRetaken (t v : Whole) (p : ℕ) : Type 0 where
    place : ℕ
    known : place < length regions
    here : IsReturningCapture (region_at regions place) t (Stone p) v
    elsewhere : (k : ℕ) → k < length regions → k ≢ place → ¬ IsReturningCapture (region_at regions k) t (Stone p) v

  returns_there : (t v : Whole) (m : Move) (p : ℕ) → IsMove u m t → IsMove t (Stone p) v → u.board ≡ v.board → IsRetaken t v p
  returns_there t v m p first second same =
      let contested = ((keeps_reached (reached_on reached t m first)).contested p).0 second.0 in
      let (j, lt, inside) = (cell_play g reached.settled regions reached.cut).covers p contested in
      let others : (k : ℕ) → k < length regions → k ≢ j → ¬ IsReturningCapture (region_at regions k) t (Stone p) v = λ k lk ne returning.
      ne (one_region g regions reached.cut k j p no_region lk lt returning.0 inside) in
      elim (returning_or_not (region_at regions j) t v (Stone p)) [
        | inl returning ↦ record { place = j; known = lt; here = returning; elsewhere = others }
        | inr not ↦
            let quiet : (r : Region) → Contains regions r → ¬ IsReturningCapture r t (Stone p) v = λ r (k, lk, is) returning.
            let at : region_at regions k ≡ r = get_or_default regions k no_region r lk ∙ is in
            let there = subst (λ z. IsReturningCapture z t (Stone p) v) (sym at) returning in
            elim (cases_eq k j) as (λ _. ⊥) [
              | inl e ↦ not (subst (λ z. IsReturningCapture (region_at regions z) t (Stone p) v) e there)
              | inr ne ↦ others k lk ne there
            ] in
            absurd (no_return g reached.settled regions reached.cut t.side 1 u t v p (keeps_reached reached)
            (t, (m, first, λ own. absurd (other_not u.side (own ∙ move_turn u t m first)), refl)) second (λ own. quiet) same)
      ]

  -- then the budgets before the capture weren't reduced
  not_retaken : (t v : Whole) (m : Move) (p : ℕ) (bs cs ds : List ℕ) → IsMove u m t → Serves regions t.side t (Some bs)
      → AreReducedBelow regions t (length regions) bs cs → IsFirstKeeping regions t cs (Stone p) v ds → v.board ≢ u.board
  not_retaken t v m p bs cs ds move (long, wins) reduced first same =
      let moved = first.keeps.moved in
      let back : v ≡ richer u = retaken u t v m p move moved (sym same) in
      let before = poorer t.side (budget_in regions ds) (subst (λ z. WinsWithList regions t.side z ds) back first.keeps.wins) in
      let less_win = wins_behind regions t.side u t m (budget_in regions ds) refl move before in
      let taken = returns_there t v m p move moved (sym same) in
      let j = taken.place in
      let was = was_reduced regions t (length regions) j bs cs reduced wins (omega (arith, long)) taken.known in
      let spent : get_or cs j 0 ≡ get_or ds j 0 + 1 = elim (first.keeps.paid.each j taken.known) as (λ _. get_or cs j 0 ≡ get_or ds j 0 + 1) [
        | inl (returning, e) ↦ e
        | inr (not, e) ↦ absurd (not taken.here)
      ] in
      let few : (k : ℕ) → get_or ds k 0 ≤ get_or (set was.before j (get_or ds j 0)) k 0 = λ k. elim (cases_eq k j) [
        | inl e ↦ at_place was.before k j e (omega (arith, was.long, reduced_long regions t (length regions) bs cs reduced, long, taken.known))
        | inr ne ↦ omega (arith, get_or-set_other was.before j k (get_or ds j 0) 0 ne, was.greater k ne, kept taken k ne)
      ] in
      was.least.least (get_or ds j 0) (omega (arith, spent))
      (greater_win regions t.side t (budget_in regions ds) (budget_in regions (set was.before j (get_or ds j 0)))
      (less_budgets g regions reached.cut ds (set was.before j (get_or ds j 0)) few) less_win)
    where
      at_place : (before : List ℕ) (k j : ℕ) → k ≡ j → j < length before → get_or ds k 0 ≤ get_or (set before j (get_or ds j 0)) k 0
      at_place before k j e lt =
          omega (arith, ap (λ z. get_or ds z 0) e, ap (λ z. get_or (set before j (get_or ds j 0)) z 0) e, get_or-set_same before j (get_or ds j 0) 0 lt)

      kept : (taken : IsRetaken t v p) (k : ℕ) → k ≢ taken.place → get_or ds k 0 ≤ get_or cs k 0
      kept taken k ne = elim (cases_lt k (length regions)) [
        | inl lt ↦ elim (first.keeps.paid.each k lt) [
          | inl (returning, e) ↦ absurd (taken.elsewhere k lt ne returning)
          | inr (not, e) ↦ omega (arith, e)
        ]
        | inr ge ↦ omega (arith, get_or_past ds k 0 (omega (arith, first.keeps.paid.many, ge)))
      ]

pub keeps_simple_ko : KeepsSimpleKo
keeps_simple_ko g regions u t v m p kept left reached move serves wins (None, has, moves) same = has_nothing regions t kept has wins
keeps_simple_ko g regions u t v m p kept left reached move serves wins (Some bs, has, (cs, ds, reduced, first, is)) same =
    not_retaken reached t v m p bs cs ds move (now_serves g regions reached.cut t kept bs serves has) reduced first same
