-- Where no region has a cycle the engine moves as the plain solver does.
use Rattle.std.proofs.Common.{ℕ, suc, ◌≡◌, ◌⊎◌, ◌^◌, inl, inr, refl, sym, ap, ◌∙◌, subst, arith, List, ◌∷◌, ◌++◌, length, slice_index, Some, None, Contains}
use Rattle.std.proofs.lemmas.List.{get_or_default}
use Rattle.std.proofs.lemmas.List.Elements.{Contains-get_or}
use Rattle.go_grid.specs.declared.grid.Colour.{Colour}
use Rattle.go_grid.specs.Board.{Board, other}
use Rattle.go_grid.specs.Region.{Region}
use Rattle.local_graph.specs.FiniteLocalPlay.{HasNoCycle}
use Rattle.local_graph.specs.LocalGraph.{IsReachable}
use Rattle.local_graph.proofs.FiniteLemmas.{cycle_of}
use Rattle.whole_rules.specs.declared.states.Move.{Move}
use Rattle.whole_rules.specs.declared.states.Move.TheVariants.{Stone, Spend, Half}
use Rattle.whole_rules.specs.FirstWinningMove.{IsLosing, IsWinner, IsWinning}
use Rattle.whole_rules.specs.PlainRecursion.{MoverWins}
use Rattle.whole_rules.specs.WholeGame.{Whole, IsMove, Leads}
use Rattle.whole_rules.proofs.PlainLaws.{move_turn}
use Rattle.local_trees.specs.Steady.{IsSteady}
use Rattle.local_trees.proofs.BudgetTreeLaws.{budgets-need_cycles}
use Rattle.local_trees.proofs.TreeLaws.{trees-exist}
use Rattle.short_games.proofs.OrderLaws.{same-sym, same-trans}
use Rattle.endgame_solver.specs.Regions.{no_region, region_at}
use Rattle.endgame_solver.specs.Solved.{Chooses}
use Rattle.endgame_solver.proofs.WholeLaws.{decided_alike, seen_from_opening}
use Rattle.whole_budgets.specs.BudgetPlay.{IsReturningCapture, WinsWithBudgets, position_on}
use Rattle.whole_budgets.specs.BudgetSums.{ServesFor}
use Rattle.whole_budgets.specs.EnginePlay.{AreReducedBelow, ChoosesUnwon, IsFirstKeeping, KeepsWinning, budget_in}
use Rattle.whole_budgets.proofs.BudgetPlayLemmas.{budgets_win, other_not, other_twice}
use Rattle.whole_budgets.proofs.BudgetSumLaws.{winner_by_sum, wins_by_sum}
use Rattle.whole_budgets.proofs.QuietLemmas.{stone_inside}
use Rattle.whole_budgets.proofs.RegionLemmas.{position_is}
use Rattle.whole_budgets.specs.EngineLaws.{IsPlainWithoutCycles, IsReached}
use Rattle.whole_budgets.proofs.ReachedLemmas.{fits, holds_reached, keeps_reached, reached_on, rich, trees_reached}
use Rattle.whole_budgets.proofs.ReducedLemmas.{has_nothing, now_serves, reduced_long}
use Rattle.whole_budgets.proofs.ServeLemmas.{loses_behind}

module _ {g : Board} {regions : List Region} {t : Whole} (reached : IsReached g regions t) where
  -- the position of each region is one of its reachable ones
  position_reached : (r : Region) → Contains regions r → IsReachable r.touch r.cells (position_on r t.board)
  position_reached r (j, lt, is) =
      let (cells, (reachable, holds)) = holds_reached reached j lt in
      let now = position_is (region_at regions j) t.board cells holds.long holds.local in
      subst (λ z. IsReachable z.touch z.cells (position_on z t.board)) (get_or_default regions j no_region r lt ∙ is)
      (subst (IsReachable (region_at regions j).touch (region_at regions j).cells) (sym now) reachable)

  -- without a cycle no capture returns
  never_returns : (r : Region) → Contains regions r → HasNoCycle r.touch r.cells → (u : Whole) (m : Move) → IsMove t m u → ¬ IsReturningCapture r t m u
  never_returns r i none u Spend move returning = returning
  never_returns r i none u Half move returning = returning
  never_returns r i none u (Stone x) move ((k, lt, at), takes, (back, returns)) =
      let point : slice_index r.points k ≡ x = get_or_default r.points k 0 x lt ∙ at in
      let (step, local, quiet) = stone_inside g reached.settled regions reached.cut (other t.side) r i t u k (keeps_reached reached) lt
      (subst (λ z. IsMove t (Stone z) u) (sym point) move) (λ own. absurd (other_not t.side own)) in
      let (ms, plays) = position_reached r i in
      none (ms ++ step ∷ back) (length ms)
      (cycle_of r.touch r.cells (position_on r t.board) ms (step ∷ back) plays (position_on r u.board, local, returns) (omega arith))

  module _ (calm : (r : Region) → Contains regions r → HasNoCycle r.touch r.cells) where
    -- each region is steady without any budget
    steady_at_once : (owner : Colour) (r : Region) → Contains regions r → IsSteady r.touch r.cells owner 0
    steady_at_once owner r i cells reach G H a b =
        let (T, tree) = trees-exist r.touch cells (3 ^ length cells) in
        same-trans _ _ _ (budgets-need_cycles r.touch r.cells owner 0 (calm r i) cells reach G T a tree)
        (same-sym _ _ (budgets-need_cycles r.touch r.cells owner 1 (calm r i) cells reach H T b tree))

    -- who wins wins with any budgets
    wins_always : (owner : Colour) (b : Region → ℕ) → IsWinner t owner → WinsWithBudgets regions owner t b
    wins_always owner b wins =
        let (trees, on) = trees_reached reached owner (λ r. 0) in
        let still : (r : Region) → Contains regions r → (j : ℕ) → j ≡ 0 → IsSteady r.touch r.cells owner j = λ r i j e.
        subst (IsSteady r.touch r.cells owner) (sym e) (steady_at_once owner r i) in
        let steady = fits g t.board owner _ (λ r j. IsSteady r.touch r.cells owner j) regions trees still on in
        let serve = fits g t.board owner _ (λ r j. ServesFor r owner j (b r)) regions trees (λ r i j e. inr (omega (arith, e), still r i j e)) on in
        (wins_by_sum g reached.settled regions reached.cut owner t (keeps_reached reached) (holds_reached reached) b trees serve).1
        ((winner_by_sum g reached.settled regions reached.cut owner t (keeps_reached reached) (holds_reached reached) trees steady).0 wins)

    -- the state has a winner
    has_winner : MoverWins Whole Leads t ⊎ IsLosing t
    has_winner =
        let (parts, seen) = seen_from_opening g reached.settled regions reached.cut reached.black_prisoners reached.white_prisoners reached.komi
        reached.side reached.tax reached.start (rich reached) reached.moves reached.opening reached.plays in
        (decided_alike g reached.settled regions reached.cut calm (rich reached) parts seen t (keeps_reached reached) refl).0

module _ {g : Board} {regions : List Region} {t : Whole} (reached : IsReached g regions t)
    (calm : (r : Region) → Contains regions r → HasNoCycle r.touch r.cells) where
  -- a move that wins does so with the budgets as they are
  winning_keeps : (bs : List ℕ) (u : Whole) (m : Move) → length bs ≡ length regions → IsMove t m u → IsLosing u → KeepsWinning regions t bs m u bs
  winning_keeps bs u m long move loses = record {
    moved = move;
    paid = record {
      many = long;
      each = λ k lt.
          let i = Contains-get_or regions k no_region lt in
          inr (never_returns reached (region_at regions k) i (calm (region_at regions k) i) u m move, refl);
    };
    wins = wins_always (reached_on reached u m move) calm t.side (budget_in regions bs)
        (inr (sym (ap other (move_turn t u m move) ∙ other_twice t.side), loses));
  }

  chosen_first : (bs cs ds : List ℕ) (m : Move) (u : Whole) → length bs ≡ length regions → AreReducedBelow regions t (length regions) bs cs
      → IsFirstKeeping regions t cs m u ds → Chooses t m
  chosen_first bs cs ds m u long reduced first =
      let move = first.keeps.moved in
      let many = reduced_long regions t (length regions) bs cs reduced ∙ long in
      inl (
        (u, move, loses_behind t u m move (budgets_win regions t.side u (budget_in regions ds) first.keeps.wins)),
        λ k (w, move', loses). first.first k w cs (winning_keeps cs w k many move' loses),
      )

  chosen_lost : (m : Move) → ¬ IsWinner t t.side → ChoosesUnwon t m → Chooses t m
  chosen_lost m nobody choice = by choice
    where
      none_wins : (k : Move) → ¬ IsWinning t k
      none_wins k (u, move, (n, l)) = nobody (inl (refl, (suc n, (u, (k, move), l))))

      by : ChoosesUnwon t m → Chooses t m
      by (inr (none, first)) = inr (none_wins, first)
      by (inl ((u, move, unwon), first)) = elim (has_winner (reached_on reached u m move) calm) [
        | inl wins ↦ absurd (unwon (inl (sym (move_turn t u m move), wins)))
        | inr loses ↦ absurd (none_wins m (u, move, loses))
      ]

pub plain_without_cycles : IsPlainWithoutCycles
plain_without_cycles g regions t u m kept left reached calm serves (None, has, (choice, move, is)) =
    chosen_lost reached calm m (has_nothing regions t kept has) choice
plain_without_cycles g regions t u m kept left reached calm serves (Some bs, has, (cs, ds, reduced, first, is)) =
    chosen_first reached calm bs cs ds m u (now_serves g regions reached.cut t kept bs serves has).0 reduced first
