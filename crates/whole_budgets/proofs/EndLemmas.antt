-- A game that the engine wins at its turn ends won.
use Rattle.std.proofs.Common.{ℕ, zero, suc, ◌≡◌, inl, refl, sym, subst, arith, List, length, replicate, Option, Some, None}
use Rattle.go_grid.specs.declared.grid.Colour.{Colour}
use Rattle.go_grid.specs.Board.{Board, other}
use Rattle.go_grid.specs.Region.{Region}
use Rattle.whole_rules.specs.declared.states.Move.{Move}
use Rattle.whole_rules.specs.FirstWinningMove.{IsLosing}
use Rattle.whole_rules.specs.WholeGame.{Whole}
use Rattle.whole_rules.proofs.PlainLaws.{move_turn}
use Rattle.local_trees.specs.Ending.{EndsWithin}
use Rattle.whole_budgets.specs.BudgetPlay.{AreAtMost, Budgeted, LeadsWithin, WinsWithCaptures}
use Rattle.whole_budgets.specs.EnginePlay.{AreReducedBelow, HasAtTurn, IsFirstKeeping, MovesWith, Serves, budget_in}
use Rattle.whole_budgets.proofs.BudgetListLemmas.{listed_after}
use Rattle.whole_budgets.proofs.BudgetPlayLemmas.{budgets_win, free, mine, paid_more, some_win, with}
use Rattle.whole_budgets.proofs.DecidedPlayLemmas.{least_of}
use Rattle.whole_budgets.specs.EngineLaws.{EndsAtTurn, EndsBehind, IsReached, WonGamesEnd}
use Rattle.whole_budgets.proofs.EngineMoveLemmas.{has_move}
use Rattle.whole_budgets.proofs.OneMoveLemmas.{one_now}
use Rattle.whole_budgets.proofs.ReachedLemmas.{budgets_or_not, play_ends, reached_on}
use Rattle.whole_budgets.proofs.ReducedLemmas.{less_budgets, now_serves, reduced_less}
use Rattle.whole_budgets.proofs.ServeLemmas.{loses_behind, serves_behind}

module _ (g : Board) (regions : List Region) where
  -- no play with the budgets has more than n moves
  abbrev Lasts : Colour → ℕ → Whole → (Region → ℕ) → Type 0
  Lasts owner n s b = EndsWithin Budgeted (LeadsWithin regions owner) n (with s b)

  abbrev HaveMost : List ℕ → (Region → ℕ) → Type 0
  HaveMost bs b = AreAtMost regions (budget_in regions bs) b

  -- a move of the engine's: the other side then loses, and none of the engine's budgets is greater than those with which play goes on
  record IsStep (s t : Whole) (b : Region → ℕ) (ds : List ℕ) : Type 0 where
    loses : IsLosing t
    after : Region → ℕ
    step : LeadsWithin regions s.side (with s b) (with t after)
    most : HaveMost ds after
    serves : Serves regions s.side t (Some ds)
    turn : t.side ≡ other s.side
    reached : IsReached g regions t

  engine_step : (s t : Whole) (m : Move) (bs cs ds : List ℕ) (b : Region → ℕ) → IsReached g regions s → Serves regions s.side s (Some bs)
      → HaveMost bs b → AreReducedBelow regions s (length regions) bs cs → IsFirstKeeping regions s cs m t ds → IsStep s t b ds
  engine_step s t m bs cs ds b reached (long, wins) most reduced first =
      let move = first.keeps.moved in
      let few = less_budgets g regions reached.cut cs bs (reduced_less regions s (length regions) bs cs reduced wins (omega (arith, long))) in
      let after = (listed_after g regions reached.cut s t m cs ds first.keeps.paid.many).0 first.keeps.paid in
      let (e, paid, more) = paid_more regions s.side s t m (budget_in regions cs) (budget_in regions ds) b
      (λ r i. omega (arith, few r i, most r i)) after in record {
        loses = loses_behind s t m move (budgets_win regions s.side t (budget_in regions ds) first.keeps.wins);
        after = e;
        step = (m, move, inl (refl, paid));
        most = more;
        serves = (first.keeps.paid.many, first.keeps.wins);
        turn = move_turn s t m move;
        reached = reached_on reached t m move;
      }

  -- what each move of the engine's leads to, at a turn at which it keeps budgets
  abbrev LeadsOn : ℕ → Whole → List ℕ → Type 0
  LeadsOn n s bs = (m : Move) (t : Whole) (left : Option (List ℕ)) → MovesWith regions s (Some bs) m t left → IsLosing t × EndsBehind regions n t left

  turn_ends : (n : ℕ) (s : Whole) (bs : List ℕ) → IsReached g regions s → Serves regions s.side s (Some bs) → LeadsOn n s bs
      → EndsAtTurn regions (suc n) s (Some bs)
  turn_ends n s bs reached serves each = (
    has_move reached bs serves.1,
    λ m t left (now, has, moves). each m t left (subst (λ z. MovesWith regions s z m t left) has moves),
  )

  -- the engine's budgets win, and are no greater than those with which no play has more than n moves
  mutual
    leads_on : (n : ℕ) (s : Whole) (bs : List ℕ) (b : Region → ℕ) → IsReached g regions s → Serves regions s.side s (Some bs) → HaveMost bs b
        → Lasts s.side n s b → LeadsOn n s bs
    leads_on zero s bs b reached serves most lasts = λ m t left (cs, ds, reduced, first, is).
        let w = engine_step s t m bs cs ds b reached serves most reduced first in
        absurd (lasts (with t w.after) w.step)
    leads_on (suc n) s bs b reached serves most lasts = λ m t left (cs, ds, reduced, first, is).
        let w = engine_step s t m bs cs ds b reached serves most reduced first in
        let ends = behind n s.side t ds w.after w.reached w.turn w.serves w.most (lasts (with t w.after) w.step) in
        (w.loses, subst (EndsBehind regions (suc n) t) (sym is) ends)

    behind : (n : ℕ) (owner : Colour) (s : Whole) (bs : List ℕ) (b : Region → ℕ) → IsReached g regions s → s.side ≡ other owner
        → Serves regions owner s (Some bs) → HaveMost bs b → Lasts owner n s b → EndsBehind regions (suc n) s (Some bs)
    behind zero owner s bs b reached turn serves most lasts = λ m t move. absurd (lasts (with t b) (free regions owner s t b turn (m, move)))
    behind (suc n) owner s bs b reached turn serves most lasts = λ m t move.
        let same : owner ≡ t.side = sym (mine regions owner s t m turn move) in
        let now = serves_behind regions s t m (Some bs) move (subst (λ c. Serves regions c s (Some bs)) same serves) in
        let fewer = subst (λ c. Lasts c n t b) same (lasts (with t b) (free regions owner s t b turn (m, move))) in
        turn_ends n t bs (reached_on reached t m move) now (leads_on n t bs b (reached_on reached t m move) now most fewer)

  -- with budgets that win the game ends won
  ends_with : (t : Whole) (bs : List ℕ) → IsReached g regions t → Serves regions t.side t (Some bs) → (n : ℕ) × EndsAtTurn regions n t (Some bs)
  ends_with t bs reached serves =
      let (n, lasts) = play_ends reached t.side (budget_in regions bs) in
      (suc n, turn_ends n t bs reached serves (leads_on n t bs (budget_in regions bs) reached serves (λ r i. omega arith) lasts))

  -- an engine that gets its budgets at this turn moves as one that had kept them
  as_kept : (n : ℕ) (t : Whole) (bs : List ℕ) → HasAtTurn regions t None (Some bs) → EndsAtTurn regions n t (Some bs) → EndsAtTurn regions n t None
  as_kept zero t bs has ends = ends
  as_kept (suc n) t bs has ((m, u, left, (now, is, moves)), each) = (
    (m, u, left, (Some bs, has, subst (λ z. MovesWith regions t z m u left) is moves)),
    λ k v kept (then, had, moved). each k v kept (then, one_now regions t None then (Some bs) had has, moved),
  )

pub won_games_end : WonGamesEnd
won_games_end g regions t (Some bs) reached serves wins = ends_with g regions t bs reached serves
won_games_end g regions t None reached serves wins =
    let (j, captures) = (some_win regions t.side t).0 wins in
    let (n, le, least_wins, least) = least_of (λ j. WinsWithCaptures regions t.side t j) (λ j. budgets_or_not reached t.side (λ r. j)) j captures in
    let bs = replicate (length regions) n in
    let has : HasAtTurn regions t None (Some bs) = (n, record { wins = least_wins; least = least }, refl) in
    let (most, ends) = ends_with g regions t bs reached (now_serves g regions reached.cut t None bs tt has) in
    (most, as_kept g regions most t bs has ends)
