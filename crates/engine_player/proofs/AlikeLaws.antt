-- States that differ in their lists of contested points, but not in these points: the same moves lead on from them, and the engine's is one.
use Rattle.std.proofs.Common.{◌≡◌, ◌≤◌, ◌↔◌, ℕ, zero, suc, Bool, true, false, List, length, inl, inr, refl, sym, ap, ◌∙◌, subst, Option, Some, None, Ok, Err}
use Rattle.go_grid.specs.Marks.{IsMarked}
use Rattle.go_grid.specs.Region.{Region}
use Rattle.go_grid.specs.declared.grid.Colour.{Colour}
use Rattle.go_play.specs.Setup.{Setup}
use Rattle.whole_rules.specs.FirstWinningMove.{IsLosing, IsWinner, IsWinning}
use Rattle.whole_rules.specs.OpeningWith.{Ground}
use Rattle.whole_rules.specs.PlainRecursion.{LosesWithin, WinsWithin}
use Rattle.whole_rules.specs.WholeGame.{IsFirstMove, IsLegal, IsMove, Leads, Whole}
use Rattle.whole_rules.specs.declared.states.Move.{Move}
use Rattle.whole_rules.specs.declared.states.Move.TheVariants.{Stone, Spend, Half}
use Rattle.whole_rules.specs.declared.states.MoveError.{MoveError}
use Rattle.whole_rules.proofs.MoveLaws.{refused_not_legal}
use Rattle.whole_rules.proofs.OpeningLaws.{beside_komi}
use Rattle.endgame_solver.specs.Limits.{Limits}
use Rattle.endgame_solver.specs.Faults.{AreSound}
use Rattle.endgame_solver.specs.Solved.{Chooses, HasMove, OpensAs}
use Rattle.endgame_solver.proofs.BeginLaws.{one_regions}
use Rattle.whole_budgets.specs.BudgetPlay.{AreBudgetsAfter, Budgeted, LeadsWithin, WinsWithBudgets}
use Rattle.whole_budgets.specs.EnginePlay.{AreListedAfter, AreReducedBelow, ChoosesUnwon, EngineMoves, HasAtTurn, HoldsOff, IsLeastAt, KeepsWinning, MovesWith}
use Rattle.cycle_solver.specs.CycleFaults.{AreSteadyWithin}
use Rattle.cycle_solver.specs.declared.limits.TheConstants.{MOST_CAPTURES}
use Rattle.engine_player.specs.EngineGame.{EngineGame, EngineGoes, GoesByHand, MovesKeeping}
use Rattle.engine_player.specs.Opening.{OpensGame, OpensNone}
use Rattle.engine_player.specs.Played.{Keeping}
use Rattle.engine_player.proofs.EngineGameLaws.{engine_moved, one_by_hand, one_engine_game}

-- the same points are marked
abbrev pub AreMarkedAlike : List Bool → List Bool → Type 0
AreMarkedAlike x y = (p : ℕ) → IsMarked x p ↔ IsMarked y p

flipped : (x y : List Bool) → AreMarkedAlike x y → AreMarkedAlike y x
flipped x y alike = λ p. ((alike p).1, (alike p).0)

-- the state with the other list
abbrev pub with_marks : Whole → List Bool → Whole
with_marks w y = record w { contested = y }

move_alike : (w t : Whole) (y : List Bool) (m : Move) → AreMarkedAlike w.contested y → IsMove w m t → IsMove (with_marks w y) m (with_marks t y)
move_alike w t y (Stone p) alike (marked, (h, (n, placed, taken, is))) = ((alike p).0 marked, (h, (n, placed, taken, ap (λ z. with_marks z y) is)))
move_alike w t y Spend alike (some, is) = (some, ap (λ z. with_marks z y) is)
move_alike w t y Half alike (some, is) = (some, ap (λ z. with_marks z y) is)

marks_stay : (w t : Whole) (m : Move) → IsMove w m t → t.contested ≡ w.contested
marks_stay w t (Stone p) (marked, (h, (n, placed, taken, is))) = ap (λ z. z.contested) is
marks_stay w t Spend (some, is) = ap (λ z. z.contested) is
marks_stay w t Half (some, is) = ap (λ z. z.contested) is

pub move_back : (w u : Whole) (y : List Bool) (m : Move) → AreMarkedAlike w.contested y → IsMove (with_marks w y) m u → IsMove w m (with_marks u w.contested)
move_back w u y m alike move = move_alike (with_marks w y) u w.contested m (flipped w.contested y alike) move

-- behind a move too
alike_on : (w t : Whole) (y : List Bool) (m : Move) → AreMarkedAlike w.contested y → IsMove w m t → AreMarkedAlike t.contested y
alike_on w t y m alike move = subst (λ x. AreMarkedAlike x y) (sym (marks_stay w t m move)) alike

same_marks : (w u : Whole) (y : List Bool) (m : Move) → IsMove (with_marks w y) m u → with_marks u y ≡ u
same_marks w u y m move = let e = marks_stay (with_marks w y) u m move in λ i. record u { contested = sym e i }

mutual
  pub wins_alike : (n : ℕ) (w : Whole) (y : List Bool) → AreMarkedAlike w.contested y → WinsWithin Whole Leads n w → WinsWithin Whole Leads n (with_marks w y)
  wins_alike zero w y alike wins = wins
  wins_alike (suc n) w y alike (t, (m, move), loses) = (with_marks t y, (m, move_alike w t y m alike move), loses_alike n t y (alike_on w t y m alike move) loses)

  loses_alike : (n : ℕ) (w : Whole) (y : List Bool) → AreMarkedAlike w.contested y → LosesWithin Whole Leads n w → LosesWithin Whole Leads n (with_marks w y)
  loses_alike zero w y alike loses = λ u (m, move). loses (with_marks u w.contested) (m, move_back w u y m alike move)
  loses_alike (suc n) w y alike loses = λ u (m, move).
      subst (WinsWithin Whole Leads n) (same_marks w u y m move)
      (wins_alike n (with_marks u w.contested) y alike (loses (with_marks u w.contested) (m, move_back w u y m alike move)))

losing_alike : (w : Whole) (y : List Bool) → AreMarkedAlike w.contested y → IsLosing w → IsLosing (with_marks w y)
losing_alike w y alike (n, loses) = (n, loses_alike n w y alike loses)

winner_alike : (w : Whole) (y : List Bool) (c : Colour) → AreMarkedAlike w.contested y → IsWinner w c → IsWinner (with_marks w y) c
winner_alike w y c alike (inl (side, (n, wins))) = inl (side, (n, wins_alike n w y alike wins))
winner_alike w y c alike (inr (side, loses)) = inr (side, losing_alike w y alike loses)

pub winning_alike : (w : Whole) (y : List Bool) (m : Move) → AreMarkedAlike w.contested y → IsWinning w m → IsWinning (with_marks w y) m
winning_alike w y m alike (t, move, loses) = (with_marks t y, move_alike w t y m alike move, losing_alike t y (alike_on w t y m alike move) loses)

pub legal_alike : (w : Whole) (y : List Bool) (m : Move) → AreMarkedAlike w.contested y → IsLegal w m → IsLegal (with_marks w y) m
legal_alike w y m alike (t, move) = (with_marks t y, move_alike w t y m alike move)

first_alike : (w : Whole) (y : List Bool) (m : Move) → AreMarkedAlike w.contested y → IsFirstMove w (Some m) → IsFirstMove (with_marks w y) (Some m)
first_alike w y m alike (legal, first) = (legal_alike w y m alike legal, λ k also. first k (legal_alike (with_marks w y) w.contested k (flipped w.contested y alike) also))

chooses_alike : (w : Whole) (y : List Bool) (m : Move) → AreMarkedAlike w.contested y → Chooses w m → Chooses (with_marks w y) m
chooses_alike w y m alike (inl (wins, first)) = inl (winning_alike w y m alike wins, λ k also. first k (winning_alike (with_marks w y) w.contested k (flipped w.contested y alike) also))
chooses_alike w y m alike (inr (none, first)) = inr (λ k also. none k (winning_alike (with_marks w y) w.contested k (flipped w.contested y alike) also), first_alike w y m alike first)

-- play with budgets
paid_alike : (regions : List Region) (w t : Whole) (x y : List Bool) (m : Move) (b c : Region → ℕ) → AreBudgetsAfter regions w m t b c → AreBudgetsAfter regions (with_marks w x) m (with_marks t y) b c
paid_alike regions w t x y (Stone p) b c paid = paid
paid_alike regions w t x y Spend b c paid = paid
paid_alike regions w t x y Half b c paid = paid

listed_alike : (regions : List Region) (w t : Whole) (x y : List Bool) (m : Move) (bs cs : List ℕ) → AreListedAfter regions w m t bs cs → AreListedAfter regions (with_marks w x) m (with_marks t y) bs cs
listed_alike regions w t x y (Stone p) bs cs paid = record { many = paid.many; each = paid.each }
listed_alike regions w t x y Spend bs cs paid = record { many = paid.many; each = paid.each }
listed_alike regions w t x y Half bs cs paid = record { many = paid.many; each = paid.each }

module _ (regions : List Region) where
  abbrev with : Whole → List Bool → (Region → ℕ) → Budgeted
  with w y b = record { state = with_marks w y; budgets = b }

  module _ (owner : Colour) where
    abbrev Step : Budgeted → Budgeted → Type 0
    Step = LeadsWithin regions owner

    step_alike : (w t : Whole) (y : List Bool) (b c : Region → ℕ) → AreMarkedAlike w.contested y → Step (with w w.contested b) (with t t.contested c) → Step (with w y b) (with t y c)
    step_alike w t y b c alike (m, move, inl (own, paid)) = (m, move_alike w t y m alike move, inl (own, paid_alike regions w t y y m b c paid))
    step_alike w t y b c alike (m, move, inr (other, same)) = (m, move_alike w t y m alike move, inr (other, same))

    step_back : (w u : Whole) (y : List Bool) (b c : Region → ℕ) → AreMarkedAlike w.contested y → Step (with w y b) (with u u.contested c) → Step (with w w.contested b) (with u w.contested c)
    step_back w u y b c alike step = step_alike (with_marks w y) u w.contested b c (flipped w.contested y alike) step

    mutual
      budgets_win_alike : (n : ℕ) (w : Whole) (y : List Bool) (b : Region → ℕ) → AreMarkedAlike w.contested y → WinsWithin Budgeted Step n (with w w.contested b) → WinsWithin Budgeted Step n (with w y b)
      budgets_win_alike zero w y b alike wins = wins
      budgets_win_alike (suc n) w y b alike (q, step, loses) =
          (with q.state y q.budgets, step_alike w q.state y b q.budgets alike step, budgets_lose_alike n q.state y q.budgets (alike_on w q.state y step.0 alike step.1) loses)

      budgets_lose_alike : (n : ℕ) (w : Whole) (y : List Bool) (b : Region → ℕ) → AreMarkedAlike w.contested y → LosesWithin Budgeted Step n (with w w.contested b) → LosesWithin Budgeted Step n (with w y b)
      budgets_lose_alike zero w y b alike loses = λ q step. loses (with q.state w.contested q.budgets) (step_back w q.state y b q.budgets alike step)
      budgets_lose_alike (suc n) w y b alike loses = λ q step.
          subst (λ z. WinsWithin Budgeted Step n (record { state = z; budgets = q.budgets })) (same_marks w q.state y step.0 step.1)
          (budgets_win_alike n (with_marks q.state w.contested) y q.budgets alike (loses (with q.state w.contested q.budgets) (step_back w q.state y b q.budgets alike step)))

    budgets_alike : (w : Whole) (y : List Bool) (b : Region → ℕ) → AreMarkedAlike w.contested y → WinsWithBudgets regions owner w b → WinsWithBudgets regions owner (with_marks w y) b
    budgets_alike w y b alike (inl (side, (n, wins))) = inl (side, (n, budgets_win_alike n w y b alike wins))
    budgets_alike w y b alike (inr (side, (n, loses))) = inr (side, (n, budgets_lose_alike n w y b alike loses))

  module _ (w : Whole) (y : List Bool) (alike : AreMarkedAlike w.contested y) where
    back : AreMarkedAlike y w.contested
    back = flipped w.contested y alike

    has_alike : (kept now : Option (List ℕ)) → HasAtTurn regions w kept now → HasAtTurn regions (with_marks w y) kept now
    has_alike (Some bs) now is = is
    has_alike None (Some bs) (n, least, is) = (
      n,
      record {
        wins = budgets_alike w.side w y (λ r. n) alike least.wins;
        least = λ j lt wins. least.least j lt (budgets_alike w.side (with_marks w y) w.contested (λ r. j) back wins);
      },
      is,
    )
    has_alike None None none = λ wins. none (winner_alike (with_marks w y) w.contested w.side back wins)

    least_alike : (bs : List ℕ) (k n : ℕ) → IsLeastAt regions w bs k n → IsLeastAt regions (with_marks w y) bs k n
    least_alike bs k n least = record {
      wins = budgets_alike w.side w y _ alike least.wins;
      least = λ j lt wins. least.least j lt (budgets_alike w.side (with_marks w y) w.contested _ back wins);
    }

    reduced_alike : (k : ℕ) (bs cs : List ℕ) → AreReducedBelow regions w k bs cs → AreReducedBelow regions (with_marks w y) k bs cs
    reduced_alike zero bs cs is = is
    reduced_alike (suc k) bs cs (ds, n, reduced, least, is) = (ds, n, reduced_alike k bs ds reduced, least_alike ds k n least, is)

  keeps_alike : (w t : Whole) (y : List Bool) (m : Move) (bs cs : List ℕ) → AreMarkedAlike w.contested y → KeepsWinning regions w bs m t cs → KeepsWinning regions (with_marks w y) bs m (with_marks t y) cs
  keeps_alike w t y m bs cs alike keeps = record {
    moved = move_alike w t y m alike keeps.moved;
    paid = listed_alike regions w t y y m bs cs keeps.paid;
    wins = budgets_alike w.side t y _ (alike_on w t y m alike keeps.moved) keeps.wins;
  }

  module _ (w : Whole) (y : List Bool) (alike : AreMarkedAlike w.contested y) where
    holds_alike : (m : Move) → HoldsOff w m → HoldsOff (with_marks w y) m
    holds_alike m (t, move, unwon) = (
      with_marks t y,
      move_alike w t y m alike move,
      λ wins. unwon (winner_alike (with_marks t y) t.contested _ (flipped t.contested y (alike_on w t y m alike move)) wins),
    )

  module _ (w : Whole) (y : List Bool) (alike : AreMarkedAlike w.contested y) where
    unwon_alike : (m : Move) → ChoosesUnwon w m → ChoosesUnwon (with_marks w y) m
    unwon_alike m (inl (holds, first)) = inl (holds_alike w y alike m holds, λ k also. first k (holds_alike (with_marks w y) w.contested (flipped w.contested y alike) k also))
    unwon_alike m (inr (none, first)) = inr (λ k also. none k (holds_alike (with_marks w y) w.contested (flipped w.contested y alike) k also), first_alike w y m alike first)

    with_alike : (now left : Option (List ℕ)) (m : Move) (t : Whole) → MovesWith regions w now m t left → MovesWith regions (with_marks w y) now m (with_marks t y) left
    with_alike None left m t (choice, move, is) = (unwon_alike m choice, move_alike w t y m alike move, is)
    with_alike (Some bs) left m t (cs, ds, reduced, first, is) = (
      cs,
      ds,
      reduced_alike w y alike (length regions) bs cs reduced,
      record {
        keeps = keeps_alike w t y m cs ds alike first.keeps;
        first = λ k u es keeps. first.first k (with_marks u w.contested) es (keeps_alike (with_marks w y) u w.contested k cs es (flipped w.contested y alike) keeps);
      },
      is,
    )

    engine_alike : (kept left : Option (List ℕ)) (m : Move) (t : Whole) → EngineMoves regions w kept m t left → EngineMoves regions (with_marks w y) kept m (with_marks t y) left
    engine_alike kept left m t (now, has, moves) = (now, has_alike w y alike kept now has, with_alike now left m t moves)

keeping_alike : (k left : Option Keeping) (w t : Whole) (y : List Bool) (m : Move) → AreMarkedAlike w.contested y → MovesKeeping k w m t left → MovesKeeping k (with_marks w y) m (with_marks t y) left
keeping_alike None left w t y m alike (choice, move, is) = (chooses_alike w y m alike choice, move_alike w t y m alike move, is)
keeping_alike (Some keeping) left w t y m alike (after, (kept, moves, are), is) = (after, (kept, engine_alike keeping.regions w y alike _ kept m t moves, are), is)

-- the game with the other list
abbrev game_with : EngineGame → List Bool → EngineGame
game_with p y = record { state = with_marks p.state y; keeping = p.keeping }

-- two games that differ in these lists alone
pub record AreAlike (p q : EngineGame) : Type 0 where
  pub marks : AreMarkedAlike p.state.contested q.state.contested
  pub same : q ≡ game_with p q.state.contested

alike_with : (p q : EngineGame) (y : List Bool) → AreMarkedAlike p.state.contested y → game_with p y ≡ q → AreAlike p q
alike_with p q y alike is = subst (AreAlike p) is (record { marks = alike; same = refl })

pub alike_back : (p q : EngineGame) → AreAlike p q → AreAlike q p
alike_back p q a = subst (λ z. AreAlike z p) (sym a.same) (record { marks = flipped p.state.contested q.state.contested a.marks; same = refl })

pub alike_board : (p q : EngineGame) → AreAlike p q → p.state.board ≡ q.state.board
alike_board p q a = sym (ap (λ z. z.state.board) a.same)

pub alike_side : (p q : EngineGame) → AreAlike p q → p.state.side ≡ q.state.side
alike_side p q a = sym (ap (λ z. z.state.side) a.same)

-- from alike games the engine makes one move, to alike games
pub goes_alike : (p q r u : EngineGame) (l m : Move) → length p.state.board.cells ≤ 625 → AreAlike p q → EngineGoes p l r → EngineGoes q m u → (l ≡ m) × AreAlike r u
goes_alike p q r u l m small a b c =
    let y = q.state.contested in
    let goes = subst (λ z. EngineGoes z l (game_with r y)) (sym a.same) (keeping_alike p.keeping r.keeping p.state r.state y l a.marks b) in
    let (same, is) = one_engine_game q (game_with r y) u l m (subst (λ g. length g.cells ≤ 625) (alike_board p q a) small) goes c in
    (same, alike_with r u y (alike_on p.state r.state y l a.marks (engine_moved p r l b)) is)

-- a move by hand leads to alike games, or is refused in both
pub hand_alike : (p q r u : EngineGame) (m : Move) → AreAlike p q → GoesByHand p m (Ok tt) r → GoesByHand q m (Ok tt) u → AreAlike r u
hand_alike p q r u m a b c =
    let y = q.state.contested in
    let goes = subst (λ z. GoesByHand z m (Ok tt) (game_with r y)) (sym a.same) (move_alike p.state r.state y m a.marks b.0, b.1) in
    alike_with r u y (alike_on p.state r.state y m a.marks b.0) (one_by_hand q (game_with r y) u m goes c)

pub hand_refused : (p q r u : EngineGame) (m : Move) (e : MoveError) → AreAlike p q → GoesByHand p m (Ok tt) r → GoesByHand q m (Err e) u → ⊥
hand_refused p q r u m e a b c =
    refused_not_legal q.state m e c.1 (subst (λ z. IsLegal z.state m) (sym a.same) (legal_alike p.state q.state.contested m a.marks (r.state, b.0)))

pub has_move_alike : (p q : EngineGame) → AreAlike p q → HasMove p.state → HasMove q.state
has_move_alike p q a (m, legal) = (m, subst (λ z. IsLegal z.state m) (sym a.same) (legal_alike p.state q.state.contested m a.marks legal))

-- the purses with which a position opens
pub opened_purses : (tax : Bool) (setup : Setup) (s t : Whole) → OpensAs setup tax s → OpensAs setup tax t → s.purses ≡ t.purses
opened_purses tax setup s t p q =
    let x : Ground = record { board = setup.board; black_prisoners = setup.black_prisoners; white_prisoners = setup.white_prisoners; tax = tax } in
    let points = beside_komi x setup.komi_halves setup.side s p in
    let black = points.1.black setup.komi_halves setup.side s p ∙ sym (points.1.black setup.komi_halves setup.side t q) in
    let white = points.1.white setup.komi_halves setup.side s p ∙ sym (points.1.white setup.komi_halves setup.side t q) in
    λ i. record { black = black i; white = white i; token = (p.token ∙ sym q.token) i }

-- a position opens alike games
alike_opened : (tax : Bool) (setup : Setup) (p q : EngineGame) → OpensAs setup tax p.state → OpensAs setup tax q.state → p.keeping ≡ q.keeping → AreAlike p q
alike_opened tax setup p q a b kept = record {
  marks = λ r. ((λ marked. (b.contested r).1 ((a.contested r).0 marked)), (λ marked. (a.contested r).1 ((b.contested r).0 marked)));
  same = λ i. record {
    state = record { board = (b.board ∙ sym a.board) i; contested = q.state.contested; purses = sym (opened_purses tax setup p.state q.state a b) i; side = (b.turn ∙ sym a.turn) i };
    keeping = sym kept i;
  };
}

pub opens_alike : (cycles : Bool) (limits : Limits) (tax : Bool) (setup : Setup) (p q : EngineGame) → OpensGame cycles limits tax setup p → OpensGame cycles limits tax setup q → AreAlike p q
opens_alike false limits tax setup p q (a, none) (b, nor) = alike_opened tax setup p q a.opening b.opening (none ∙ sym nor)
opens_alike true limits tax setup p q (k, (a, cut, steady, black, white, moves), is) (l, (b, also_cut, also_steady, also_black, also_white, also_moves), also_is) =
    let regions = one_regions setup.board k.regions l.regions cut also_cut in
    let same : k ≡ l = λ i. record { regions = regions i; black = (black ∙ sym also_black) i; white = (white ∙ sym also_white) i; moves = (moves ∙ sym also_moves) i } in
    alike_opened tax setup p q a b (is ∙ ap Some same ∙ sym also_is)

-- a position opens a game or none
pub opens_or_not : (cycles : Bool) (limits : Limits) (tax : Bool) (setup : Setup) (p : EngineGame) → OpensGame cycles limits tax setup p → OpensNone cycles limits setup → ⊥
opens_or_not false limits tax setup p (a, none) (regions, cut, unsound) = unsound (subst (AreSound limits) (one_regions setup.board a.regions regions a.are_regions cut) a.sound)
opens_or_not true limits tax setup p (k, (a, cut, steady, black, white, moves), is) (regions, also_cut, unsteady) =
    unsteady (subst (AreSteadyWithin limits MOST_CAPTURES) (one_regions setup.board k.regions regions cut also_cut) steady)

pub opened_board : (cycles : Bool) (limits : Limits) (tax : Bool) (setup : Setup) (p : EngineGame) → OpensGame cycles limits tax setup p → p.state.board ≡ setup.board
opened_board false limits tax setup p (a, none) = a.opening.board
opened_board true limits tax setup p (k, (a, cut, steady, black, white, moves), is) = a.board
