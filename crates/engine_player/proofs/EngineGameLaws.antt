-- Games that the engine plays: its move is one, and what it has won it keeps.
use Rattle.std.proofs.Common.{◌≡◌, ℕ, zero, suc, ◌≤◌, List, length, inl, inr, sym, ap, ◌∙◌, subst, Option, Some, None, Ok}
use Rattle.go_grid.specs.Region.{Region}
use Rattle.whole_rules.specs.FirstWinningMove.{IsLosing, IsWinner}
use Rattle.whole_rules.specs.PlainRecursion.{MoverLoses, MoverWins}
use Rattle.whole_rules.specs.WholeGame.{Whole, IsMove, Leads}
use Rattle.whole_rules.specs.declared.states.Move.{Move}
use Rattle.whole_rules.proofs.PlainLaws.{move_same, move_turn}
use Rattle.endgame_solver.specs.Solved.{Chooses}
use Rattle.whole_budgets.specs.EnginePlay.{EngineMoves, HasAtTurn, MovesWith}
use Rattle.whole_budgets.proofs.BudgetPlayLemmas.{budgets_win, other_not}
use Rattle.engine_player.specs.Played.{EnginePlays, Keeping, Played, keeping_with}
use Rattle.engine_player.specs.EngineGame.{EngineGame, EngineGoes, GoesByHand, MovesKeeping}
use Rattle.whole_budgets.proofs.OneMoveLemmas.{one_engine_move}
use Rattle.engine_player.proofs.MoveLaws.{one_choice}

-- the engine's move is a move

with_moved : (regions : List Region) (s t : Whole) (now left : Option (List ℕ)) (m : Move) → MovesWith regions s now m t left → IsMove s m t
with_moved regions s t None left m (a, moved, is) = moved
with_moved regions s t (Some bs) left m (cs, ds, r, a, is) = a.keeps.moved

pub engine_moves_moved : (regions : List Region) (s t : Whole) (kept left : Option (List ℕ)) (m : Move) → EngineMoves regions s kept m t left → IsMove s m t
engine_moves_moved regions s t kept left m (now, has, moves) = with_moved regions s t now left m moves

keeping_moved : (s t : Whole) (k left : Option Keeping) (m : Move) → MovesKeeping k s m t left → IsMove s m t
keeping_moved s t None left m (a, moved, is) = moved
keeping_moved s t (Some keeping) left m (after, (kept, (now, has, a), are), is) = with_moved keeping.regions s t now kept m a

pub engine_moved : (p q : EngineGame) (m : Move) → EngineGoes p m q → IsMove p.state m q.state
engine_moved p q m goes = keeping_moved p.state q.state p.keeping q.keeping m goes

-- behind it the other side loses, where the engine wins

mover_wins : (s : Whole) → IsWinner s s.side → MoverWins Whole Leads s
mover_wins s (inl w) = w.1
mover_wins s (inr w) = absurd (other_not s.side w.0)

chosen_loses : (s t : Whole) (m : Move) → MoverWins Whole Leads s → Chooses s m → IsMove s m t → MoverLoses Whole Leads t
chosen_loses s t m wins (inl first) moved = subst (MoverLoses Whole Leads) (move_same s first.0.0 t m first.0.1 moved) first.0.2
chosen_loses s t m (zero, w) (inr none) moved = absurd w
chosen_loses s t m (suc n, w) (inr none) moved = absurd (none.0 w.1.0 (w.0, w.1.1, (n, w.2)))

other_loses : (s t : Whole) (m : Move) → IsMove s m t → IsWinner t s.side → IsLosing t
other_loses s t m moved (inl w) = absurd (other_not s.side (w.0 ∙ move_turn s t m moved))
other_loses s t m moved (inr w) = w.1

unwon : (regions : List Region) (s : Whole) (kept : Option (List ℕ)) → HasAtTurn regions s kept None → ¬ IsWinner s s.side
unwon regions s (Some bs) has = absurd (cc has)
unwon regions s None has = has

keeping_loses : (regions : List Region) (s t : Whole) (kept now left : Option (List ℕ)) (m : Move) → IsWinner s s.side → HasAtTurn regions s kept now
    → MovesWith regions s now m t left → IsLosing t
keeping_loses regions s t kept None left m wins has a = absurd (unwon regions s kept has wins)
keeping_loses regions s t kept (Some bs) left m wins has (cs, ds, r, a, is) =
    other_loses s t m a.keeps.moved (budgets_win regions s.side t _ a.keeps.wins)

pub engine_moves_lose : (regions : List Region) (s t : Whole) (kept left : Option (List ℕ)) (m : Move) → IsWinner s s.side
    → EngineMoves regions s kept m t left → IsLosing t
engine_moves_lose regions s t kept left m wins (now, has, moves) = keeping_loses regions s t kept now left m wins has moves

move_loses : (s t : Whole) (k left : Option Keeping) (m : Move) → IsWinner s s.side → MovesKeeping k s m t left → IsLosing t
move_loses s t None left m wins (a, moved, is) = chosen_loses s t m (mover_wins s wins) a moved
move_loses s t (Some keeping) left m wins (after, (kept, (now, has, a), are), is) =
    keeping_loses keeping.regions s t _ now kept m wins has a

pub engine_wins : (p q : EngineGame) (m : Move) → IsWinner p.state p.state.side → EngineGoes p m q → IsLosing q.state
engine_wins p q m wins goes = move_loses p.state q.state p.keeping q.keeping m wins goes

-- it is one

one_play : (p q r : Played) (l m : Move) → length p.state.board.cells ≤ 625 → EnginePlays p l q → EnginePlays p m r
    → (l ≡ m) × (q.state ≡ r.state) × (q.keeping ≡ r.keeping)
one_play p q r l m small (left, a, is) (then, b, are) =
    let (e, f, g) = one_engine_move p.keeping.regions p.state small _ left then l m q.state r.state a b in
    (e, f, is ∙ ap (λ z. keeping_with p.state.side z p.keeping) g ∙ sym are)

one_keeping_move : (s t u : Whole) (k left then : Option Keeping) (l m : Move) → length s.board.cells ≤ 625 → MovesKeeping k s l t left → MovesKeeping k s m u then
    → (l ≡ m) × (t ≡ u) × (left ≡ then)
one_keeping_move s t u None left then l m small (a, moved, is) (b, also, are) =
    let e = one_choice s l m small a b in
    (e, move_same s t u m (subst (λ k. IsMove s k t) e moved) also, is ∙ sym are)
one_keeping_move s t u (Some keeping) left then l m small (k, a, is) (h, b, are) =
    let (e, f, g) = one_play _ _ _ l m small a b in
    (e, f, is ∙ ap Some g ∙ sym are)

same_game : (p q : EngineGame) → p.state ≡ q.state → p.keeping ≡ q.keeping → p ≡ q
same_game p q e f = λ i. record { state = e i; keeping = f i }

pub one_engine_game : (p q r : EngineGame) (l m : Move) → length p.state.board.cells ≤ 625 → EngineGoes p l q → EngineGoes p m r → (l ≡ m) × (q ≡ r)
one_engine_game p q r l m small a b =
    let (e, f, g) = one_keeping_move p.state q.state r.state p.keeping q.keeping r.keeping l m small a b in
    (e, same_game q r f g)

pub one_by_hand : (p q r : EngineGame) (m : Move) → GoesByHand p m (Ok tt) q → GoesByHand p m (Ok tt) r → q ≡ r
one_by_hand p q r m (moved, is) (also, are) = same_game q r (move_same p.state q.state r.state m moved also) (is ∙ sym are)
