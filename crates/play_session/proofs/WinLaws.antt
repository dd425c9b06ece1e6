-- An engine that has won keeps its win.
use Rattle.std.proofs.Common.{◌≡◌, ◌≢◌, ◌⊎◌, ℕ, zero, suc, List, [], inl, inr, sym, ap, ◌∙◌, subst, arith, Option, Some, None, Ok, Err, Result, IfOk, get_or}
use Rattle.go_grid.specs.declared.grid.Colour.{Colour}
use Rattle.go_grid.specs.declared.grid.Colour.TheVariants as colour
use Rattle.go_grid.specs.Board.{other}
use Rattle.board_words.specs.Words.{winner_line, word_line}
use Rattle.whole_rules.specs.FirstWinningMove.{IsWinner}
use Rattle.whole_rules.specs.PlainRecursion.{MoverWins, MoverLoses}
use Rattle.whole_rules.specs.WholeGame.{Whole, Leads, IsFirstMove}
use Rattle.whole_rules.specs.declared.states.Move.{Move}
use Rattle.whole_rules.proofs.PlainLaws.{move_turn}
use Rattle.play_session.proofs.SideLaws.{other_not, other_twice}
use Rattle.play_session.specs.declared.fault.Fault.{Fault}
use Rattle.play_session.specs.declared.end.SessionEnd.{SessionEnd}
use Rattle.play_session.specs.declared.end.SessionEnd.TheVariants.{Won, Lost, InputEnded, ReadFault, WriteFault, TooManyLines}
use Rattle.endgame_solver.specs.Solved.{HasMove}
use Rattle.engine_player.specs.EngineGame.{EngineGame}
use Rattle.engine_player.proofs.EngineGameLaws.{engine_moved, engine_wins}
use Rattle.play_session.specs.Session.{Standing, EngineMoves, AnswersOpponent, Turn, Turns, Ends, input_line}
use Rattle.play_session.specs.inner.Written.{MovesOrStays}
use Rattle.play_session.specs.Laws.{KeepsWin, WinIsKept}

mover_wins : (s : Whole) (e : Colour) → s.side ≡ e → IsWinner s e → MoverWins Whole Leads s
mover_wins s e turn (inl w) = w.1
mover_wins s e turn (inr w) = absurd (other_not s.side (turn ∙ w.0))

mover_loses : (s : Whole) (e : Colour) → s.side ≡ other e → IsWinner s e → MoverLoses Whole Leads s
mover_loses s e turn (inl w) = absurd (other_not e (w.0 ∙ turn))
mover_loses s e turn (inr w) = w.1

answered_wins : (s t : Whole) → MoverLoses Whole Leads s → Leads s t → MoverWins Whole Leads t
answered_wins s t (zero, l) move = absurd (l t move)
answered_wins s t (suc n, l) move = (n, l t move)

no_move : (s : Whole) → MoverWins Whole Leads s → HasMove s
no_move s (zero, w) = absurd w
no_move s (suc n, w) = (w.1.0, (w.0, w.1.1))

pub engine_keeps : (p q : EngineGame) (e : Colour) (text : List ℕ) → p.state.side ≡ e → IsWinner p.state e → EngineMoves p text q → IsWinner q.state e
engine_keeps p q e text turn w m =
    let moved = engine_moved p q m.chosen m.goes in
    inr (
      sym turn ∙ sym (other_twice p.state.side) ∙ sym (ap other (move_turn p.state q.state m.chosen moved)),
      engine_wins p q m.chosen (subst (IsWinner p.state) (sym turn) w) m.goes,
    )

pub opponent_keeps : (s t : Whole) (e : Colour) → s.side ≡ other e → IsWinner s e → MovesOrStays s t → IsWinner t e
opponent_keeps s t e turn w (inl move) =
    inl (sym (other_twice e) ∙ sym (ap other turn) ∙ sym (move_turn s t move.0 move.1), answered_wins s t (mover_loses s e turn w) move)
opponent_keeps s t e turn w (inr same) = subst (λ x. IsWinner x e) (sym same) w

pub not_lost : (s : Whole) (e : Colour) → s.side ≡ e → IsWinner s e → ¬ HasMove s → ⊥
not_lost s e turn w none = none (no_move s (mover_wins s e turn w))

pub answers_step : (p q : EngineGame) (asked : Option Move) (text : List ℕ) → AnswersOpponent p asked text q → MovesOrStays p.state q.state
answers_step p q None text a = inr (ap (λ x. x.state) a.1)
answers_step p q (Some m) text (Ok u, h, e) = inl (m, h.0)
answers_step p q (Some m) text (Err f, h, e) = inr (ap (λ x. x.state) h.0)

first : List ℕ → ℕ
first text = get_or text 7 0

other_winner : (e : Colour) → winner_line e ≢ winner_line (other e)
unfolding word_line first
other_winner colour.Black e = absurd (omega (arith, ap first e))
other_winner colour.White e = absurd (omega (arith, ap first e))

not_winner : (e : Colour) → [] ≢ winner_line e
unfolding word_line first
not_winner colour.Black e = absurd (omega (arith, ap first e))
not_winner colour.White e = absurd (omega (arith, ap first e))

no_input : (e : Colour) → input_line ≢ winner_line e
unfolding word_line first
no_input colour.Black e = absurd (omega (arith, ap first e))
no_input colour.White e = absurd (omega (arith, ap first e))

never_lost : (engine : Colour) (a : Standing) (text : List ℕ) (end : SessionEnd) → IsWinner a.game.state engine → Ends engine a text end → (end ≢ Lost) × (text ≢ winner_line (other engine))
never_lost engine a text Won w e = (λ i. cc, λ i. other_winner engine (sym e.2 ∙ i))
never_lost engine a text Lost w e = absurd (not_lost a.game.state engine e.1 w e.0)
never_lost engine a text TooManyLines w e = (λ i. cc, λ i. not_winner (other engine) (sym e.2 ∙ i))
never_lost engine a text InputEnded w e = (λ i. cc, λ i. no_input (other engine) (sym e.3 ∙ i))
never_lost engine a text ReadFault w e = absurd e
never_lost engine a text WriteFault w e = absurd e

keeps_here : (engine : Colour) (a : Standing) → IsWinner a.game.state engine → KeepsWin engine a
keeps_here engine a w = record {
  winner = w;
  loses = λ text b t. engine_wins a.game b.game t.moved.chosen (subst (IsWinner a.game.state) (sym t.turn) w) t.moved.goes;
  never_lost = λ text end e. never_lost engine a text end w e;
}

turn_keeps : (engine : Colour) (a b : Standing) (text : List ℕ) → IsWinner a.game.state engine → Turn engine a text b → IsWinner b.game.state engine
turn_keeps engine a b text w (inl t) = engine_keeps a.game b.game engine text t.turn w t.moved
turn_keeps engine a b text w (inr t) = opponent_keeps a.game.state b.game.state engine t.turn.0 w (answers_step a.game b.game t.asked text t.answered)

turns_keep : (engine : Colour) (n : ℕ) (a b : Standing) (text : List ℕ) → IsWinner a.game.state engine → Turns engine n a text b → IsWinner b.game.state engine
turns_keep engine zero a b text w t = subst (λ x. IsWinner x.game.state engine) (sym t.1) w
turns_keep engine (suc n) a c text w t = turn_keeps engine t.0 c t.1.1 (turns_keep engine n a t.0 t.1.0 w t.1.2) t.1.3

pub win_is_kept : WinIsKept
win_is_kept engine a b n text w t = keeps_here engine b (turns_keep engine n a b text w t)

-- where the side to move has no move, the engine doesn't lose what it has won
pub end_keeps : (s : Whole) (e winner : Colour) (result : Result (Option SessionEnd) Fault) → IsWinner s e → IsFirstMove s None → winner ≡ other s.side
    → IfOk result (λ end. ((end ≡ Some Won) × (winner ≡ e)) ⊎ ((end ≡ Some Lost) × (winner ≡ other e))) → result ≢ Ok (Some Lost)
end_keeps s e winner (Err f) w none is h i = absurd (cc i)
end_keeps s e winner (Ok None) w none is h i = absurd (cc i)
end_keeps s e winner (Ok (Some end)) w none is (inl h) i = let same : Some end ≡ Some Lost = cc i in absurd (cc (sym h.0 ∙ same))
end_keeps s e winner (Ok (Some end)) w none is (inr h) i = not_lost s e (sym (other_twice s.side) ∙ ap other (sym is ∙ h.1) ∙ other_twice e) w (λ m. none m.0 m.1)
