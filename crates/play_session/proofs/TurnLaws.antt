-- A session turn by turn.
use Rattle.std.proofs.Common.{◌≡◌, ◌≢◌, ◌⊎◌, ℕ, ◌+◌, ◌≤◌, List, [], ◌++◌, length, take, drop, inl, inr, refl, sym, ap, ◌∙◌, subst, arith, append_assoc, append-nil, take-append-drop, Option, Some, None, Ok, Err, Result, IfOk}
use Rattle.desk_io.specs.declared.lines.TheConstants.{MOST_LINES}
use Rattle.std.specs.Prelude.{IsErrOf}
use Rattle.std.specs.Io.KnownBytes.{append_known}
use Rattle.desk_io.specs.Outside.{Appends}
use Rattle.go_grid.specs.declared.grid.Colour.{Colour}
use Rattle.go_grid.specs.Board.{other}
use Rattle.board_words.specs.Words.{winner_line}
use Rattle.engine_player.specs.EngineGame.{EngineGame}
use Rattle.whole_rules.specs.declared.states.Move.{Move}
use Rattle.play_session.proofs.SideLaws.{one_side, other_twice}
use Rattle.play_session.specs.declared.end.SessionEnd.{SessionEnd}
use Rattle.play_session.specs.declared.end.SessionEnd.TheVariants.{Won, Lost, InputEnded}
use Rattle.play_session.specs.declared.fault.Fault.{Fault}
use Rattle.play_session.specs.declared.fault.Fault.TheVariants.{Read, Write}
use Rattle.play_session.specs.declared.session.Request.TheVariants.{Ended, Line}
use Rattle.endgame_solver.specs.Solved.{HasMove}
use Rattle.play_session.specs.Session.{Standing, EngineMoves, AnswersOpponent, IsToAnswer, Turn, Ends, IsNextLine, input_line}
use Rattle.play_session.specs.Written.{Session, standing}
use Rattle.play_session.specs.inner.Written.{TurnWritten, IsRequested}
use Rattle.desk_io.specs.Lines.{IsSameInput}

pub append_none : (told : Option (List ℕ)) → told ≡ append_known told []
append_none None = refl
append_none (Some xs) = ap Some (sym (append-nil xs))

pub append_twice : (told : Option (List ℕ)) (a b : List ℕ) → append_known (append_known told a) b ≡ append_known told (a ++ b)
append_twice None a b = refl
append_twice (Some xs) a b = ap Some (append_assoc xs a b)

-- a write failed
pub turn_failed : (engine : Colour) (a : Standing) (before now : Option (List ℕ)) (f : Fault) (session : Session) (read : ℕ) (left : Option (List ℕ)) (text : List ℕ)
    → IsNextLine engine a text → f ≢ Read → (n : ℕ) × (n ≤ length text) × (now ≡ append_known before (take n text)) → TurnWritten engine a before now (Err f) session read left
turn_failed engine a before now Read session read left text is ne w = absurd (ne refl)
turn_failed engine a before now Write session read left text is ne w = (take w.0 text, drop w.0 text, subst (IsNextLine engine a) (sym (take-append-drop w.0 text)) is, w.2)

module _ (session : Session) (read : ℕ) (bytes : List ℕ) (left before now : Option (List ℕ)) where
  -- the opponent's line can't be read
  pub turn_unread : (input : List ℕ) → IsToAnswer session.engine session.game.state → read ≤ MOST_LINES → read ≢ MOST_LINES → IsSameInput session.held (Some bytes) input left
      → TurnWritten session.engine (standing session read bytes) before before (Err Read) (record { game = session.game; engine = session.engine; held = input }) read left
  turn_unread input turn few ne same =
      let r = same bytes refl in (r.0, r.1, turn, omega (arith, few, ne), (λ i. record { game = session.game; read = read; left = r.2 i }), refl)

  -- the opponent's line was answered
  pub answered_turn : (asked : Option Move) (input text : List ℕ) (t : EngineGame) → IsToAnswer session.engine session.game.state → read ≤ MOST_LINES → read ≢ MOST_LINES → IsRequested session.game.state.board (session.held ++ bytes) (Line asked) input left
      → AnswersOpponent session.game asked text t → (rest : List ℕ) × (left ≡ Some rest) × Turn session.engine (standing session read bytes) text (standing (record { game = t; engine = session.engine; held = input }) (read + 1) rest)
  answered_turn asked input text t turn few ne r a = (
    r.0,
    r.2,
    inr (record {
      turn = turn;
      few = omega (arith, few, ne);
      some = r.3;
      line = r.1;
      asked = asked;
      taken = r.4;
      asks = r.5;
      answered = a;
      counted = refl;
    }),
  )

  pub answer_written : (asked : Option Move) (input : List ℕ) (t : EngineGame) (text : List ℕ) → IsToAnswer session.engine session.game.state → read ≤ MOST_LINES → read ≢ MOST_LINES → IsRequested session.game.state.board (session.held ++ bytes) (Line asked) input left
      → AnswersOpponent session.game asked text t → now ≡ append_known before text → TurnWritten session.engine (standing session read bytes) before now (Ok None) (record { game = t; engine = session.engine; held = input }) (read + 1) left
  answer_written asked input t text turn few ne r a e = let h = answered_turn asked input text t turn few ne r a in (h.0, text, h.1, h.2, e)

  pub answer_failed : (asked : Option Move) (input : List ℕ) (t : EngineGame) (text : List ℕ) (f : Fault) (new : Session) (count : ℕ) → IsToAnswer session.engine session.game.state → read ≤ MOST_LINES → read ≢ MOST_LINES → IsRequested session.game.state.board (session.held ++ bytes) (Line asked) input left
      → AnswersOpponent session.game asked text t → f ≢ Read → (n : ℕ) × (n ≤ length text) × (now ≡ append_known before (take n text)) → TurnWritten session.engine (standing session read bytes) before now (Err f) new count left
  answer_failed asked input t text f new count turn few ne r a write w =
      let h = answered_turn asked input text t turn few ne r a in turn_failed session.engine (standing session read bytes) before now f new count left text (inl (standing (record { game = t; engine = session.engine; held = input }) (read + 1) h.0, h.2)) write w

  -- the input was at its end
  pub input_ended : (input : List ℕ) (result : Result (Option SessionEnd) Fault) → IsToAnswer session.engine session.game.state → read ≤ MOST_LINES → read ≢ MOST_LINES → IsRequested session.game.state.board (session.held ++ bytes) Ended input left
      → Appends before now result input_line → ¬ IsErrOf result Read → IfOk result (λ end. end ≡ Some InputEnded) → TurnWritten session.engine (standing session read bytes) before now result (record { game = session.game; engine = session.engine; held = input }) read left
  input_ended input (Err f) turn few ne r w write e = turn_failed session.engine (standing session read bytes) before now f (record { game = session.game; engine = session.engine; held = input }) read left input_line (inr (InputEnded, (turn, omega (arith, few, ne), r.0, refl))) (λ k. write (ap Err k)) w
  input_ended input (Ok None) turn few ne r w write e = absurd (cc e)
  input_ended input (Ok (Some end)) turn few ne r w write e =
      let is : end ≡ InputEnded = cc e in
      let same : session.held ++ bytes ≡ input ++ [] = r.0 ∙ sym (append-nil input ∙ r.1) in
      ([], input_line, r.2, subst (Ends session.engine (standing session read bytes) input_line) (sym is) (turn, omega (arith, few, ne), r.0, refl), (λ i. record { game = session.game; read = read; left = same i }), w)

  pub engine_failed : (t : EngineGame) (text : List ℕ) (f : Fault) (new : Session) → session.game.state.side ≡ session.engine → EngineMoves session.game text t → f ≢ Read → (n : ℕ) × (n ≤ length text) × (now ≡ append_known before (take n text))
      → TurnWritten session.engine (standing session read bytes) before now (Err f) new read left
  engine_failed t text f new turn m write w = turn_failed session.engine (standing session read bytes) before now f new read left text (inl (standing (record { game = t; engine = session.engine; held = session.held }) read bytes, inl (record { turn = turn; moved = m; same_count = refl; same_bytes = refl }))) write w

  -- the side to move has no move
  ends_game : (winner : Colour) → ¬ HasMove session.game.state → winner ≡ other session.game.state.side → (end : Option SessionEnd) → ((end ≡ Some Won) × (winner ≡ session.engine)) ⊎ ((end ≡ Some Lost) × (winner ≡ other session.engine))
      → (last : SessionEnd) × (end ≡ Some last) × Ends session.engine (standing session read bytes) (winner_line winner) last
  ends_game winner none is end (inl h) = (Won, h.0, (none, sym (other_twice session.game.state.side) ∙ ap other (sym is ∙ h.1), ap winner_line h.1))
  ends_game winner none is end (inr h) = (Lost, h.0, (none, sym (other_twice session.game.state.side) ∙ ap other (sym is ∙ h.1) ∙ other_twice session.engine, ap winner_line h.1))

  some_end : (winner : Colour) → ¬ HasMove session.game.state → winner ≡ other session.game.state.side → (winner ≡ session.engine) ⊎ (winner ≡ other session.engine) → (last : SessionEnd) × Ends session.engine (standing session read bytes) (winner_line winner) last
  some_end winner none is (inl mine) = let x = ends_game winner none is (Some Won) (inl (refl, mine)) in (x.0, x.2)
  some_end winner none is (inr theirs) = let x = ends_game winner none is (Some Lost) (inr (refl, theirs)) in (x.0, x.2)

  pub game_ended : (winner : Colour) (result : Result (Option SessionEnd) Fault) → left ≡ Some bytes → ¬ HasMove session.game.state → winner ≡ other session.game.state.side → Appends before now result (winner_line winner) → ¬ IsErrOf result Read
      → IfOk result (λ end. ((end ≡ Some Won) × (winner ≡ session.engine)) ⊎ ((end ≡ Some Lost) × (winner ≡ other session.engine))) → TurnWritten session.engine (standing session read bytes) before now result session read left
  game_ended winner (Err f) e none is w write h =
      let x = some_end winner none is (one_side winner session.engine) in turn_failed session.engine (standing session read bytes) before now f session read left (winner_line winner) (inr x) (λ k. write (ap Err k)) w
  game_ended winner (Ok None) e none is w write h = absurd (elim h [ inl x ↦ cc x.0 | inr x ↦ cc x.0 ])
  game_ended winner (Ok (Some end)) e none is w write h =
      let x = ends_game winner none is (Some end) h in
      let same : end ≡ x.0 = cc x.1 in (bytes, winner_line winner, e, subst (Ends session.engine (standing session read bytes) (winner_line winner)) (sym same) x.2, refl, w)
