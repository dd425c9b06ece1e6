-- No line of a game that the engine wins names its opponent as the winner.
use Rattle.std.proofs.Common.{◌≡◌, ◌≢◌, ℕ, zero, suc, ◌+◌, ◌%◌, ◌/◌, true, false, List, [], ◌∷◌, ◌++◌, take, drop, get_or, inl, inr, refl, sym, ap, ◌∙◌, subst, take-append-drop, arith, Some, None, Ok, Err}
use Rattle.std.specs.Prelude.{codes, Option, ◌==◌}
use Rattle.std.proofs.lemmas.Bool.{ne_eqb}
use Rattle.go_grid.specs.declared.grid.Colour.{Colour}
use Rattle.go_grid.specs.declared.grid.Colour.TheVariants as colour
use Rattle.go_grid.specs.Board.{Board, other}
use Rattle.board_words.specs.Words.{winner_line, word_line}
use Rattle.whole_rules.specs.Moves.{move_word}
use Rattle.engine_player.specs.EngineGame.{EngineGame}
use Rattle.whole_rules.specs.declared.states.Move.{Move}
use Rattle.whole_rules.specs.declared.states.Move.TheVariants.{Stone, Spend, Half}
use Rattle.whole_rules.specs.declared.states.MoveError.{MoveError}
use Rattle.whole_rules.specs.declared.states.MoveError.TheVariants.{NotContested, Occupied, Suicide, EmptyPurse, NoHalf}
use Rattle.play_session.specs.declared.end.SessionEnd.{SessionEnd}
use Rattle.play_session.specs.declared.end.SessionEnd.TheVariants.{Won, Lost, InputEnded, ReadFault, WriteFault, TooManyLines}
use Rattle.play_session.specs.Session.{Standing, AnswersOpponent, Turn, Turns, Ends, IsNextLine, engine_line, played_line, refused_line, refusal_word, input_line}
use Rattle.play_session.specs.Laws.{IsLineIn, KeepsWin}
use Rattle.play_session.proofs.CalmLaws.{Free, IsCalm, calm, calm_append, ends, ends_append, free_behind, free_calm, free_front, no_line}

named : (i j : ℕ) → IsCalm 119 false ((97 + i) ∷ (97 + j) ∷ 10 ∷ [])
named i j =
    let a : ((97 + i) == 10) ≡ false = ne_eqb (97 + i) 10 (λ e. omega (arith, e)) in
    let b : ((97 + j) == 10) ≡ false = ne_eqb (97 + j) 10 (λ e. omega (arith, e)) in (
      subst (λ k. calm 119 k ((97 + j) ∷ 10 ∷ []) ≡ true) (sym a) (subst (λ k. calm 119 k (10 ∷ []) ≡ true) (sym b) refl),
      subst (λ k. ends k ((97 + j) ∷ 10 ∷ []) ≡ true) (sym a) (subst (λ k. ends k (10 ∷ []) ≡ true) (sym b) refl),
    )

move_calm : (columns : ℕ) (m : Move) → IsCalm 119 false (move_word columns m ++ codes "\n")
move_calm columns (Stone p) = named (p % columns) (p / columns)
move_calm columns Spend = (refl, refl)
move_calm columns Half = (refl, refl)

engine_calm : (g : Board) (m : Move) → IsCalm 119 true (engine_line g m)
unfolding word_line
engine_calm g m = move_calm g.columns m

played_calm : (g : Board) (m : Move) → IsCalm 119 true (played_line g m)
unfolding word_line
played_calm g m = move_calm g.columns m

refused_calm : (e : MoveError) → IsCalm 119 true (refused_line (refusal_word e))
unfolding word_line
refused_calm NotContested = (refl, refl)
refused_calm Occupied = (refl, refl)
refused_calm Suicide = (refl, refl)
refused_calm EmptyPurse = (refl, refl)
refused_calm NoHalf = (refl, refl)

line_calm : IsCalm 119 true (refused_line (codes "line"))
unfolding word_line
line_calm = (refl, refl)

answer_calm : (p q : EngineGame) (asked : Option Move) (text : List ℕ) → AnswersOpponent p asked text q → IsCalm 119 true text
answer_calm p q None text a = subst (IsCalm 119 true) (sym a.0) line_calm
answer_calm p q (Some m) text (Ok u, h, e) = subst (IsCalm 119 true) (sym e) (played_calm p.state.board m)
answer_calm p q (Some m) text (Err f, h, e) = subst (IsCalm 119 true) (sym e) (refused_calm f)

turn_calm : (engine : Colour) (a b : Standing) (text : List ℕ) → Turn engine a text b → IsCalm 119 true text
turn_calm engine a b text (inl t) = subst (IsCalm 119 true) (sym t.moved.written) (engine_calm a.game.state.board t.moved.chosen)
turn_calm engine a b text (inr t) = answer_calm a.game b.game t.asked text t.answered

turns_calm : (engine : Colour) (n : ℕ) (a b : Standing) (text : List ℕ) → Turns engine n a text b → IsCalm 119 true text
turns_calm engine zero a b text t = subst (IsCalm 119 true) (sym t.0) (refl, refl)
turns_calm engine (suc n) a c text (b, (first, next, turns, turn, is)) =
    let x = turns_calm engine n a b first turns in let y = turn_calm engine b c next turn in
    subst (IsCalm 119 true) (sym is) (
      calm_append 119 true first next x.0 (subst (λ s. calm 119 s next ≡ true) (sym x.1) y.0),
      ends_append true first next ∙ ap (λ s. ends s next) x.1 ∙ y.1,
    )

-- the line that names the opponent, without its first letter
abbrev pub loss : Colour → List ℕ
loss engine = drop 1 (winner_line (other engine))

-- no line of the text names the opponent
abbrev pub IsUnnamed : Colour → List ℕ → Type 0
IsUnnamed engine text = Free 119 (loss engine) true text

white_apart : Path ℕ 98 119 → ⊥
white_apart e = omega (arith, e)

won_unnamed : (engine : Colour) → IsUnnamed engine (winner_line engine)
unfolding word_line
won_unnamed colour.Black = ((λ t back e. white_apart (ap (λ l. get_or l 7 0) e)), free_calm 119 (loss colour.Black) false (codes "inner black\n") refl)
won_unnamed colour.White = ((λ t back e. white_apart (sym (ap (λ l. get_or l 7 0) e))), free_calm 119 (loss colour.White) false (codes "inner white\n") refl)

input_calm : IsCalm 119 true input_line
unfolding word_line
input_calm = (refl, refl)

pub end_unnamed : (engine : Colour) (a : Standing) (text : List ℕ) (end : SessionEnd) → Ends engine a text end → end ≢ Lost → IsUnnamed engine text
end_unnamed engine a text Won e ne = subst (IsUnnamed engine) (sym e.2) (won_unnamed engine)
end_unnamed engine a text Lost e ne = absurd (ne refl)
end_unnamed engine a text TooManyLines e ne = subst (IsUnnamed engine) (sym e.2) tt
end_unnamed engine a text InputEnded e ne = subst (IsUnnamed engine) (sym e.3) (free_calm 119 (loss engine) true input_line input_calm.0)
end_unnamed engine a text ReadFault e ne = absurd e
end_unnamed engine a text WriteFault e ne = absurd e

-- a front part of the next line of a session whose win the engine keeps
pub next_unnamed : (engine : Colour) (a : Standing) (last more : List ℕ) → KeepsWin engine a → IsNextLine engine a (last ++ more) → IsUnnamed engine last
next_unnamed engine a last more keeps (inl t) = free_front 119 (loss engine) true last more (free_calm 119 (loss engine) true (last ++ more) (turn_calm engine a t.0 (last ++ more) t.1).0)
next_unnamed engine a last more keeps (inr e) = free_front 119 (loss engine) true last more (end_unnamed engine a (last ++ more) e.0 e.1 (keeps.never_lost (last ++ more) e.0 e.1).0)

-- a front part of a text none of whose lines begins with a `w`
pub calm_unnamed : (engine : Colour) (text : List ℕ) (n : ℕ) → calm 119 true text ≡ true → IsUnnamed engine (take n text)
calm_unnamed engine text n e = free_front 119 (loss engine) true (take n text) (drop n text) (subst (Free 119 (loss engine) true) (sym (take-append-drop n text)) (free_calm 119 (loss engine) true text e))

pub turns_unnamed : (engine : Colour) (n : ℕ) (a b : Standing) (first last : List ℕ) → Turns engine n a first b → IsUnnamed engine last → ¬ IsLineIn (winner_line (other engine)) (first ++ last)
unfolding word_line
turns_unnamed engine n a b first last turns free =
    let x = turns_calm engine n a b first turns in
    no_line 119 (loss engine) (first ++ last) (free_behind 119 (loss engine) true first last x.0 (subst (λ s. Free 119 (loss engine) s last) (sym x.1) free))

pub whole_unnamed : (engine : Colour) (text : List ℕ) → calm 119 true text ≡ true → IsUnnamed engine text
whole_unnamed engine text e = free_calm 119 (loss engine) true text e
