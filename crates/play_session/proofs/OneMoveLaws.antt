-- A game has one move for the engine, and one answer to each line.
use Rattle.std.proofs.Common.{◌≡◌, ℕ, ◌≤◌, List, length, refl, sym, ap, ◌∙◌, Option, Some, None, Ok, Err, Result}
use Rattle.whole_rules.specs.WholeGame.{Whole, Refuses}
use Rattle.whole_rules.specs.declared.states.Move.{Move}
use Rattle.whole_rules.specs.declared.states.Move.TheVariants.{Stone, Spend, Half}
use Rattle.whole_rules.specs.declared.states.MoveError.{MoveError}
use Rattle.whole_rules.specs.declared.states.MoveError.TheVariants.{NotContested, Occupied, Suicide, EmptyPurse, NoHalf}
use Rattle.whole_rules.proofs.MoveLaws.{refused_not_legal}
use Rattle.engine_player.specs.EngineGame.{EngineGame, GoesByHand}
use Rattle.engine_player.proofs.EngineGameLaws.{one_by_hand, one_engine_game}
use Rattle.engine_player.proofs.MoveLaws.{cells_kept}
use Rattle.play_session.specs.Session.{EngineMoves, AnswersOpponent, answer_line, engine_line}

pub one_engine_move : (p q r : EngineGame) (x y : List ℕ) → length p.state.board.cells ≤ 625 → EngineMoves p x q → EngineMoves p y r → (x ≡ y) × (q ≡ r)
one_engine_move p q r x y le a b =
    let (e, f) = one_engine_game p q r a.chosen b.chosen le a.goes b.goes in
    (a.written ∙ ap (engine_line p.state.board) e ∙ sym b.written, f)

-- a move is refused for one reason
one_refusal : (s : Whole) (m : Move) (e f : MoveError) → Refuses s m e → Refuses s m f → e ≡ f
one_refusal s (Stone p) NotContested NotContested a b = refl
one_refusal s (Stone p) NotContested Occupied a b = absurd (a b.0)
one_refusal s (Stone p) NotContested Suicide a b = absurd (a b.0)
one_refusal s (Stone p) Occupied NotContested a b = absurd (b a.0)
one_refusal s (Stone p) Occupied Occupied a b = refl
one_refusal s (Stone p) Occupied Suicide a b = absurd (a.1 b.1)
one_refusal s (Stone p) Suicide NotContested a b = absurd (b a.0)
one_refusal s (Stone p) Suicide Occupied a b = absurd (b.1 a.1)
one_refusal s (Stone p) Suicide Suicide a b = refl
one_refusal s (Stone p) EmptyPurse f a b = absurd a
one_refusal s (Stone p) NoHalf f a b = absurd a
one_refusal s (Stone p) NotContested EmptyPurse a b = absurd b
one_refusal s (Stone p) NotContested NoHalf a b = absurd b
one_refusal s (Stone p) Occupied EmptyPurse a b = absurd b
one_refusal s (Stone p) Occupied NoHalf a b = absurd b
one_refusal s (Stone p) Suicide EmptyPurse a b = absurd b
one_refusal s (Stone p) Suicide NoHalf a b = absurd b
one_refusal s Spend EmptyPurse EmptyPurse a b = refl
one_refusal s Spend EmptyPurse NotContested a b = absurd b
one_refusal s Spend EmptyPurse Occupied a b = absurd b
one_refusal s Spend EmptyPurse Suicide a b = absurd b
one_refusal s Spend EmptyPurse NoHalf a b = absurd b
one_refusal s Spend NotContested f a b = absurd a
one_refusal s Spend Occupied f a b = absurd a
one_refusal s Spend Suicide f a b = absurd a
one_refusal s Spend NoHalf f a b = absurd a
one_refusal s Half NoHalf NoHalf a b = refl
one_refusal s Half NoHalf NotContested a b = absurd b
one_refusal s Half NoHalf Occupied a b = absurd b
one_refusal s Half NoHalf Suicide a b = absurd b
one_refusal s Half NoHalf EmptyPurse a b = absurd b
one_refusal s Half NotContested f a b = absurd a
one_refusal s Half Occupied f a b = absurd a
one_refusal s Half Suicide f a b = absurd a
one_refusal s Half EmptyPurse f a b = absurd a

one_applied : (p q r : EngineGame) (m : Move) (x y : List ℕ) (a b : Result Unit MoveError) → GoesByHand p m a q → GoesByHand p m b r
    → x ≡ answer_line p.state.board m a → y ≡ answer_line p.state.board m b → (x ≡ y) × (q ≡ r)
one_applied p q r m x y (Ok i) (Ok j) a b e f = (e ∙ sym f, one_by_hand p q r m a b)
one_applied p q r m x y (Ok i) (Err w) a b e f = absurd (refused_not_legal p.state m w b.1 (q.state, a.0))
one_applied p q r m x y (Err v) (Ok j) a b e f = absurd (refused_not_legal p.state m v a.1 (r.state, b.0))
one_applied p q r m x y (Err v) (Err w) a b e f = (e ∙ ap (λ z. answer_line p.state.board m (Err z)) (one_refusal p.state m v w a.1 b.1) ∙ sym f, a.0 ∙ sym b.0)

pub one_answer : (p q r : EngineGame) (asked : Option Move) (x y : List ℕ) → AnswersOpponent p asked x q → AnswersOpponent p asked y r → (x ≡ y) × (q ≡ r)
one_answer p q r None x y a b = (a.0 ∙ sym b.0, a.1 ∙ sym b.1)
one_answer p q r (Some m) x y a b = one_applied p q r m x y a.0 b.0 a.1 b.1 a.2 b.2

pub answer_cells : (p q : EngineGame) (asked : Option Move) (x : List ℕ) → AnswersOpponent p asked x q → length q.state.board.cells ≡ length p.state.board.cells
answer_cells p q None x a = ap (λ z. length z.state.board.cells) a.1
answer_cells p q (Some m) x (Ok i, h, e) = cells_kept p.state q.state m h.0
answer_cells p q (Some m) x (Err w, h, e) = ap (λ z. length z.state.board.cells) h.0
