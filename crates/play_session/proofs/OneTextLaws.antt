-- A session has one text.
use Rattle.std.proofs.Common.{◌≡◌, ℕ, zero, suc, ◌≤◌, ◌<◌, List, [], ◌++◌, length, inl, inr, refl, sym, ap, ◌∙◌, subst, arith, append_assoc, append-nil}
use Rattle.std.proofs.lemmas.Bool.{cases_eq, cases_lt}
use Rattle.go_grid.specs.declared.grid.Colour.{Colour}
use Rattle.play_session.specs.declared.end.SessionEnd.{SessionEnd}
use Rattle.play_session.specs.declared.end.SessionEnd.TheVariants.{Won, Lost, InputEnded, ReadFault, WriteFault, TooManyLines}
use Rattle.play_session.specs.Laws.{HasOneText, HasOneBeginning}
use Rattle.endgame_solver.specs.Solved.{HasMove}
use Rattle.play_session.specs.Session.{Standing, IsEngineTurn, IsOpponentTurn, AnswersOpponent, Turn, Turns, Ends, IsSession, IsNextLine}
use Rattle.play_session.specs.Words.{NamesMove}
use Rattle.play_session.proofs.SideLaws.{other_not}
use Rattle.engine_player.proofs.EngineGameLaws.{engine_moved}
use Rattle.engine_player.proofs.MoveLaws.{cells_kept}
use Rattle.desk_io.proofs.LineLemmas.{one_line}
use Rattle.play_session.proofs.OneRequestLaws.{one_asked}
use Rattle.play_session.proofs.OneMoveLaws.{one_engine_move, one_answer, answer_cells}

IsSmall : Standing → Type 0
IsSmall a = length a.game.state.board.cells ≤ 625

same_standing : (b c : Standing) → b.game ≡ c.game → b.read ≡ c.read → b.left ≡ c.left → b ≡ c
same_standing b c s r l = λ i. record { game = s i; read = r i; left = l i }

one_engine_turn : (engine : Colour) (a b c : Standing) (x y : List ℕ) → IsSmall a → IsEngineTurn engine a x b → IsEngineTurn engine a y c → (x ≡ y) × (b ≡ c)
unfolding IsSmall
one_engine_turn engine a b c x y small t u =
    let e = one_engine_move a.game b.game c.game x y small t.moved u.moved in
    (e.0, same_standing b c e.1 (t.same_count ∙ sym u.same_count) (t.same_bytes ∙ sym u.same_bytes))

one_opponent_turn : (engine : Colour) (a b c : Standing) (x y : List ℕ) → IsOpponentTurn engine a x b → IsOpponentTurn engine a y c → (x ≡ y) × (b ≡ c)
one_opponent_turn engine a b c x y t u =
    let l = one_line 256 a.left t.line u.line b.left c.left t.taken u.taken in
    let k = one_asked a.game.state.board u.line t.asked u.asked (subst (λ n. NamesMove a.game.state.board n t.asked) l.0 t.asks) u.asks in
    let e = one_answer a.game b.game c.game u.asked x y (subst (λ m. AnswersOpponent a.game m x b.game) k t.answered) u.answered in
    (e.0, same_standing b c e.1 (t.counted ∙ sym u.counted) l.1)

one_turn : (engine : Colour) (a b c : Standing) (x y : List ℕ) → IsSmall a → Turn engine a x b → Turn engine a y c → (x ≡ y) × (b ≡ c)
one_turn engine a b c x y small (inl t) (inl u) = one_engine_turn engine a b c x y small t u
one_turn engine a b c x y small (inl t) (inr u) = absurd (other_not engine (sym t.turn ∙ u.turn.0))
one_turn engine a b c x y small (inr t) (inl u) = absurd (other_not engine (sym u.turn ∙ t.turn.0))
one_turn engine a b c x y small (inr t) (inr u) = one_opponent_turn engine a b c x y t u

turn_small : (engine : Colour) (a b : Standing) (x : List ℕ) → IsSmall a → Turn engine a x b → IsSmall b
unfolding IsSmall
turn_small engine a b x small (inl t) = omega (arith, small, cells_kept a.game.state b.game.state t.moved.chosen (engine_moved a.game b.game t.moved.chosen t.moved.goes))
turn_small engine a b x small (inr t) = omega (arith, small, answer_cells a.game b.game t.asked x t.answered)

turns_small : (engine : Colour) (n : ℕ) (a b : Standing) (x : List ℕ) → IsSmall a → Turns engine n a x b → IsSmall b
turns_small engine zero a b x small t = subst IsSmall (sym t.1) small
turns_small engine (suc n) a c x small t = turn_small engine t.0 c t.1.1 (turns_small engine n a t.0 t.1.0 small t.1.2) t.1.3

-- no turn follows an end
turn_moves : (engine : Colour) (a b : Standing) (x : List ℕ) → Turn engine a x b → HasMove a.game.state
turn_moves engine a b x (inl t) = (t.moved.chosen, (b.game.state, engine_moved a.game b.game t.moved.chosen t.moved.goes))
turn_moves engine a b x (inr t) = t.turn.1

no_turn : (engine : Colour) (a b : Standing) (x y : List ℕ) (end : SessionEnd) → Turn engine a x b → Ends engine a y end → ⊥
no_turn engine a b x y Won t e = e.0 (turn_moves engine a b x t)
no_turn engine a b x y Lost t e = e.0 (turn_moves engine a b x t)
no_turn engine a b x y TooManyLines (inl t) e = other_not engine (sym t.turn ∙ e.0.0)
no_turn engine a b x y TooManyLines (inr t) e = omega (arith, t.few, e.1)
no_turn engine a b x y InputEnded (inl t) e = other_not engine (sym t.turn ∙ e.0.0)
no_turn engine a b x y InputEnded (inr t) e = t.some e.2
no_turn engine a b x y ReadFault t e = e
no_turn engine a b x y WriteFault t e = e

one_end : (engine : Colour) (a : Standing) (x y : List ℕ) (end final : SessionEnd) → Ends engine a x end → Ends engine a y final → (x ≡ y) × (end ≡ final)
one_end engine a x y Won Won e f = (e.2 ∙ sym f.2, refl)
one_end engine a x y Won Lost e f = absurd (other_not engine (sym f.1 ∙ e.1))
one_end engine a x y Won TooManyLines e f = absurd (e.0 f.0.1)
one_end engine a x y Won InputEnded e f = absurd (e.0 f.0.1)
one_end engine a x y Lost Won e f = absurd (other_not engine (sym e.1 ∙ f.1))
one_end engine a x y Lost Lost e f = (e.2 ∙ sym f.2, refl)
one_end engine a x y Lost TooManyLines e f = absurd (e.0 f.0.1)
one_end engine a x y Lost InputEnded e f = absurd (e.0 f.0.1)
one_end engine a x y TooManyLines Won e f = absurd (f.0 e.0.1)
one_end engine a x y TooManyLines Lost e f = absurd (f.0 e.0.1)
one_end engine a x y TooManyLines TooManyLines e f = (e.2 ∙ sym f.2, refl)
one_end engine a x y TooManyLines InputEnded e f = absurd (omega (arith, e.1, f.1))
one_end engine a x y InputEnded Won e f = absurd (f.0 e.0.1)
one_end engine a x y InputEnded Lost e f = absurd (f.0 e.0.1)
one_end engine a x y InputEnded TooManyLines e f = absurd (omega (arith, e.1, f.1))
one_end engine a x y InputEnded InputEnded e f = (e.3 ∙ sym f.3, refl)
one_end engine a x y ReadFault final e f = absurd e
one_end engine a x y WriteFault final e f = absurd e
one_end engine a x y Won ReadFault e f = absurd f
one_end engine a x y Won WriteFault e f = absurd f
one_end engine a x y Lost ReadFault e f = absurd f
one_end engine a x y Lost WriteFault e f = absurd f
one_end engine a x y TooManyLines ReadFault e f = absurd f
one_end engine a x y TooManyLines WriteFault e f = absurd f
one_end engine a x y InputEnded ReadFault e f = absurd f
one_end engine a x y InputEnded WriteFault e f = absurd f

module _ (engine : Colour) (a : Standing) (small : IsSmall a) where
  -- so many turns lead to one standing
  turns_same : (n : ℕ) (b c : Standing) (x y : List ℕ) → Turns engine n a x b → Turns engine n a y c → (x ≡ y) × (b ≡ c)
  turns_same zero b c x y t u = (t.0 ∙ sym u.0, t.1 ∙ sym u.1)
  turns_same (suc n) b c x y t u =
      let e = turns_same n t.0 u.0 t.1.0 u.1.0 t.1.2 u.1.2 in
      let f = one_turn engine u.0 b c t.1.1 u.1.1 (turns_small engine n a u.0 u.1.0 small u.1.2) (subst (λ s. Turn engine s t.1.1 b) e.1 t.1.3) u.1.3 in
      (t.1.4 ∙ ap (λ l. l ++ t.1.1) e.0 ∙ ap (λ l. u.1.0 ++ l) f.0 ∙ sym u.1.4, f.1)

  -- fewer turns write a front part
  turns_front : (n m : ℕ) (b c : Standing) (x y : List ℕ) → n ≤ m → Turns engine n a x b → Turns engine m a y c → (more : List ℕ) × (y ≡ x ++ more)
  turns_front zero zero b c x y le t u = ([], u.0 ∙ sym (append-nil x ∙ t.0))
  turns_front (suc n) zero b c x y le t u = absurd (omega (arith, le))
  turns_front n (suc m) b c x y le t u = elim (cases_eq n (suc m)) [
    | inl all ↦ (let e = turns_same (suc m) b c x y (subst (λ k. Turns engine k a x b) all t) u in ([], sym e.0 ∙ sym (append-nil x)))
    | inr few ↦ (let e = turns_front n m b u.0 x u.1.0 (omega (arith, le, few)) t u.1.2 in (e.0 ++ u.1.1, u.1.4 ∙ ap (λ l. l ++ u.1.1) e.1 ∙ append_assoc x e.0 u.1.1))
  ]

  -- no more turns than to an end
  turns_over : (n m : ℕ) (b c : Standing) (x y last : List ℕ) (end : SessionEnd) → m < n → Turns engine n a x b → Turns engine m a y c → Ends engine c last end → ⊥
  turns_over zero m b c x y last end lt t u e = omega (arith, lt)
  turns_over (suc n) m b c x y last end lt t u e = elim (cases_eq m n) [
    | inl all ↦ (let s = turns_same m t.0 c t.1.0 y (subst (λ k. Turns engine k a t.1.0 t.0) (sym all) t.1.2) u in no_turn engine c b t.1.1 last end (subst (λ z. Turn engine z t.1.1 b) s.1 t.1.3) e)
    | inr few ↦ turns_over n m t.0 c t.1.0 y last end (omega (arith, lt, few)) t.1.2 u e
  ]

  sessions_same : (b c : Standing) (s t : List ℕ) (end final : SessionEnd) → IsSession engine a s b end → IsSession engine a t c final → (s ≡ t) × (b ≡ c) × (end ≡ final)
  sessions_same b c s t end final p q = elim (cases_lt p.number q.number) [
    | inl lt ↦ absurd (turns_over q.number p.number c b q.first p.first p.last end lt q.turns p.turns p.ends)
    | inr ge ↦ elim (cases_eq p.number q.number) [
      | inl all ↦ (
          let e = turns_same q.number b c p.first q.first (subst (λ k. Turns engine k a p.first b) all p.turns) q.turns in
          let f = one_end engine c p.last q.last end final (subst (λ z. Ends engine z p.last end) e.1 p.ends) q.ends in
          (p.whole ∙ ap (λ l. l ++ p.last) e.0 ∙ ap (λ l. q.first ++ l) f.0 ∙ sym q.whole, e.1, f.1))
      | inr more ↦ absurd (turns_over p.number q.number b c p.first q.first q.last final (omega (arith, ge, more)) p.turns q.turns q.ends)
    ]
  ]

  turns_text : (n : ℕ) (c b : Standing) (x t : List ℕ) (end : SessionEnd) → Turns engine n a x c → IsSession engine a t b end → (more : List ℕ) × (t ≡ x ++ more)
  turns_text n c b x t end u q = elim (cases_lt q.number n) [
    | inl lt ↦ absurd (turns_over n q.number c b x q.first q.last end lt u q.turns q.ends)
    | inr ge ↦ (let e = turns_front n q.number c b x q.first (omega (arith, ge)) u q.turns in (e.0 ++ q.last, q.whole ∙ ap (λ l. l ++ q.last) e.1 ∙ append_assoc x e.0 q.last))
  ]

  -- turns and the line after them
  line_text : (n : ℕ) (c b : Standing) (x y t : List ℕ) (end : SessionEnd) → Turns engine n a x c → IsNextLine engine c y → IsSession engine a t b end → (more : List ℕ) × (t ≡ (x ++ y) ++ more)
  line_text n c b x y t end u (inl s) q = turns_text (suc n) s.0 b (x ++ y) t end (c, (x, y, u, s.1, refl)) q
  line_text n c b x y t end u (inr s) q =
      let e = sessions_same c b (x ++ y) t s.0 end (record { number = n; first = x; last = y; turns = u; ends = s.1; whole = refl }) q in
      ([], sym e.0 ∙ sym (append-nil (x ++ y)))

pub has_one_text : HasOneText
unfolding IsSmall
has_one_text engine a b c s t end final small p q = sessions_same engine a small b c s t end final p q

pub has_one_beginning : HasOneBeginning
unfolding IsSmall
has_one_beginning engine a b s t end small (inl w) q = turns_text engine a small w.1.0 w.0 b s t end w.1.1 q
has_one_beginning engine a b s t end small (inr w) q =
    let e = line_text engine a small w.0 w.1 b w.2 (w.3 ++ w.4) t end w.5 w.6 q in
    (w.4 ++ e.0, e.1 ∙ four w.2 w.3 w.4 e.0 ∙ ap (λ x. x ++ (w.4 ++ e.0)) (sym w.7))
  where
    four : (x y z w : List ℕ) → (x ++ (y ++ z)) ++ w ≡ (x ++ y) ++ (z ++ w)
    four x y z w = simp append_assoc
