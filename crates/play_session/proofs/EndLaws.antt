-- A game that the engine wins ends won, where kos are admitted.
use Rattle.std.proofs.Common.{◌≡◌, ◌≢◌, ℕ, zero, suc, List, ◌++◌, inl, inr, refl, sym, ap, ◌∙◌, subst, Option, Some, None, Ok, Err, Result}
use Rattle.go_grid.specs.declared.grid.Colour.{Colour}
use Rattle.go_grid.specs.declared.grid.Colour.TheVariants.{Black, White}
use Rattle.go_grid.specs.Board.{other}
use Rattle.whole_rules.specs.declared.states.Move.{Move}
use Rattle.whole_rules.specs.declared.states.Move.TheVariants.{Stone}
use Rattle.whole_rules.specs.FirstWinningMove.{IsWinner}
use Rattle.whole_rules.specs.WholeGame.{Whole, IsMove}
use Rattle.whole_rules.proofs.PlainLaws.{move_turn}
use Rattle.whole_budgets.specs.EnginePlay.{EngineMoves, Serves}
use Rattle.whole_budgets.specs.EngineLaws.{IsReached}
use Rattle.whole_rules.specs.declared.states.MoveError.{MoveError}
use Rattle.whole_budgets.proofs.EndLemmas.{won_games_end}
use Rattle.whole_budgets.proofs.KoLemmas.{keeps_simple_ko}
use Rattle.whole_budgets.proofs.ReachedLemmas.{reached_on}
use Rattle.whole_budgets.proofs.ServeLemmas.{serves_after, serves_behind}
use Rattle.engine_player.specs.Played.{BothServe, EnginePlays, Keeping, Played, kept_by, keeping_with}
use Rattle.engine_player.specs.EngineGame.{EngineGame, EngineGoes, GoesByHand, MovesKeeping, kept_by_hand}
use Rattle.engine_player.proofs.EngineGameLaws.{engine_moved}
use Rattle.play_session.specs.Session.{AnswersOpponent, Standing, Turn, Turns}
use Rattle.play_session.specs.Laws.{EndsWonKeeping, IsSoundKeeping, SessionKeepsSimpleKo, WonSessionsEnd}
use Rattle.play_session.proofs.SideLaws.{one_side, other_not}
use Rattle.play_session.proofs.WinLaws.{win_is_kept}

-- a move keeps the regions, and what the other colour keeps
same_regions : (c : Colour) (left : Option (List ℕ)) (k : Keeping) → (keeping_with c left k).regions ≡ k.regions
same_regions Black left k = refl
same_regions White left k = refl

own_kept : (c : Colour) (left : Option (List ℕ)) (k : Keeping) → kept_by c (keeping_with c left k) ≡ left
own_kept Black left k = refl
own_kept White left k = refl

others_kept : (c : Colour) (left : Option (List ℕ)) (k : Keeping) → kept_by (other c) (keeping_with c left k) ≡ kept_by (other c) k
others_kept Black left k = refl
others_kept White left k = refl

-- what both colours keep serves behind a move, if what its own colour keeps then does
serve_behind : (s t : Whole) (m : Move) (left : Option (List ℕ)) (k : Keeping) → IsMove s m t → BothServe (record { state = s; keeping = k })
    → Serves k.regions s.side t left → BothServe (record { state = t; keeping = keeping_with s.side left k })
serve_behind s t m left k moved serve own c =
    subst (λ rs. Serves rs c t (kept_by c (keeping_with s.side left k))) (sym (same_regions s.side left k)) (elim (one_side c s.side) [
      | inl mine ↦ subst (λ d. Serves k.regions d t (kept_by d (keeping_with s.side left k))) (sym mine)
          (subst (Serves k.regions s.side t) (sym (own_kept s.side left k)) own)
      | inr theirs ↦
          let turn = move_turn s t m moved in
          let before = subst (λ d. Serves k.regions d s (kept_by (other s.side) k)) (sym turn) (serve (other s.side)) in
          let after = subst (λ d. Serves k.regions d t (kept_by (other s.side) k)) turn (serves_behind k.regions s t m (kept_by (other s.side) k) moved before) in
          subst (λ d. Serves k.regions d t (kept_by d (keeping_with s.side left k))) (sym theirs)
          (subst (Serves k.regions (other s.side) t) (sym (others_kept s.side left k)) after)
    ])

sound_behind : (s t : Whole) (m : Move) (left : Option (List ℕ)) (k : Keeping) → IsMove s m t → IsSoundKeeping (Some k) s → Serves k.regions s.side t left
    → IsSoundKeeping (Some (keeping_with s.side left k)) t
sound_behind s t m left k moved ((g, reached), serve) own =
    ((g, subst (λ rs. IsReached g rs t) (sym (same_regions s.side left k)) (reached_on reached t m moved)), serve_behind s t m left k moved serve own)

behind_engine : (k after : Option Keeping) (s t : Whole) (m : Move) → IsMove s m t → MovesKeeping k s m t after → IsSoundKeeping k s → IsSoundKeeping after t
behind_engine None after s t m moved (chosen, also, is) sound = subst (λ z. IsSoundKeeping z t) (sym is) tt
behind_engine (Some k) after s t m moved (next, (left, moves, is), some) sound =
    subst (λ z. IsSoundKeeping z t) (sym (some ∙ ap Some is)) (sound_behind s t m left k moved sound (serves_after k.regions s t m (kept_by s.side k) left moves))

behind_hand : (k after : Option Keeping) (s t : Whole) (m : Move) → IsMove s m t → after ≡ kept_by_hand s.side k → IsSoundKeeping k s → IsSoundKeeping after t
behind_hand None after s t m moved is sound = subst (λ z. IsSoundKeeping z t) (sym is) tt
behind_hand (Some k) after s t m moved is sound = subst (λ z. IsSoundKeeping z t) (sym is) (sound_behind s t m None k moved sound tt)

abbrev IsSound : EngineGame → Type 0
IsSound p = IsSoundKeeping p.keeping p.state

by_hand : (p q : EngineGame) (m : Move) (r : Result Unit MoveError) → GoesByHand p m r q → IsSound p → IsSound q
by_hand p q m (Ok u) (moved, is) sound = behind_hand p.keeping q.keeping p.state q.state m moved is sound
by_hand p q m (Err e) (same, why) sound = subst IsSound (sym same) sound

answered : (p q : EngineGame) (asked : Option Move) (text : List ℕ) → AnswersOpponent p asked text q → IsSound p → IsSound q
answered p q None text (is, same) sound = subst IsSound (sym same) sound
answered p q (Some m) text (r, goes, is) sound = by_hand p q m r goes sound

turn_sound : (engine : Colour) (a b : Standing) (text : List ℕ) → Turn engine a text b → IsSound a.game → IsSound b.game
turn_sound engine a b text (inl t) sound =
    let m = t.moved.chosen in
    behind_engine a.game.keeping b.game.keeping a.game.state b.game.state m (engine_moved a.game b.game m t.moved.goes) t.moved.goes sound
turn_sound engine a b text (inr t) sound = answered a.game b.game t.asked text t.answered sound

pub turns_sound : (engine : Colour) (n : ℕ) (a b : Standing) (text : List ℕ) → Turns engine n a text b → IsSound a.game → IsSound b.game
turns_sound engine zero a b text t sound = subst (λ x. IsSound x.game) (sym t.1) sound
turns_sound engine (suc n) a c text t sound = turn_sound engine t.0 c t.1.1 t.1.3 (turns_sound engine n a t.0 t.1.0 t.1.2 sound)

ends_won : (c : Colour) (k : Option Keeping) (s : Whole) → s.side ≡ c → IsWinner s c → IsSoundKeeping k s → EndsWonKeeping c k s
ends_won c None s turn wins sound = tt
ends_won c (Some k) s turn wins ((g, reached), serve) =
    subst (λ d. EndsWonKeeping d (Some k) s) turn (won_games_end g k.regions s (kept_by s.side k) reached (serve s.side) (subst (IsWinner s) (sym turn) wins))

pub won_sessions_end : WonSessionsEnd
won_sessions_end engine a b n text sound wins turns own =
    ends_won engine b.game.keeping b.game.state own (win_is_kept engine a b n text wins turns).winner (turns_sound engine n a b text turns sound)

-- it takes back no ko at once
ko_kept : (before kept after : Option Keeping) (s t v : Whole) (m l : Move) (p : ℕ) (k : Keeping) → IsMove s m t → kept ≡ kept_by_hand s.side before
    → IsSoundKeeping before s → IsSoundKeeping kept t → IsWinner t t.side → MovesKeeping kept t l v after → l ≡ Stone p → kept ≡ Some k → v.board ≢ s.board
ko_kept None kept after s t v m l p k moved is sound now wins goes stone some = absurd (cc (sym is ∙ some))
ko_kept (Some x) None after s t v m l p k moved is sound now wins goes stone some = absurd (cc some)
ko_kept (Some x) (Some y) after s t v m l p k moved is ((g, reached), serve) ((h, there), serves) wins (next, (left, moves, kept), some) stone same =
    let kept_now : y ≡ keeping_with s.side None x = cc is in
    let regions = ap (λ z. z.regions) kept_now ∙ same_regions s.side None x in
    keeps_simple_ko g y.regions s t v m p (kept_by t.side y) left (subst (λ rs. IsReached g rs s) (sym regions) reached) moved (serves t.side) wins
    (subst (λ z. EngineMoves y.regions t (kept_by t.side y) z v left) stone moves)

-- a move that was made was made by hand
hand_kept : (p q : EngineGame) (asked : Option Move) (text : List ℕ) (m : Move) → AnswersOpponent p asked text q → IsMove p.state m q.state
    → q.keeping ≡ kept_by_hand p.state.side p.keeping
hand_kept p q None text m (is, same) moved = absurd (other_not p.state.side (sym (ap (λ z. z.state.side) same) ∙ move_turn p.state q.state m moved))
hand_kept p q (Some l) text m (Ok u, (also, is), written) moved = is
hand_kept p q (Some l) text m (Err e, (same, why), written) moved =
    absurd (other_not p.state.side (sym (ap (λ z. z.state.side) same) ∙ move_turn p.state q.state m moved))

pub session_keeps_ko : SessionKeepsSimpleKo
session_keeps_ko engine a b n first sound wins turns answer last c d k m p theirs moved some turn stone =
    let before = turns_sound engine n a b first turns sound in
    let now = turn_sound engine b c answer (inr theirs) before in
    let more = (win_is_kept engine a c (suc n) (first ++ answer) wins (b, (first, answer, turns, inr theirs, refl))).winner in
    ko_kept b.game.keeping c.game.keeping d.game.keeping b.game.state c.game.state d.game.state m turn.moved.chosen p k moved
    (hand_kept b.game c.game theirs.asked answer m theirs.answered moved) before now (subst (IsWinner c.game.state) (sym turn.turn) more) turn.moved.goes stone some
