-- A game over the same bytes has one status and one text.
use Rattle.std.proofs.Common.{◌≡◌, ◌≤◌, ◌++◌, ℕ, inl, inr, sym, ap, subst, ◌∙◌, List, length}
use Rattle.std.specs.Prelude.{Option}
use Rattle.std.specs.Io.KnownBytes.{append_known}
use Rattle.go_grid.specs.declared.grid.Colour.{Colour}
use Rattle.engine_player.specs.EngineGame.{EngineGame}
use Rattle.play_session.specs.declared.end.SessionEnd.TheVariants as end
use Rattle.play_session.proofs.OneTextLaws.{has_one_text}
use Rattle.endgame_questions.specs.declared.status.Status.TheVariants.{Done, TooManyLines}
use Rattle.endgame_run.specs.Game.{IsGameWritten, IsGameOver, game_beginning}
use Rattle.top_laws.specs.Laws.{HasOneGame}

module _ (engine : Colour) (s : EngineGame) (bytes : List ℕ) (before now new : Option (List ℕ)) (small : length s.state.board.cells ≤ 625) where
  both_done : IsGameWritten engine s bytes before now Done → IsGameWritten engine s bytes before new Done → now ≡ new
  both_done a b =
      let one = has_one_text engine (game_beginning s bytes) a.4.0 b.4.0 a.1 b.1 a.0 b.0 small a.4.1 b.4.1 in
      a.5 ∙ ap (append_known before) one.0 ∙ sym b.5

  both_stopped : IsGameWritten engine s bytes before now TooManyLines → IsGameWritten engine s bytes before new TooManyLines → now ≡ new
  both_stopped a b =
      let one = has_one_text engine (game_beginning s bytes) a.2.0.0 b.2.0.0 a.0 b.0 end.TooManyLines end.TooManyLines small a.2.0.1 b.2.0.1 in
      a.3 ∙ ap (λ t. append_known before (t ++ a.1)) one.0 ∙ ap (λ l. append_known before (b.0 ++ l)) (a.2.1 ∙ sym b.2.1) ∙ sym b.3

done_or_stopped : (engine : Colour) (s : EngineGame) (bytes : List ℕ) (before now new : Option (List ℕ)) → length s.state.board.cells ≤ 625
    → IsGameWritten engine s bytes before now Done → IsGameWritten engine s bytes before new TooManyLines → ⊥
done_or_stopped engine s bytes before now new small a b =
    let one = has_one_text engine (game_beginning s bytes) a.4.0 b.2.0.0 a.1 b.0 a.0 end.TooManyLines small a.4.1 b.2.0.1 in
    subst IsGameOver one.2 a.2

pub one_game : HasOneGame
one_game engine s bytes p q before now new small (inl e) (inl d) a b =
    (e ∙ sym d, both_done engine s bytes before now new small (subst (λ x. IsGameWritten engine s bytes before now x) e a) (subst (λ x. IsGameWritten engine s bytes before new x) d b))
one_game engine s bytes p q before now new small (inr e) (inr d) a b =
    (e ∙ sym d, both_stopped engine s bytes before now new small (subst (λ x. IsGameWritten engine s bytes before now x) e a) (subst (λ x. IsGameWritten engine s bytes before new x) d b))
one_game engine s bytes p q before now new small (inl e) (inr d) a b =
    absurd (done_or_stopped engine s bytes before now new small (subst (λ x. IsGameWritten engine s bytes before now x) e a) (subst (λ x. IsGameWritten engine s bytes before new x) d b))
one_game engine s bytes p q before now new small (inr e) (inl d) a b =
    absurd (done_or_stopped engine s bytes before new now small (subst (λ x. IsGameWritten engine s bytes before new x) d b) (subst (λ x. IsGameWritten engine s bytes before now x) e a))
