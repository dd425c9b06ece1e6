-- What the replies to analyses tell where kos can arise.
use Rattle.std.proofs.Common.{◌≡◌, ℕ, List, Ok, Err, Result, IfOk, inl, inr, refl, false}
use Rattle.go_grid.specs.Chain.{IsSettled}
use Rattle.gtp_words.specs.Vertices.{vertex_text}
use Rattle.go_play.specs.Setup.{Setup}
use Rattle.endgame_solver.specs.Limits.{Limits}
use Rattle.endgame_solver.specs.Solved.{Solved}
use Rattle.cycle_solver.specs.Begun.{Begun}
use Rattle.cycle_solver.specs.declared.faults.CycleError.{CycleError}
use Rattle.cycle_solver.specs.declared.faults.CycleError.TheVariants.{Points, Positions, Form, Captures, Memory}
use Rattle.cycle_solver.specs.declared.limits.TheConstants.{MOST_CAPTURES}
use Rattle.engine_player.specs.Played.{BeginsPlay}
use Rattle.board_session.specs.declared.topic.CycleTopic.{CycleTopic}
use Rattle.board_session.specs.Analysing.{gameless}
use Rattle.board_session.specs.Cycles.{AreCycleFaultWords}
use Rattle.board_orders.specs.Effects.{reply_text, unsolved}
use Rattle.board_session.specs.inner.Analysing.{RepliesInWithCycles, RepliesOnWithCycles}

-- a fault keeps a position from a game and from play
pub begins_play : (setup : Setup) (limits : Limits) (most : ℕ) (fault : CycleError) → Begun setup false limits most (Err fault) → BeginsPlay setup false limits most (Err fault)
begins_play setup limits most (Points p n) begun = begun
begins_play setup limits most (Positions p) begun = begun
begins_play setup limits most (Form p) begun = begun
begins_play setup limits most (Captures p) begun = begun
begins_play setup limits most (Memory e) begun = begun

module _ {E : Type 0} (limits : Limits) (topic : CycleTopic) (setup : Setup) (id : List ℕ) where
  -- what is told of the game that a position opens is told of the position
  pub cycles_reply_in : (game : Solved) (result : Result (List ℕ) E) → IsSettled setup.board → Begun setup false limits MOST_CAPTURES (Ok game)
      → IfOk result (RepliesOnWithCycles topic game.state setup.komi_halves id) → IfOk result (RepliesInWithCycles limits topic setup id)
  cycles_reply_in game (Ok reply) settled (opening, are, steady) (finding, finds, says) =
      (finding, inl (settled, (game.state, record { regions = game.regions; are_regions = are; steady = steady; opening = opening }, finds)), says)
  cycles_reply_in game (Err e) settled begun h = tt

  -- the words on a fault are told
  pub cycle_fault_told : (fault : CycleError) (words : List ℕ) (result : Result (List ℕ) E) → IsSettled setup.board → Begun setup false limits MOST_CAPTURES (Err fault)
      → AreCycleFaultWords (vertex_text setup.board.columns setup.board.rows) limits fault words
      → IfOk result (λ reply. reply ≡ reply_text id (unsolved words)) → IfOk result (RepliesInWithCycles limits topic setup id)
  cycle_fault_told fault words (Ok reply) settled begun are says =
      (gameless words, inr (words, inr (settled, inl (fault, begins_play setup limits MOST_CAPTURES fault begun, are)), refl), says)
  cycle_fault_told fault words (Err e) settled begun are h = tt
