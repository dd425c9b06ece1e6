-- What is said of a move.
use Rattle.std.proofs.Common.{◌≡◌, ℕ, List, [], ap, arith, inl, inr, refl, sym, ◌∙◌, subst, Option, Some, None, Ok, Err, Bool, false, true}
use Rattle.std.specs.Prelude.{codes}
use Rattle.std.proofs.lemmas.List.Elements.{Contains-get_or}
use Rattle.go_grid.specs.Region.{Region}
use Rattle.go_play.specs.Setup.{Setup}
use Rattle.whole_rules.specs.declared.states.Move.{Move}
use Rattle.whole_rules.specs.declared.states.MoveError.{MoveError}
use Rattle.engine_player.specs.EngineGame.{EngineGame, EngineGoes, GoesByHand}
use Rattle.cycle_solver.specs.CycleFaults.{AreSteadyWithin, IsSteadyWithin}
use Rattle.cycle_solver.specs.CycleFaults as steady
use Rattle.cycle_solver.specs.declared.faults.CycleError.{CycleError}
use Rattle.cycle_solver.specs.declared.faults.CycleError.TheVariants as unsteady
use Rattle.cycle_solver.specs.declared.limits.TheConstants.{MOST_CAPTURES}
use Rattle.engine_player.specs.Played.{BeginsPlay}
use Rattle.engine_player.specs.Opening.{OpensNone}
use Rattle.endgame_solver.specs.Limits.{Limits}
use Rattle.endgame_solver.specs.declared.faults.SolveError.{SolveError}
use Rattle.endgame_solver.specs.declared.faults.SolveError.TheVariants.{Points, Positions, Cycle, Form, Memory}
use Rattle.endgame_solver.specs.Faults.{AreSound, IsFaultOf, IsFirstFault, IsFirstLarge, IsSound}
use Rattle.endgame_solver.specs.Regions.{no_region, region_at}
use Rattle.endgame_solver.specs.Solved.{Begun, HasMove}
use Rattle.gtp_engine.specs.declared.moves.Wanted.{Wanted}
use Rattle.gtp_engine.specs.declared.playing.Action.TheVariants.{Play, Generate}
use Rattle.gtp_engine.specs.declared.reply.Refusal.TheVariants.{IllegalMove}
use Rattle.gtp_engine.specs.Moves.{move_for, move_text}
use Rattle.gtp_engine.specs.inner.Playing.{IsActed, IsCycleFault, IsFault}
use Rattle.gtp_engine.specs.Session.{PlaysMove, done, refused, reply_text}

module _ (wanted : Wanted) (s : EngineGame) (id reply : List ℕ) (found : Option Move)
    (is : found ≡ move_for s.state.board.columns s.state.board.rows wanted) where
  -- a point off the board
  pub acted_none : found ≡ None → reply ≡ reply_text id (refused IllegalMove) → IsActed (Play wanted) id s reply s
  acted_none none said = (refused IllegalMove, subst (λ m. PlaysMove m s (refused IllegalMove) s) (sym none ∙ is) (refl, refl), said)

  -- a move that is played
  pub acted_played : (m : Move) (t : EngineGame) → found ≡ Some m → GoesByHand s m (Ok tt) t → reply ≡ reply_text id (done []) → IsActed (Play wanted) id s reply t
  acted_played m t some moves said = (done [], subst (λ x. PlaysMove x s (done []) t) (sym some ∙ is) (inl (moves, refl)), said)

  -- a move that is refused
  pub acted_refused : (m : Move) (t : EngineGame) (e : MoveError) → found ≡ Some m → GoesByHand s m (Err e) t → reply ≡ reply_text id (refused IllegalMove) → IsActed (Play wanted) id s reply t
  acted_refused m t e some applies said = (refused IllegalMove, subst (λ x. PlaysMove x s (refused IllegalMove) t) (sym some ∙ is) (inr (e, applies, refl)), said)

-- a sound region has no fault
sound_has_none : (limits : Limits) (r : Region) (f : SolveError) → IsSound limits r → IsFaultOf limits r f → ⊥
sound_has_none limits r (Points p n) s h = h
sound_has_none limits r (Positions p) s h = s.positions h.1
sound_has_none limits r (Cycle p names back) s h = s.no_cycle h.2.0 back h.2.1
sound_has_none limits r (Form p) s h = s.forms h.3
sound_has_none limits r (Memory e) s h = h

first_unsound : (limits : Limits) (regions : List Region) (f : SolveError) → IsFirstFault limits regions f → ¬ AreSound limits regions
first_unsound limits regions f h sound = sound_has_none limits (region_at regions h.0) f (sound (region_at regions h.0) (Contains-get_or regions h.0 no_region h.1)) h.2

large_unsound : (limits : Limits) (regions : List Region) (p n : ℕ) → IsFirstLarge regions p n → ¬ AreSound limits regions
large_unsound limits regions p n h sound =
    let few = (sound (region_at regions h.0) (Contains-get_or regions h.0 no_region h.1)).points in
    omega (arith, few, h.3, h.4)

-- a fault keeps the setup from being opened
pub cannot_open : (limits : Limits) (tax : Bool) (setup : Setup) (f : SolveError) → Begun setup tax limits (Err f) → IsFault f → OpensNone false limits setup
cannot_open limits tax setup (Points p n) b i = (b.0, b.1, large_unsound limits b.0 p n b.2)
cannot_open limits tax setup (Positions p) b i = (b.0, b.1, first_unsound limits b.0 (Positions p) b.2.1)
cannot_open limits tax setup (Cycle p names back) b i = (b.0, b.1, first_unsound limits b.0 (Cycle p names back) b.2.1)
cannot_open limits tax setup (Form p) b i = (b.0, b.1, first_unsound limits b.0 (Form p) b.2.1)
cannot_open limits tax setup (Memory e) b i = absurd i

-- a steady region has no fault
steady_has_none : (limits : Limits) (most : ℕ) (r : Region) (f : CycleError) → IsSteadyWithin limits most r → steady.IsFaultOf limits most r f → ⊥
steady_has_none limits most r (unsteady.Points p n) s h = h
steady_has_none limits most r (unsteady.Positions p) s h = s.positions h.1
steady_has_none limits most r (unsteady.Form p) s h = s.forms h.2
steady_has_none limits most r (unsteady.Captures p) s h = let u = h.3 in let k = s.steady u.0 in u.1 k.0 (omega (arith, k.1)) k.2.steady
steady_has_none limits most r (unsteady.Memory e) s h = h

first_unsteady : (limits : Limits) (most : ℕ) (regions : List Region) (f : CycleError) → steady.IsFirstFault limits most regions f → ¬ AreSteadyWithin limits most regions
first_unsteady limits most regions f h sound =
    steady_has_none limits most (region_at regions h.0) f (sound (region_at regions h.0) (Contains-get_or regions h.0 no_region h.1)) h.2

large_unsteady : (limits : Limits) (most : ℕ) (regions : List Region) (p n : ℕ) → IsFirstLarge regions p n → ¬ AreSteadyWithin limits most regions
large_unsteady limits most regions p n h sound =
    let few = (sound (region_at regions h.0) (Contains-get_or regions h.0 no_region h.1)).points in
    omega (arith, few, h.3, h.4)

-- the same where regions may have cycles
pub cannot_open_with_cycles : (limits : Limits) (tax : Bool) (setup : Setup) (f : CycleError) → BeginsPlay setup tax limits MOST_CAPTURES (Err f) → IsCycleFault f → OpensNone true limits setup
cannot_open_with_cycles limits tax setup (unsteady.Points p n) b i = (b.0, b.1, large_unsteady limits MOST_CAPTURES b.0 p n b.2)
cannot_open_with_cycles limits tax setup (unsteady.Positions p) b i = (b.0, b.1, first_unsteady limits MOST_CAPTURES b.0 (unsteady.Positions p) b.2.1)
cannot_open_with_cycles limits tax setup (unsteady.Form p) b i = (b.0, b.1, first_unsteady limits MOST_CAPTURES b.0 (unsteady.Form p) b.2.1)
cannot_open_with_cycles limits tax setup (unsteady.Captures p) b i = (b.0, b.1, first_unsteady limits MOST_CAPTURES b.0 (unsteady.Captures p) b.2.1)
cannot_open_with_cycles limits tax setup (unsteady.Memory e) b i = absurd i

-- the side to move has no move
pub acted_resigned : (s t : EngineGame) (id reply : List ℕ) → ¬ HasMove s.state → t ≡ s → reply ≡ reply_text id (done (codes "resign")) → IsActed Generate id s reply t
acted_resigned s t id reply none same said = (done (codes "resign"), inr (none, refl, same), said)

-- the engine's move is played
pub acted_generated : (s u t : EngineGame) (m : Move) (id reply text : List ℕ) → u ≡ s → EngineGoes u m t → text ≡ move_text s.state.board.columns s.state.board.rows m
    → reply ≡ reply_text id (done text) → IsActed Generate id s reply t
acted_generated s u t m id reply text same goes is said =
    (done (move_text s.state.board.columns s.state.board.rows m), inl (m, subst (λ x. EngineGoes x m t) same goes, refl), said ∙ ap (λ x. reply_text id (done x)) is)
