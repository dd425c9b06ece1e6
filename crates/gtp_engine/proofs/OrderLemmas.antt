-- What single orders leave behind.
use Rattle.std.proofs.Common.{◌≡◌, ◌≢◌, ◌⊎◌, ◌≤◌, ◌<◌, ℕ, ℤ, List, [], inl, inr, refl, sym, ap, ◌∙◌, subst, false, Some, None, Ok, Err, Result, IfOk}
use Rattle.go_grid.specs.declared.grid.Colour.{Colour}
use Rattle.go_play.specs.Setup.{Setup}
use Rattle.engine_player.specs.EngineGame.{EngineGame}
use Rattle.engine_player.specs.Opening.{OpensGame, OpensNone}
use Rattle.endgame_solver.specs.Limits.{Limits}
use Rattle.gtp_engine.specs.declared.playing.Action.{Action}
use Rattle.gtp_engine.specs.declared.reply.Refusal.TheVariants.{CannotSolve, GameHasBegun, NotInTurn, UnacceptableSize}
use Rattle.gtp_engine.specs.inner.Doing.{IsDone, IsFresh, IsRunning, IsTurnTaken, with_table}
use Rattle.gtp_engine.specs.inner.Playing.{IsActed}
use Rattle.gtp_engine.specs.Request.{Order}
use Rattle.gtp_engine.specs.Request.Order.{boardsize, clear_board, komi}
use Rattle.gtp_engine.specs.Session.{Does, Table, done, fresh, refused, reply_text, with_side}
use Rattle.gtp_engine.specs.Written.{Engine}

pub komi_refused : (a : Engine) (halves : ℤ) (id reply : List ℕ) → IsRunning a → reply ≡ reply_text id (refused GameHasBegun) → IsDone (komi halves) id a reply a
komi_refused a halves id reply runs said = (refused GameHasBegun, a.table, inr (runs, (refl, refl)), said, refl)

pub komi_taken : (a b : Engine) (halves kept : ℤ) (id reply : List ℕ) → IsFresh a → kept ≡ halves
    → b ≡ record a { table = record { setup = record a.table.setup { komi_halves = kept }; game = a.table.game } } → reply ≡ reply_text id (done []) → IsDone (komi halves) id a reply b
komi_taken a b halves kept id reply none held is said =
    let after : Table = record { setup = record a.table.setup { komi_halves = halves }; game = None } in (
      done [],
      after,
      inl (none, refl, refl),
      said,
      is ∙ ap (λ k. with_table a (record { setup = record a.table.setup { komi_halves = k }; game = a.table.game })) held
          ∙ ap (λ g. with_table a (record { setup = record a.table.setup { komi_halves = halves }; game = g })) none,
    )

pub size_refused : (a : Engine) (n : ℕ) (id reply : List ℕ) → (n < 1) ⊎ (25 < n) → reply ≡ reply_text id (refused UnacceptableSize) → IsDone (boardsize n) id a reply a
size_refused a n id reply out said = (refused UnacceptableSize, a.table, inr (out, (refl, refl)), said, refl)

pub size_taken : (a b : Engine) (n : ℕ) (id reply : List ℕ) → 1 ≤ n → n ≤ 25 → b ≡ record a { table = fresh n n a.table.setup.komi_halves }
    → reply ≡ reply_text id (done []) → IsDone (boardsize n) id a reply b
size_taken a b n id reply some few is said = (done [], fresh n n a.table.setup.komi_halves, inl (some, few, refl, refl), said, is)

-- an order that is answered by a text alone
pub done_told : {E : Type 0} (id text : List ℕ) (ordered order : Order) (a : Engine) (result : Result (List ℕ) E) → ordered ≡ order → Does a.limits order a.table (done text) a.table
    → IfOk result (λ reply. reply ≡ reply_text id (done text)) → IfOk result (λ reply. IsDone ordered id a reply a)
done_told id text ordered order a (Ok reply) is does said = subst (λ o. IsDone o id a reply a) (sym is) (done text, a.table, does, said, refl)
done_told id text ordered order a (Err e) is does said = tt

-- a fresh board
pub done_cleared : {E : Type 0} (id : List ℕ) (columns rows : ℕ) (ordered : Order) (a b : Engine) (result : Result (List ℕ) E) → ordered ≡ clear_board
    → columns ≡ a.table.setup.board.columns → rows ≡ a.table.setup.board.rows
    → IfOk result (λ reply. (reply ≡ reply_text id (done [])) × (b ≡ record a { table = fresh columns rows a.table.setup.komi_halves })) → IfOk result (λ reply. IsDone ordered id a reply b)
done_cleared id columns rows ordered a b (Ok reply) is same_columns same_rows d =
    let halves = a.table.setup.komi_halves in
    let board = ap (λ n. fresh n rows halves) same_columns ∙ ap (λ n. fresh a.table.setup.board.columns n halves) same_rows in
    subst (λ o. IsDone o id a reply b) (sym is) (done [], fresh columns rows halves, (refl, board), d.0, d.1)
done_cleared id columns rows ordered a b (Err e) is same_columns same_rows d = tt

-- the other colour is to move
pub turn_refused : (a b : Engine) (c : Colour) (action : Action) (s : EngineGame) (id reply : List ℕ) → a.table.game ≡ Some s → s.state.side ≢ c → b ≡ a
    → reply ≡ reply_text id (refused NotInTurn) → IsTurnTaken c action id a reply b
turn_refused a b c action s id reply runs other same said = (refused NotInTurn, a.table, inr (inr (inr (s, runs, other, (refl, refl)))), said, same)

-- a turn in the running game
pub turn_taken : (a b : Engine) (c : Colour) (action : Action) (s v : EngineGame) (id reply : List ℕ) → a.table.game ≡ Some s → s.state.side ≡ c → IsActed action id s reply v
    → b ≡ record a { table = record a.table { game = Some v } } → IsTurnTaken c action id a reply b
turn_taken a b c action s v id reply runs own acted is = (acted.0, record a.table { game = Some v }, inr (inr (inl (s, v, runs, own, acted.1, refl))), acted.2, is)

module _ (a : Engine) (limits : Limits) (setup other : Setup) (c : Colour) (action : Action) (id reply : List ℕ)
    (same_limits : limits ≡ a.limits.game) (same_setup : setup ≡ a.table.setup) (none : IsFresh a) (is : other ≡ with_side setup c) where
  with_side_is : other ≡ with_side a.table.setup c
  with_side_is = is ∙ ap (λ x. with_side x c) same_setup

  -- the setup can't be opened
  pub turn_unsolved : OpensNone a.limits.cycles limits other → reply ≡ reply_text id (refused CannotSolve) → IsTurnTaken c action id a reply a
  turn_unsolved cannot said =
      (refused CannotSolve, a.table, inr (inl (none, subst (λ l. OpensNone a.limits.cycles l (with_side a.table.setup c)) same_limits (subst (OpensNone a.limits.cycles limits) with_side_is cannot), (refl, refl))), said, refl)

  -- the first turn of the game that the setup opens
  pub turn_first : (b : Engine) (s v : EngineGame) → OpensGame a.limits.cycles limits false other s → IsActed action id s reply v → b ≡ record a { table = record { setup = other; game = Some v } }
      → IsTurnTaken c action id a reply b
  turn_first b s v playable acted left = (
    acted.0,
    record { setup = with_side a.table.setup c; game = Some v },
    inl (none, (s, v, subst (λ l. OpensGame a.limits.cycles l false (with_side a.table.setup c) s) same_limits (subst (λ x. OpensGame a.limits.cycles limits false x s) with_side_is playable), acted.1, refl)),
    acted.2,
    left ∙ ap (λ x. with_table a (record { setup = x; game = Some v })) with_side_is,
  )
