-- What single orders leave behind.
use Rattle.std.proofs.Common.{◌≡◌, ◌⊎◌, ◌≤◌, ◌<◌, ◌+◌, ◌++◌, ◌∷◌, ℕ, List, [], length, arith, inl, inr, refl, sym, ap, ◌∙◌, subst, Option, Some, None, Ok, Err, Result, IfOk, OnErr}
use Rattle.std.proofs.lemmas.List.{length_push}
use Rattle.go_grid.specs.declared.grid.Colour.{Colour}
use Rattle.board_orders.specs.declared.position.BoardMove.{BoardMove}
use Rattle.board_orders.specs.declared.position.MadeMove.{MadeMove}
use Rattle.board_orders.specs.declared.refusal.Refusal.{Refusal}
use Rattle.board_orders.specs.declared.refusal.Refusal.TheVariants.{CannotUndo, IllegalMove, UnacceptableSize}
use Rattle.board_orders.specs.declared.wanted.Wanted.{Wanted}
use Rattle.board_orders.specs.Doing.{IsDone}
use Rattle.board_orders.specs.inner.Doing.{IsMade}
use Rattle.board_orders.specs.Orders.{BoardOrder}
use Rattle.board_orders.specs.Orders.BoardOrder.{tell, known, ask, boardsize, clear_board, komi, play, genmove, reg_genmove, analyse, loadsgf, undo, fixed_handicap, free_handicap, quit}
use Rattle.board_orders.specs.Effects.{Does, PlaysMove, Said, SetsOut, done, refused, reply_text}
use Rattle.board_orders.specs.States.{BoardState, fresh, present}

pub size_refused : (s : BoardState) (n : ℕ) (id reply : List ℕ) → (n < 1) ⊎ (25 < n) → reply ≡ reply_text id (refused UnacceptableSize) → IsDone (boardsize n) id s reply s
size_refused s n id reply out said = (refused UnacceptableSize, inr (out, (refl, refl)), said)

pub size_taken : (s u : BoardState) (n : ℕ) (id reply : List ℕ) → 1 ≤ n → n ≤ 25 → u ≡ fresh n n s.komi_halves → reply ≡ reply_text id (done []) → IsDone (boardsize n) id s reply u
size_taken s u n id reply some few is said = (done [], inl (some, few, refl, is), said)

pub taken_back : (s u : BoardState) (m : MadeMove) (id reply : List ℕ) → s.moves ≡ u.moves ++ m ∷ [] → u.komi_halves ≡ m.komi_before → u.setup ≡ s.setup → u.handicap ≡ s.handicap
    → reply ≡ reply_text id (done []) → IsDone undo id s reply u
taken_back s u m id reply moves halves setup handicap said = (done [], inl (record { last = m; moves = moves; komi = halves; setup = setup; handicap = handicap }, refl), said)

pub none_back : (s u : BoardState) (id reply : List ℕ) → s.moves ≡ [] → u ≡ s → reply ≡ reply_text id (refused CannotUndo) → IsDone undo id s reply u
none_back s u id reply none same said = (refused CannotUndo, inr (none, (refl, same)), said)

pub move_played : (c : Colour) (w : Wanted) (s u : BoardState) (made : MadeMove) (id reply : List ℕ) → IsMade c w s (Some made) → u ≡ record s { moves = s.moves ++ made ∷ [] }
    → reply ≡ reply_text id (done []) → IsDone (play c w) id s reply u
move_played c w s u made id reply (m, found, (makes, is)) then said =
    (done [], subst (λ x. PlaysMove c x s (done []) u) (sym found) (inl (made.after, makes, refl, then ∙ ap (λ x. record s { moves = s.moves ++ x ∷ [] }) is)), said)

pub move_refused : (c : Colour) (w : Wanted) (s : BoardState) (id reply : List ℕ) → IsMade c w s None → reply ≡ reply_text id (refused IllegalMove) → IsDone (play c w) id s reply s
move_refused c w s id reply (inl none) said = (refused IllegalMove, subst (λ x. PlaysMove c x s (refused IllegalMove) s) (sym none) (refl, refl), said)
move_refused c w s id reply (inr (m, found, illegal)) said =
    (refused IllegalMove, subst (λ x. PlaysMove c x s (refused IllegalMove) s) (sym found) (inr (illegal, (refl, refl))), said)

-- an order that is answered by a text alone
pub done_told : {E : Type 0} (id text : List ℕ) (ordered order : BoardOrder) (s : BoardState) (r : Result (List ℕ) E) → ordered ≡ order → Does order s (done text) s
    → IfOk r (λ reply. reply ≡ reply_text id (done text)) → IfOk r (λ reply. IsDone ordered id s reply s)
done_told id text ordered order s (Ok reply) is does said = subst (λ o. IsDone o id s reply s) (sym is) (done text, does, said)
done_told id text ordered order s (Err e) is does said = tt

-- an order by its other name
pub done_as : {E : Type 0} (ordered order : BoardOrder) (id : List ℕ) (s u : BoardState) (r : Result (List ℕ) E) → ordered ≡ order → IfOk r (λ reply. IsDone order id s reply u)
    → IfOk r (λ reply. IsDone ordered id s reply u)
done_as ordered order id s u r is h = subst (λ o. IfOk r (λ reply. IsDone o id s reply u)) (sym is) h

-- what changed nothing left the state as it was where it was refused too
pub same_always : {E : Type 0} (s : BoardState) (r : Result (List ℕ) E) → OnErr r (s ≡ s)
same_always s (Ok reply) = tt
same_always s (Err e) = refl

-- an empty board
pub done_cleared : {E : Type 0} (id : List ℕ) (columns rows : ℕ) (ordered : BoardOrder) (s u : BoardState) (r : Result (List ℕ) E) → ordered ≡ clear_board
    → columns ≡ (present s).board.columns → rows ≡ (present s).board.rows
    → IfOk r (λ reply. (reply ≡ reply_text id (done [])) × (u ≡ fresh columns rows s.komi_halves)) → IfOk r (λ reply. IsDone ordered id s reply u)
done_cleared id columns rows ordered s u (Ok reply) is same_columns same_rows d =
    subst (λ o. IsDone o id s reply u) (sym is)
    (done [], (refl, d.1 ∙ ap (λ n. fresh n rows s.komi_halves) same_columns ∙ ap (λ n. fresh (present s).board.columns n s.komi_halves) same_rows), d.0)
done_cleared id columns rows ordered s u (Err e) is same_columns same_rows d = tt

-- an order adds one move at most
same_grown : (s u : BoardState) → u ≡ s → length u.moves ≤ length s.moves + 1
same_grown s u is = omega (arith, ap (λ x. length x.moves) is)

move_grown : (c : Colour) (m : Option BoardMove) (s u : BoardState) (said : Said) → PlaysMove c m s said u → length u.moves ≤ length s.moves + 1
move_grown c None s u said h = same_grown s u h.1
move_grown c (Some m) s u said (inl h) = omega (arith, ap (λ x. length x.moves) h.3, length_push s.moves (record { colour = c; chosen = m; komi_before = s.komi_halves; after = h.0 }))
move_grown c (Some m) s u said (inr h) = same_grown s u h.1.1

set_grown : (text : List ℕ) (why : Refusal) (points : List ℕ) (s u : BoardState) (said : Said) → SetsOut text why points s said u → length u.moves ≤ length s.moves + 1
set_grown text why points s u said (inl h) = omega (arith, ap (λ x. length x.moves) h.3)
set_grown text why points s u said (inr h) = same_grown s u h.1.1

pub order_grown : (order : BoardOrder) (s u : BoardState) (said : Said) → Does order s said u → length u.moves ≤ length s.moves + 1
order_grown (tell text) s u said h = same_grown s u h.1
order_grown (known word) s u said h = same_grown s u h.3
order_grown (ask question) s u said h = same_grown s u h.1
order_grown (boardsize n) s u said (inl h) = omega (arith, ap (λ x. length x.moves) h.3)
order_grown (boardsize n) s u said (inr h) = same_grown s u h.1.1
order_grown clear_board s u said h = omega (arith, ap (λ x. length x.moves) h.1)
order_grown (komi halves) s u said h = omega (arith, ap (λ x. length x.moves) h.1)
order_grown (play c w) s u said h = move_grown c _ s u said h
order_grown undo s u said (inl h) = omega (arith, ap length h.0.moves, length_push u.moves h.0.last)
order_grown undo s u said (inr h) = same_grown s u h.1.1
order_grown (fixed_handicap n) s u said (inl h) = same_grown s u h.1.1
order_grown (fixed_handicap n) s u said (inr (inl h)) = same_grown s u h.2.1
order_grown (fixed_handicap n) s u said (inr (inr h)) = set_grown _ _ _ s u said h.2
order_grown (free_handicap words) s u said (inl h) = same_grown s u h.1.1
order_grown (free_handicap words) s u said (inr (inl h)) = same_grown s u h.2.1
order_grown (free_handicap words) s u said (inr (inr h)) = set_grown _ _ _ s u said h.1.2
order_grown quit s u said h = same_grown s u h.1
order_grown (loadsgf file after) s u said h = absurd h
order_grown (genmove c) s u said h = absurd h
order_grown (reg_genmove c) s u said h = absurd h
order_grown (analyse x) s u said h = absurd h
