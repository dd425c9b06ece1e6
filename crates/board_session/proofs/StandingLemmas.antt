-- The position of a state is that of its setup and its moves.
use Rattle.std.proofs.Common.{ℕ, ◌≡◌, ◌++◌, ◌∷◌, List, [], inl, inr, sym, subst, Option, Some, None}
use Rattle.go_grid.specs.declared.grid.Colour.{Colour}
use Rattle.board_orders.specs.declared.position.BoardMove.{BoardMove}
use Rattle.board_orders.specs.declared.position.MadeMove.{MadeMove}
use Rattle.board_orders.specs.declared.position.Position.{Position}
use Rattle.board_orders.specs.declared.refusal.Refusal.{Refusal}
use Rattle.board_session.specs.Generating.{Advice, Follows, board_move, chosen, resigned, unopened}
use Rattle.board_session.specs.Laws.{AreMade, MovesStand}
use Rattle.gtp_words.specs.Loads.Fate.{failed, made as loaded, no_load}
use Rattle.board_orders.specs.Orders.{BoardOrder}
use Rattle.board_orders.specs.Orders.BoardOrder.{tell, known, ask, boardsize, clear_board, komi, play, genmove, reg_genmove, analyse, loadsgf, undo, fixed_handicap, free_handicap, quit}
use Rattle.board_orders.specs.Positions.{MakesMove}
use Rattle.board_orders.specs.Effects.{Does, PlaysMove, Said, SetsOut}
use Rattle.board_orders.specs.States.{BoardState, after_moves}

-- a move more
made_push : (a : Position) (moves : List MadeMove) (m : MadeMove) → AreMade a moves → MakesMove m.colour m.chosen (after_moves a moves) m.after → AreMade a (moves ++ m ∷ [])
made_push a [] m made makes = (makes, tt)
made_push a (x ∷ moves) m made makes = (made.0, made_push x.after moves m made.1 makes)

-- a move less
made_pop : (a : Position) (moves : List MadeMove) (m : MadeMove) → AreMade a (moves ++ m ∷ []) → AreMade a moves
made_pop a [] m made = tt
made_pop a (x ∷ moves) m made = (made.0, made_pop x.after moves m made.1)

kept : (s u : BoardState) → AreMade s.setup s.moves → u ≡ s → AreMade u.setup u.moves
kept s u made same = subst (λ x. AreMade x.setup x.moves) (sym same) made

played : (c : Colour) (m : Option BoardMove) (s u : BoardState) (said : Said) → AreMade s.setup s.moves → PlaysMove c m s said u → AreMade u.setup u.moves
played c None s u said made h = kept s u made h.1
played c (Some m) s u said made (inl h) =
    subst (λ x. AreMade x.setup x.moves) (sym h.3) (made_push s.setup s.moves (record { colour = c; chosen = m; komi_before = s.komi_halves; after = h.0 }) made h.1)
played c (Some m) s u said made (inr h) = kept s u made h.1.1

set : (text : List ℕ) (why : Refusal) (points : List ℕ) (s u : BoardState) (said : Said) → AreMade s.setup s.moves → SetsOut text why points s said u → AreMade u.setup u.moves
set text why points s u said made (inl h) = subst (λ x. AreMade x.setup x.moves) (sym h.3) tt
set text why points s u said made (inr h) = kept s u made h.1.1

does : (order : BoardOrder) (s u : BoardState) (said : Said) → AreMade s.setup s.moves → Does order s said u → AreMade u.setup u.moves
does (tell text) s u said made h = kept s u made h.1
does (known word) s u said made h = kept s u made h.3
does (ask question) s u said made h = kept s u made h.1
does (boardsize n) s u said made (inl h) = subst (λ x. AreMade x.setup x.moves) (sym h.3) tt
does (boardsize n) s u said made (inr h) = kept s u made h.1.1
does clear_board s u said made h = subst (λ x. AreMade x.setup x.moves) (sym h.1) tt
does (komi halves) s u said made h = subst (λ x. AreMade x.setup x.moves) (sym h.1) made
does (play c w) s u said made h = played c _ s u said made h
does undo s u said made (inl h) = subst (λ a. AreMade a u.moves) (sym h.0.setup) (made_pop s.setup u.moves h.0.last (subst (AreMade s.setup) h.0.moves made))
does undo s u said made (inr h) = kept s u made h.1.1
does (fixed_handicap n) s u said made (inl h) = kept s u made h.1.1
does (fixed_handicap n) s u said made (inr (inl h)) = kept s u made h.2.1
does (fixed_handicap n) s u said made (inr (inr h)) = set _ _ _ s u said made h.2
does (free_handicap words) s u said made (inl h) = kept s u made h.1.1
does (free_handicap words) s u said made (inr (inl h)) = kept s u made h.2.1
does (free_handicap words) s u said made (inr (inr h)) = set _ _ _ s u said made h.1.2
does quit s u said made h = kept s u made h.1
does (loadsgf file after) s u said made h = absurd h
does (genmove c) s u said made h = absurd h
does (reg_genmove c) s u said made h = absurd h
does (analyse x) s u said made h = absurd h

-- a generated move
followed : (c : Colour) (a : Advice) (s u : BoardState) → AreMade s.setup s.moves → Follows c a s u → AreMade u.setup u.moves
followed c (chosen m) s u made (b, makes, is) =
    subst (λ x. AreMade x.setup x.moves) (sym is) (made_push s.setup s.moves (record { colour = c; chosen = board_move m; komi_before = s.komi_halves; after = b }) made makes)
followed c resigned s u made same = kept s u made same
followed c (unopened words) s u made same = kept s u made same

pub moves_stand : MovesStand
moves_stand limits files (tell text) fate s u said made h = does (tell text) s u said made h.1
moves_stand limits files (known word) fate s u said made h = does (known word) s u said made h.1
moves_stand limits files (ask question) fate s u said made h = does (ask question) s u said made h.1
moves_stand limits files (boardsize n) fate s u said made h = does (boardsize n) s u said made h.1
moves_stand limits files clear_board fate s u said made h = does clear_board s u said made h.1
moves_stand limits files (komi halves) fate s u said made h = does (komi halves) s u said made h.1
moves_stand limits files (play c w) fate s u said made h = does (play c w) s u said made h.1
moves_stand limits files undo fate s u said made h = does undo s u said made h.1
moves_stand limits files (fixed_handicap n) fate s u said made h = does (fixed_handicap n) s u said made h.1
moves_stand limits files (free_handicap words) fate s u said made h = does (free_handicap words) s u said made h.1
moves_stand limits files quit fate s u said made h = does quit s u said made h.1
moves_stand limits files (genmove c) fate s u said made (none, (a, advised, is, follows)) = followed c a s u made follows
moves_stand limits files (reg_genmove c) fate s u said made h = kept s u made h.2
moves_stand limits files (analyse x) fate s u said made h = kept s u made h.2
moves_stand limits files (loadsgf file after) no_load s u said made h = kept s u made h.1.1
moves_stand limits files (loadsgf file after) loaded s u said made (text, inl (setup, gives, is, then)) = subst (λ x. AreMade x.setup x.moves) (sym then) tt
moves_stand limits files (loadsgf file after) loaded s u said made (text, inr (none, (is, same))) = kept s u made same
moves_stand limits files (loadsgf file after) failed s u said made h = kept s u made h.1.1
