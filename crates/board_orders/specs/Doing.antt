-- What single orders leave behind, and what is asked of those who give them.
use Rattle.std.specs.Prelude.{◌≡◌, ◌+◌, ℕ, List, length, Option, Some, None}
use Rattle.go_grid.specs.declared.grid.Colour.{Colour}
use Rattle.sgf_go.specs.Komi.{IsInRange}
use Rattle.board_orders.specs.declared.position.BoardMove.{BoardMove}
use Rattle.board_orders.specs.declared.position.MadeMove.{MadeMove}
use Rattle.board_orders.specs.Orders.{Asked, BoardOrder}
use Rattle.board_orders.specs.Orders.Asked.{something}
use Rattle.board_orders.specs.Orders.BoardOrder.{analyse, genmove, komi, loadsgf, reg_genmove}
use Rattle.board_orders.specs.Kept.{IsFitAfter, IsModest, IsOnBoard}
use Rattle.board_orders.specs.Positions.{IsIllegal, MakesMove}
use Rattle.board_orders.specs.Effects.{Does, Said, reply_text}
use Rattle.board_orders.specs.States.{BoardState, present}

-- the move of the colour with the position after it, or that it may not be made
abbrev pub IsMadeBy : Colour → BoardMove → BoardState → Option MadeMove → Type 0
IsMadeBy c m s (Some made) = MakesMove c m (present s) made.after × (made ≡ record { after = made.after; komi_before = s.komi_halves; chosen = m; colour = c })
IsMadeBy c m s None = IsIllegal c m (present s)

-- the move can be added to those of the state
abbrev pub IsFitMove : BoardState → MadeMove → Type 0
IsFitMove s made = IsFitAfter s.setup (length s.moves + 1) made.after × IsOnBoard s.setup.board.columns s.setup.board.rows made.chosen × IsModest made.komi_before

-- the reply to an order, and the state after it
abbrev pub IsDone : BoardOrder → List ℕ → BoardState → List ℕ → BoardState → Type 0
IsDone order id s reply u = (said : Said) × Does order s said u × (reply ≡ reply_text id said)

-- a komi that is ordered is in range
abbrev pub HasKomiInRange : BoardOrder → Type 0
HasKomiInRange (komi halves) = IsInRange halves
HasKomiInRange order = Unit {0}

-- a komi that the words ask for is in range
abbrev pub AsksInRange : Asked → Type 0
AsksInRange (something order) = HasKomiInRange order
AsksInRange asked = Unit {0}

-- the order asks for neither a file nor the solver
abbrev pub IsPlainOrder : BoardOrder → Type 0
IsPlainOrder (loadsgf file after) = ⊥
IsPlainOrder (genmove c) = ⊥
IsPlainOrder (reg_genmove c) = ⊥
IsPlainOrder (analyse x) = ⊥
IsPlainOrder order = Unit {0}
