-- What holds of each board session.
use Rattle.std.specs.Prelude.{List, [], ◌∷◌, Option}
use Rattle.desk_io.specs.Files.{Files}
use Rattle.gtp_words.specs.Loads.{Fate}
use Rattle.board_session.specs.declared.limits.BoardLimits.{BoardLimits}
use Rattle.board_orders.specs.declared.position.MadeMove.{MadeMove}
use Rattle.board_orders.specs.declared.position.Position.{Position}
use Rattle.board_orders.specs.Orders.{BoardOrder}
use Rattle.board_orders.specs.Positions.{MakesMove}
use Rattle.board_session.specs.Session.{Obeys}
use Rattle.board_orders.specs.Effects.{Said}
use Rattle.board_orders.specs.States.{BoardState}

-- the moves are made one after the other, from this position on
abbrev pub AreMade : Position → List MadeMove → Type 0
AreMade a [] = Unit {0}
AreMade a (m ∷ moves) = MakesMove m.colour m.chosen a m.after × AreMade m.after moves

-- whatever was asked or taken back, the position is that of the setup and the moves that stand
abbrev pub MovesStand : Type 0
MovesStand = (limits : BoardLimits) (files : Option Files) (order : BoardOrder) (fate : Fate) (s u : BoardState) (said : Said) → AreMade s.setup s.moves
    → Obeys limits files order fate s said u → AreMade u.setup u.moves
