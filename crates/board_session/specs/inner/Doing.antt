-- What orders that ask for a file or the solver leave behind.
use Rattle.std.specs.Prelude.{◌≡◌, ℕ, List, Bool}
use Rattle.go_grid.specs.declared.grid.Colour.{Colour}
use Rattle.go_play.specs.Setup.{HasFewPrisoners}
use Rattle.gtp_words.specs.declared.loading.Loading.{Loading}
use Rattle.gtp_words.specs.declared.loading.Loading.TheVariants.{Failed, Nothing, Position}
use Rattle.endgame_solver.specs.Limits.{Limits}
use Rattle.board_orders.specs.Effects.{Said, reply_text}
use Rattle.board_session.specs.Session.{Generates, Suggests}
use Rattle.board_orders.specs.States.{BoardState}

-- the reply to a colour that asks for the engine's move, with cycles admitted or without, and the state after it
abbrev pub IsGenerated : Bool → Limits → Colour → List ℕ → BoardState → List ℕ → BoardState → Type 0
IsGenerated cycles limits c id s reply u = (said : Said) × Generates cycles limits c s said u × (reply ≡ reply_text id said)

-- the same where the move isn't made
abbrev pub IsSuggested : Bool → Limits → Colour → List ℕ → BoardState → List ℕ → Type 0
IsSuggested cycles limits c id s reply = (said : Said) × Suggests cycles limits c s said × (reply ≡ reply_text id said)

-- what a load comes to can be taken up: there are few prisoners
abbrev pub CanTakeUp : Loading → Type 0
CanTakeUp (Position setup) = HasFewPrisoners setup
CanTakeUp Nothing = Unit {0}
CanTakeUp Failed = Unit {0}
