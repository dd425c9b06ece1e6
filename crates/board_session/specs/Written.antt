-- What a board engine keeps, and what the reply to a line leaves.
use Rattle.std.specs.Prelude.{Bool, ◌≡◌, ◌≤◌, ◌+◌, ℕ, List, length, Option}
use Rattle.desk_io.specs.declared.lines.TheConstants.{MOST_LINES}
use Rattle.desk_io.specs.Files.{Files}
use Rattle.gtp_words.specs.Loads.{Loads, unloaded}
use Rattle.gtp_words.specs.Sessions.{IsReply, Loaded}
use Rattle.board_session.specs.declared.limits.BoardLimits.{BoardLimits}
use Rattle.board_session.specs.Session.{AnswersLine}
use Rattle.board_orders.specs.States.{first_state, BoardState}

-- what a board engine keeps: its limits, the state of its session, and the loads so far
pub record BoardEngine : Type 0 where
  pub limits : BoardLimits
  pub state : BoardState
  pub loads : Loads

-- the state and the loads
abbrev pub loaded : BoardEngine → Loaded BoardState
loaded a = record { state = a.state; loads = a.loads }

-- the reply to a line, and what it leaves
abbrev pub IsBoardReply : Option Files → ℕ → ℕ → List ℕ → BoardEngine → List ℕ → BoardEngine → Bool → Type 0
IsBoardReply files before now line a reply b last = IsReply BoardState (AnswersLine a.limits files) before now line (loaded a) reply (loaded b) last × (b.limits ≡ a.limits)

-- an engine that has answered nothing
abbrev pub unused : BoardLimits → BoardEngine
unused limits = record { limits = limits; state = first_state; loads = unloaded }

-- so many lines more can be answered: each may be a move
abbrev pub CanAnswer : ℕ → BoardState → Type 0
CanAnswer n s = n + length s.moves ≤ MOST_LINES
