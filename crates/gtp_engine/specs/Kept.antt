-- What an engine keeps.
use Rattle.std.specs.Prelude.{◌<◌, ◌≤◌, ◌+◌, ℕ, IfSome}
use Rattle.desk_io.specs.declared.lines.TheConstants.{MOST_LINES}
use Rattle.engine_player.specs.Room.{CanTake}
use Rattle.gtp_engine.specs.Session.{Table}

-- the game that runs, if one does, can take so many more moves
abbrev pub HasRoomFor : ℕ → Table → Type 0
HasRoomFor n t = IfSome t.game (CanTake n)

-- behind a line there is room for one move less, for as many as a session has lines
abbrev pub LeavesRoom : Table → Table → Type 0
LeavesRoom t u = (n : ℕ) → n < MOST_LINES → HasRoomFor (n + 1) t → HasRoomFor n u

-- so many lines more can be answered
abbrev pub CanAnswer : ℕ → Table → Type 0
CanAnswer n t = (n ≤ MOST_LINES) × HasRoomFor n t
