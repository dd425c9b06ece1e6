-- Room for the turns that may still come.
use Rattle.std.proofs.Common.{◌≡◌, ℕ, ◌+◌, ◌*◌, ◌-◌, ◌≤◌, ◌<◌, arith}
use Rattle.desk_io.specs.declared.lines.TheConstants.{MOST_LINES}
use Rattle.go_grid.specs.declared.grid.Colour.{Colour}
use Rattle.go_grid.specs.declared.grid.Colour.TheVariants.{Black, White}
use Rattle.engine_player.specs.Room.{CanTake}
use Rattle.engine_player.proofs.RoomLemmas.{can_take_less}
use Rattle.play_session.specs.declared.session.TheConstants.{MOST_TURNS}
use Rattle.play_session.specs.Written.{Session}
use Rattle.play_session.specs.inner.Written.{engine_turn, turns_left}

one_or_none : (c d : Colour) → engine_turn c d ≤ 1
one_or_none Black Black = omega arith
one_or_none Black White = omega arith
one_or_none White Black = omega arith
one_or_none White White = omega arith

pub begin_room : (s : Session) → CanTake MOST_TURNS s.game → CanTake (turns_left s 0 + 1) s.game
begin_room s room = let few = one_or_none s.engine s.game.state.side in can_take_less s.game (turns_left s 0 + 1) MOST_TURNS (omega (arith, few)) room

pub some_room : (s : Session) (read : ℕ) → CanTake (turns_left s read + 1) s.game → CanTake 1 s.game
some_room s read room = can_take_less s.game 1 (turns_left s read + 1) (omega arith) room

pub turn_room : (s t : Session) (read now : ℕ) → turns_left t now < turns_left s read → CanTake (turns_left s read + 1) s.game
    → ((n : ℕ) → CanTake (n + 1) s.game → CanTake n t.game) → CanTake (turns_left t now + 1) t.game
turn_room s t read now fewer room behind =
    can_take_less t.game (turns_left t now + 1) (turns_left s read) (omega (arith, fewer)) (behind (turns_left s read) room)
