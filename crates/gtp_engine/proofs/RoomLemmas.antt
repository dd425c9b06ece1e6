-- What a line leaves of the room for moves where kos are admitted.
use Rattle.std.proofs.Common.{◌≡◌, ℕ, ◌+◌, ◌≤◌, arith, inl, inr, sym, ap, subst, Bool, true, false, List, [], ◌∷◌, Option, Some, None, Ok, Err}
use Rattle.std.specs.Prelude.{IfSome}
use Rattle.desk_io.specs.declared.lines.TheConstants.{MOST_LINES}
use Rattle.desk_io.specs.Files.{Files}
use Rattle.go_grid.specs.declared.grid.Colour.{Colour}
use Rattle.go_play.specs.Setup.{Setup}
use Rattle.whole_rules.specs.declared.states.Move.{Move}
use Rattle.endgame_solver.specs.Limits.{Limits}
use Rattle.engine_player.specs.EngineGame.{EngineGame}
use Rattle.engine_player.specs.Opening.{OpensGame}
use Rattle.engine_player.specs.Room.{CanTake, MayHaveMovesLeft}
use Rattle.engine_player.proofs.RoomLemmas.{can_take_less, room_behind_engine, room_behind_hand}
use Rattle.gtp_engine.specs.declared.limits.EngineLimits.{EngineLimits}
use Rattle.gtp_engine.specs.declared.moves.Wanted.{Wanted}
use Rattle.gtp_engine.specs.Kept.{HasRoomFor, LeavesRoom}
use Rattle.gtp_engine.specs.Moves.{move_for}
use Rattle.gtp_engine.specs.Request.{Asked, Order}
use Rattle.gtp_engine.specs.Request.Order.{protocol_version, name, version, known_command, list_commands, boardsize, clear_board, komi, play, genmove, loadsgf, quit}
use Rattle.gtp_engine.specs.Request.Asked.{something, unknown, misfit}
use Rattle.gtp_engine.specs.Session.{AnswersWords, Generates, Meets, Obeys, PlaysMove, PlaysWanted, Said, Table, TakesTurn}
use Rattle.gtp_words.specs.Loads.{Fate}
use Rattle.gtp_words.specs.Loads.Fate.{made, no_load, failed}
use Rattle.gtp_engine.specs.Written.{Engine, IsEngineReply, unused}

less_room : (game : Option EngineGame) (n m : ℕ) → n ≤ m → IfSome game (CanTake m) → IfSome game (CanTake n)
less_room None n m le room = tt
less_room (Some p) n m le room = can_take_less p n m le room

pub room_less : (t : Table) (n m : ℕ) → n ≤ m → HasRoomFor m t → HasRoomFor n t
room_less t n m le room = less_room t.game n m le room

-- a table as before, or one without a game
pub same_room : (t u : Table) → u ≡ t → LeavesRoom t u
same_room t u same n few room = subst (HasRoomFor n) (sym same) (room_less t n (n + 1) (omega arith) room)

no_game : (t u : Table) → u.game ≡ None → LeavesRoom t u
no_game t u none n few room = subst (λ g. IfSome g (CanTake n)) (sym none) tt

-- an engine that has answered nothing has no game
pub unused_room : (limits : EngineLimits) (a : Engine) (n : ℕ) → a ≡ unused limits → HasRoomFor n a.table
unused_room limits a n first = subst (λ z. HasRoomFor n z.table) (sym first) tt

-- a game that is opened has room for all lines of a session
opened : (cycles : Bool) (limits : Limits) (tax : Bool) (setup : Setup) (p : EngineGame) → OpensGame cycles limits tax setup p → CanTake MOST_LINES p
opened false limits tax setup p (playable, is) = subst (MayHaveMovesLeft MOST_LINES) (sym is) tt
opened true limits tax setup p (keeping, begins, is) = subst (MayHaveMovesLeft MOST_LINES) (sym is) (omega (arith, begins.5))

pub opened_room : (cycles : Bool) (limits : Limits) (tax : Bool) (setup : Setup) (p : EngineGame) → OpensGame cycles limits tax setup p → CanTake 1 p
opened_room cycles limits tax setup p opens = can_take_less p 1 MOST_LINES (omega arith) (opened cycles limits tax setup p opens)

-- an action leaves room for one move less
abbrev Lessens : (EngineGame → Said → EngineGame → Type 0) → Type 0
Lessens Act = (p q : EngineGame) (said : Said) (n : ℕ) → Act p said q → CanTake (n + 1) p → CanTake n q

moves : (m : Option Move) → Lessens (PlaysMove m)
moves None p q said n (is, same) room = subst (CanTake n) (sym same) (can_take_less p n (n + 1) (omega arith) room)
moves (Some m) p q said n (inl (goes, is)) room = room_behind_hand p q m n (Ok tt) goes room
moves (Some m) p q said n (inr (e, goes, is)) room = room_behind_hand p q m n (Err e) goes room

plays : (wanted : Wanted) → Lessens (PlaysWanted wanted)
plays wanted p q said n act room = moves (move_for p.state.board.columns p.state.board.rows wanted) p q said n act room

generates : Lessens Generates
generates p q said n (inl (m, goes, is)) room = room_behind_engine p q m n goes room
generates p q said n (inr (none, is, same)) room = subst (CanTake n) (sym same) (can_take_less p n (n + 1) (omega arith) room)

module _ (limits : EngineLimits) where
  turn : (c : Colour) (Act : EngineGame → Said → EngineGame → Type 0) → Lessens Act → (t u : Table) (said : Said) → TakesTurn limits c Act t said u → LeavesRoom t u
  turn c Act lessens t u said (inl (none, (p, q, opens, act, is))) n few room =
      subst (HasRoomFor n) (sym is) (lessens p q said n act (can_take_less p (n + 1) MOST_LINES (omega (arith, few)) (opened limits.cycles _ _ _ p opens)))
  turn c Act lessens t u said (inr (inl (none, cannot, (said', same)))) n few room = same_room t u same n few room
  turn c Act lessens t u said (inr (inr (inl (p, q, runs, own, act, is)))) n few room =
      subst (HasRoomFor n) (sym is) (lessens p q said n act (subst (λ g. IfSome g (CanTake (n + 1))) runs room))
  turn c Act lessens t u said (inr (inr (inr (p, runs, other, (said', same))))) n few room = same_room t u same n few room

  obeys : (files : Option Files) (order : Order) (fate : Fate) (t u : Table) (said : Said) → Obeys limits files order fate t said u → LeavesRoom t u
  obeys files protocol_version fate t u said h = same_room t u h.1.1
  obeys files name fate t u said h = same_room t u h.1.1
  obeys files version fate t u said h = same_room t u h.1.1
  obeys files (known_command word) fate t u said h = same_room t u h.1.2.1
  obeys files list_commands fate t u said h = same_room t u h.1.1
  obeys files (boardsize size) fate t u said (none, inl (some, few, is, fresh)) = no_game t u (ap (λ x. x.game) fresh)
  obeys files (boardsize size) fate t u said (none, inr (bad, (is, same))) = same_room t u same
  obeys files clear_board fate t u said h = no_game t u (ap (λ x. x.game) h.1.1)
  obeys files (komi halves) fate t u said (none, inl (fresh, is, taken)) = no_game t u (ap (λ x. x.game) taken)
  obeys files (komi halves) fate t u said (none, inr (runs, (is, same))) = same_room t u same
  obeys files (play c wanted) fate t u said h = turn c (PlaysWanted wanted) (plays wanted) t u said h.1
  obeys files (genmove c) fate t u said h = turn c Generates generates t u said h.1
  obeys files quit fate t u said h = same_room t u h.1.1
  obeys files (loadsgf file after) no_load t u said h = same_room t u h.1.1
  obeys files (loadsgf file after) made t u said (utf8, inl (setup, gives, is, fresh)) = no_game t u (ap (λ x. x.game) fresh)
  obeys files (loadsgf file after) made t u said (utf8, inr (gives, (is, same))) = same_room t u same
  obeys files (loadsgf file after) failed t u said h = same_room t u h.1.1

  meets : (files : Option Files) (asked : Asked) (fate : Fate) (t u : Table) (said : Said) → Meets limits files asked fate t said u → LeavesRoom t u
  meets files (something order) fate t u said h = obeys files order fate t u said h
  meets files unknown fate t u said h = same_room t u h.1.1
  meets files misfit fate t u said h = same_room t u h.1.1

  words : (files : Option Files) (ws : List (List ℕ)) (fate : Fate) (t u : Table) (reply : List ℕ) (last : Bool) → AnswersWords limits files ws fate t reply u last
      → LeavesRoom t u
  words files [] fate t u reply last h = same_room t u h.2
  words files (word ∷ more) fate t u reply last (id, rest, asked, said, has, asks, met, is, end) = meets files asked fate t u said met

-- the reply to a line leaves room
pub reply_room : (files : Option Files) (before now : ℕ) (line reply : List ℕ) (a b : Engine) (last : Bool) → IsEngineReply files before now line a reply b last
    → LeavesRoom a.table b.table
reply_room files before now line reply a b last (replied, same) =
    let (ws, are, answered) = replied.answered in words a.limits files ws replied.fate a.table b.table reply last answered
