-- How a session and the line of a fault behind it make the run of a game.
use Rattle.std.proofs.Common.{append_assoc, length, length-append, ◌≡◌, ◌≢◌, ◌≤◌, ◌++◌, ◌⊎◌, ℕ, inl, inr, refl, sym, ap, subst, ◌∙◌, arith, List, [], Some, None}
use Rattle.std.specs.Prelude.{Bool, true, false, Option, IfSome, take, codes}
use Rattle.std.specs.Io.KnownBytes.{append_known}
use Rattle.desk_io.specs.Outside.{Rose}
use Rattle.go_grid.specs.declared.grid.Colour.{Colour}
use Rattle.engine_player.specs.EngineGame.{EngineGame}
use Rattle.engine_player.specs.Opening.{OpensGame}
use Rattle.engine_player.specs.Room.{CanTake, MayHaveMovesLeft}
use Rattle.play_session.specs.declared.session.TheConstants.{MOST_TURNS}
use Rattle.whole_rules.specs.FirstWinningMove.{IsWinner}
use Rattle.play_session.specs.declared.end.SessionEnd.{SessionEnd}
use Rattle.play_session.specs.declared.end.SessionEnd.TheVariants as end
use Rattle.play_session.specs.Session.{IsSession, Waits}
use Rattle.play_session.specs.Written.{IsPlayed, IsUnread, Played, Session, standing}
use Rattle.endgame_questions.specs.declared.status.Status.{Status}
use Rattle.endgame_questions.specs.declared.status.Status.TheVariants.{CannotRead, CannotWrite, Done, Memory, TooManyLines}
use Rattle.endgame_questions.specs.declared.status.Status.TheVariants as status
use Rattle.endgame_run.specs.Game.{IsGameWritten, IsGameOver, IsPlayRun, IsPlayedGame, IsSessionOf, IsSessionStatus, IsStopped, game_beginning, question_of_game}
use Rattle.endgame_questions.specs.File.{TakesAtMost, most_of_game}
use Rattle.endgame_questions.specs.Written.{Finishes}
use Rattle.desk_io.specs.Desk.{Input, Known}
use Rattle.desk_io.specs.Lines.{UsesLines}
use Rattle.endgame_questions.specs.declared.terms.GameTerms.{GameTerms}
use Rattle.endgame_run.specs.declared.question.Opened.{Opened}
use Rattle.endgame_run.specs.declared.question.Opened.TheVariants.{Fault, Game}
use Rattle.endgame_questions.specs.declared.question.Report.{Report}
use Rattle.endgame_questions.specs.Question.{IsAnswer}
use Rattle.endgame_run.specs.inner.Top.{IsOpened}
use Rattle.sgf_go.specs.declared.settings.Settings.{Settings}
use Rattle.go_play.specs.Setup.{Setup}

-- a session that holds nothing begins with the bytes of the source
begins_here : (session : Session) (bytes : List ℕ) → session.held ≡ [] → standing session 0 bytes ≡ game_beginning session.game bytes
begins_here session bytes e = ap (λ held. record { game = session.game; read = 0; left = held ++ bytes }) e

-- a session that ended by itself
session_of : (engine : Colour) (session new : Session) (bytes : List ℕ) (before now left : Option (List ℕ)) (final : SessionEnd) → session.held ≡ []
    → IsPlayed engine (standing session 0 bytes) before now final new left → (text : List ℕ) × IsSessionOf engine session.game bytes final text × (now ≡ append_known before text)
session_of engine session new bytes before now left final e p =
    (p.text, (standing new p.read p.rest, subst (λ a. IsSession engine a p.text (standing new p.read p.rest) final) (begins_here session bytes e) p.played), p.written)

pub over_written : (engine : Colour) (session new : Session) (bytes : List ℕ) (before now left : Option (List ℕ)) (final : SessionEnd) → session.held ≡ [] → IsGameOver final
    → (IsWinner session.game.state engine → final ≢ end.Lost) → IsPlayed engine (standing session 0 bytes) before now final new left → IsGameWritten engine session.game bytes before now Done
over_written engine session new bytes before now left final e over kept p =
    let h = session_of engine session new bytes before now left final e p in (final, h.0, over, kept, h.1, h.2)

played_is : (engine : Colour) (session new : Session) (bytes : List ℕ) (before now left : Option (List ℕ)) (final : SessionEnd) → IsGameOver final
    → Played engine (standing session 0 bytes) before now final new left → IsPlayed engine (standing session 0 bytes) before now final new left
played_is engine session new bytes before now left end.Won over p = p
played_is engine session new bytes before now left end.Lost over p = p
played_is engine session new bytes before now left end.InputEnded over p = p
played_is engine session new bytes before now left end.ReadFault over p = absurd over
played_is engine session new bytes before now left end.WriteFault over p = absurd over
played_is engine session new bytes before now left end.TooManyLines over p = absurd over

pub is_over : (final : SessionEnd) → (final ≡ end.Won) ⊎ ((final ≡ end.Lost) ⊎ (final ≡ end.InputEnded)) → IsGameOver final
is_over final (inl e) = subst IsGameOver (sym e) tt
is_over final (inr (inl e)) = subst IsGameOver (sym e) tt
is_over final (inr (inr e)) = subst IsGameOver (sym e) tt

-- what a source tells is written
pub told_written : (P : List ℕ → Type 0) (left : Option (List ℕ)) → ((bytes : List ℕ) → left ≡ Some bytes → P bytes) → IfSome left P
told_written P None h = tt
told_written P (Some bytes) h = h bytes refl

pub over_run : (engine : Colour) (session new : Session) (left rest : Option (List ℕ)) (reads reads_now writes writes_now : ℕ) (before now : Option (List ℕ)) (final : SessionEnd) → session.held ≡ [] → IsGameOver final
    → (IsWinner session.game.state engine → final ≢ end.Lost) → ((bytes : List ℕ) → left ≡ Some bytes → Played engine (standing session 0 bytes) before now final new rest)
    → IsPlayRun engine session.game left reads reads_now writes writes_now before now Done
over_run engine session new left rest reads reads_now writes writes_now before now final e over kept p = record {
  begun = tt;
  read = λ d. absurd cc;
  write = λ d. absurd cc;
  written = told_written _ left (λ bytes is. over_written engine session new bytes before now rest final e over kept (played_is engine session new bytes before now rest final over (p bytes is)));
}

-- a line behind a text
pub behind : (before : Option (List ℕ)) (text line : List ℕ) → append_known (append_known before text) line ≡ append_known before (text ++ line)
behind None text line = refl
behind (Some b) text line = ap Some (append_assoc b text line)

stopped_whole : (engine : Colour) (s : EngineGame) (bytes : List ℕ) (before now : Option (List ℕ)) (fault : Status) (text line : List ℕ) → IsStopped engine s bytes fault text line
    → now ≡ append_known before (text ++ line) → IsGameWritten engine s bytes before now fault
stopped_whole engine s bytes before now CannotRead text line h e = (text, line, h, e)
stopped_whole engine s bytes before now TooManyLines text line h e = (text, line, h, e)
stopped_whole engine s bytes before now Done text line h e = absurd h
stopped_whole engine s bytes before now CannotWrite text line h e = absurd h
stopped_whole engine s bytes before now Memory text line h e = absurd h
stopped_whole engine s bytes before now status.Usage text line h e = absurd h
stopped_whole engine s bytes before now status.Cycle text line h e = absurd h
stopped_whole engine s bytes before now status.RegionLimit text line h e = absurd h
stopped_whole engine s bytes before now status.FormLimit text line h e = absurd h
stopped_whole engine s bytes before now status.TooLong text line h e = absurd h
stopped_whole engine s bytes before now (status.BadFile f) text line h e = absurd h
stopped_whole engine s bytes before now (status.BadExpression f) text line h e = absurd h
stopped_whole engine s bytes before now status.CalcLimit text line h e = absurd h
stopped_whole engine s bytes before now status.CaptureLimit text line h e = absurd h

pub rose_later : (a b c : ℕ) → a ≤ b → Rose b c → Rose a c
rose_later a b c le rose = omega (arith, le, rose)

-- the line of a fault was written behind the session, or a front part of it
pub stopped_run : (engine : Colour) (s : EngineGame) (left : Option (List ℕ)) (reads reads_now writes writes_mid writes_now : ℕ) (before mid now : Option (List ℕ)) (fault result : Status) (line : List ℕ)
    → IsSessionStatus fault → fault ≢ CannotWrite → (fault ≡ CannotRead → Rose reads reads_now) → writes ≤ writes_mid
    → ((bytes : List ℕ) → left ≡ Some bytes → (text : List ℕ) × IsStopped engine s bytes fault text line × (mid ≡ append_known before text))
    → Finishes fault line writes_mid writes_now mid now result → IsPlayRun engine s left reads reads_now writes writes_now before now result
stopped_run engine s left reads reads_now writes writes_mid writes_now before mid now fault result line begun apart rose later p (inl w) = record {
  begun = subst IsSessionStatus (sym w.0) begun;
  read = λ e. rose (sym w.0 ∙ e);
  write = λ e. absurd (apart (sym w.0 ∙ e));
  written = told_written _ left (λ bytes is. let h = p bytes is in subst (λ r. IsGameWritten engine s bytes before now r) (sym w.0)
      (stopped_whole engine s bytes before now fault h.0 line h.1 (w.1 ∙ ap (λ m. append_known m line) h.2 ∙ behind before h.0 line)));
}
stopped_run engine s left reads reads_now writes writes_mid writes_now before mid now fault result line begun apart rose later p (inr w) = record {
  begun = subst IsSessionStatus (sym w.0) tt;
  read = λ e. absurd (let k : Path Status CannotWrite CannotRead = sym w.0 ∙ e in cc);
  write = λ e. rose_later writes writes_mid writes_now later w.1;
  written = told_written _ left (λ bytes is. let h = p bytes is in subst (λ r. IsGameWritten engine s bytes before now r) (sym w.0)
      (inr (fault, h.0, line, w.2.0, h.1, w.2.1 ∙ ap (λ m. append_known m (take w.2.0 line)) h.2 ∙ behind before h.0 (take w.2.0 line))));
}

pub read_stops : (engine : Colour) (session new : Session) (left rest : Option (List ℕ)) (before mid : Option (List ℕ)) → session.held ≡ []
    → ((bytes : List ℕ) → left ≡ Some bytes → IsUnread engine (standing session 0 bytes) before mid new rest)
    → (bytes : List ℕ) → left ≡ Some bytes → (text : List ℕ) × IsStopped engine session.game bytes CannotRead text (codes "fault cannot read\n") × (mid ≡ append_known before text)
read_stops engine session new left rest before mid e p bytes is =
    let h = p bytes is in
    let b = standing new h.read h.rest in
    (h.text, ((b, subst (λ a. Waits engine a h.text b) (begins_here session bytes e) h.waits), refl), h.written)

pub lines_stop : (engine : Colour) (session new : Session) (left rest : Option (List ℕ)) (before mid : Option (List ℕ)) → session.held ≡ []
    → ((bytes : List ℕ) → left ≡ Some bytes → IsPlayed engine (standing session 0 bytes) before mid end.TooManyLines new rest)
    → (bytes : List ℕ) → left ≡ Some bytes → (text : List ℕ) × IsStopped engine session.game bytes TooManyLines text (codes "fault lines\n") × (mid ≡ append_known before text)
lines_stop engine session new left rest before mid e p bytes is = let h = session_of engine session new bytes before mid rest end.TooManyLines e (p bytes is) in (h.0, (h.1, refl), h.2)

-- what a session took of its source
pub lines_taken : (session : Session) (held : List ℕ) (before now : Option (List ℕ)) → session.held ≡ [] → UsesLines 256 0 10000 session.held before held now → length held ≤ 256 → TakesAtMost most_of_game before now
lines_taken session held before now none used few = λ bytes e.
    let u = used bytes e in
    (u.0 ++ held, u.1, u.2, ap (λ l. l ++ bytes) (sym none) ∙ u.3 ∙ sym (append_assoc u.0 held u.1), omega (arith, u.4, few, length-append u.0 held))

-- a game that was opened, over lines that were not read for it
pub opened_game : (terms : GameTerms) (cycles : Bool) (given : Option Colour) (settings : Settings) (word : List ℕ) (a b : Known) (j : Input) (status : Status) (opened : Opened) (session : Session)
    → opened ≡ Game session → IsOpened terms cycles given settings word a.input j opened
    → IsPlayRun session.engine session.game a.input.left a.input.reads b.input.reads a.writes b.writes a.holds b.holds status → IsPlayedGame terms cycles given settings word a status b
opened_game terms cycles given settings word a b j status opened session e h run =
    let k : IsOpened terms cycles given settings word a.input j (Game session) = subst (IsOpened terms cycles given settings word a.input j) e h in
    (session.engine, session.game, k.0, run)

-- a game that begins has room for all turns of a session
begins_with_room : (cycles : Bool) (terms : GameTerms) (setup : Setup) (p : EngineGame) → OpensGame cycles terms.limits terms.tax setup p → CanTake MOST_TURNS p
begins_with_room false terms setup p (playable, is) = subst (MayHaveMovesLeft MOST_TURNS) (sym is) tt
begins_with_room true terms setup p (keeping, begins, is) = subst (MayHaveMovesLeft MOST_TURNS) (sym is) (omega (arith, begins.5))

pub opened_room : (terms : GameTerms) (cycles : Bool) (given : Option Colour) (settings : Settings) (word : List ℕ) (i j : Input) (opened : Opened) (session : Session)
    → opened ≡ Game session → IsOpened terms cycles given settings word i j opened → CanTake MOST_TURNS session.game
opened_room terms cycles given settings word i j opened session e h =
    let k : IsOpened terms cycles given settings word i j (Game session) = subst (IsOpened terms cycles given settings word i j) e h in
    begins_with_room cycles terms k.0.setup session.game k.0.playable

-- what keeps a game from being begun
pub opened_fault : (terms : GameTerms) (cycles : Bool) (given : Option Colour) (settings : Settings) (word : List ℕ) (i j : Input) (opened : Opened) (report : Report) → opened ≡ Fault report
    → IsOpened terms cycles given settings word i j opened → IsAnswer (question_of_game cycles) terms settings word i j report.status report.text × (report.status ≢ Done)
opened_fault terms cycles given settings word i j opened report e h = subst (IsOpened terms cycles given settings word i j) e h
