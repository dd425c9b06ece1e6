-- A game that the engine wins at its opening, and that an engine keeps what it has won.
use Rattle.std.proofs.Common.{◌≡◌, ◌⊎◌, ◌++◌, ℕ, arith, inl, inr, refl, sym, ap, subst, ◌∙◌, append_assoc, append-nil, take-append-drop, Bool, true, false, List, [], Some, None}
use Rattle.std.specs.Prelude.{Option, IfSome, codes, drop, take}
use Rattle.std.specs.Io.KnownBytes.{append_known}
use Rattle.desk_io.specs.Desk.{Desk, Input, Outside, known}
use Rattle.gd_words.specs.Job.{Job}
use Rattle.gd_words.specs.Task.{Task}
use Rattle.gd_words.specs.Task.Task.{ask, calc, gtp, play, trial}
use Rattle.go_grid.specs.declared.grid.Colour.{Colour}
use Rattle.go_grid.specs.declared.grid.Colour.TheVariants.{Black, White}
use Rattle.go_grid.specs.Chain.{IsSettled}
use Rattle.sgf_go.specs.declared.settings.Settings.{Settings}
use Rattle.go_play.specs.Setup.{Setup}
use Rattle.endgame_questions.specs.declared.terms.GameTerms.{GameTerms}
use Rattle.whole_budgets.specs.EnginePlay.{Serves}
use Rattle.engine_player.specs.Played.{BothServe, Keeping}
use Rattle.engine_player.specs.Opening.{OpensGame}
use Rattle.whole_rules.specs.WholeGame.{Whole}
use Rattle.gtp_engine.proofs.WinLemmas.{win_is_kept as gtp_win_is_kept}
use Rattle.board_session.proofs.CycleLawLemmas.{win_is_kept as cycle_win_is_kept}
use Rattle.board_session.proofs.GeneratedLawLemmas.{win_is_kept as board_win_is_kept}
use Rattle.engine_player.specs.EngineGame.{EngineGame}
use Rattle.whole_rules.specs.FirstWinningMove.{IsWinner}
use Rattle.play_session.specs.declared.end.SessionEnd.{SessionEnd}
use Rattle.play_session.specs.declared.end.SessionEnd.TheVariants as end
use Rattle.play_session.specs.Session.{Standing, Ends, Turns, IsSession}
use Rattle.play_session.proofs.NamedWinnerLaws.{IsUnnamed, calm_unnamed, end_unnamed, next_unnamed, turns_unnamed, whole_unnamed}
use Rattle.play_session.specs.Laws.{IsSoundKeeping}
use Rattle.play_session.proofs.EndLaws.{session_keeps_ko, turns_sound, won_sessions_end}
use Rattle.play_session.proofs.WinLaws.{win_is_kept}
use Rattle.endgame_questions.specs.declared.status.Status.{Status}
use Rattle.endgame_questions.specs.declared.status.Status.TheVariants.{CannotRead, CannotWrite, Done, Memory, TooManyLines}
use Rattle.endgame_questions.specs.declared.status.Status.TheVariants as status
use Rattle.endgame_run.specs.Game.{IsGame, IsGameWritten, IsLastLine, IsSessionStatus, IsStopped, IsWonGame, WinsFromHere, WinsFromThere, game_beginning}
use Rattle.top_laws.specs.KeepsWin.{EngineKeepsWin, KeepsWin}
use Rattle.endgame_run.specs.Run.{RunsTask}

pub map_told : (P Q : List ℕ → Type 0) (left : Option (List ℕ)) → ((bytes : List ℕ) → P bytes → Q bytes) → IfSome left P → IfSome left Q
map_told P Q None f h = tt
map_told P Q (Some bytes) f h = f bytes h

-- from each state of a sound game that the engine wins, it wins
wins_from_here : (engine : Colour) (a : Standing) → IsSoundKeeping a.game.keeping a.game.state → IsWinner a.game.state engine → WinsFromHere engine a
wins_from_here engine a sound wins = record {
  kept = λ n text b turns. win_is_kept engine a b n text wins turns;
  ends = λ n text b turns own. won_sessions_end engine a b n text sound wins turns own;
  ko = λ n text b turns. session_keeps_ko engine a b n text sound wins turns;
}

wins_from_there : (engine : Colour) (s : EngineGame) (bytes : List ℕ) → IsSoundKeeping s.keeping s.state → WinsFromThere engine s bytes
wins_from_there engine s bytes sound n text a turns wins =
    wins_from_here engine a (turns_sound engine n (game_beginning s bytes) a text turns sound) wins

module _ (engine : Colour) (s : EngineGame) (bytes : List ℕ) (before now : Option (List ℕ)) (wins : IsWinner s.state engine)
    (sound : IsSoundKeeping s.keeping s.state) where
  -- turns, and a line behind them
  won : (n : ℕ) (b : Standing) (first last : List ℕ) → Turns engine n (game_beginning s bytes) first b → IsLastLine engine b last → IsUnnamed engine last → now ≡ append_known before (first ++ last) → IsWonGame engine s bytes before now
  won n b first last turns behind unnamed is = record {
    number = n;
    reached = b;
    first = first;
    last = last;
    turns = turns;
    behind = behind;
    wins = wins_from_here engine (game_beginning s bytes) sound wins;
    written = is;
    unnamed = turns_unnamed engine n (game_beginning s bytes) b first last turns unnamed;
  }

  -- a session that 10,000 lines ended, and a text behind it
  won_lines : (b : Standing) (text line : List ℕ) → IsSession engine (game_beginning s bytes) text b end.TooManyLines → IsLastLine engine b line → IsUnnamed engine line → now ≡ append_known before (text ++ line) → IsWonGame engine s bytes before now
  won_lines b text line session behind unnamed is =
      let none : session.last ≡ [] = session.ends.2 in
      won session.number b session.first (session.last ++ line) session.turns (subst (λ l. IsLastLine engine b (l ++ line)) (sym none) behind) (subst (λ l. IsUnnamed engine (l ++ line)) (sym none) unnamed)
      (is ∙ ap (λ t. append_known before (t ++ line)) session.whole ∙ ap (append_known before) (append_assoc session.first session.last line))

  -- a fault's line behind a session, or a front part of it
  won_stopped : (fault : Status) (text line part more : List ℕ) → IsStopped engine s bytes fault text line → (part ++ more) ≡ line → ((whole : List ℕ) → line ≡ whole → (whole ≡ codes "fault cannot read\n") ⊎ (whole ≡ codes "fault lines\n") → IsUnnamed engine part)
      → now ≡ append_known before (text ++ part) → IsWonGame engine s bytes before now
  won_stopped CannotRead text line part more h e unnamed is = won h.0.1.0 h.0.0 text part h.0.1.1 (more, inr (inl (e ∙ h.1))) (unnamed (codes "fault cannot read\n") h.1 (inl refl)) is
  won_stopped TooManyLines text line part more h e unnamed is = won_lines h.0.0 text part h.0.1 (more, inr (inr (e ∙ h.1))) (unnamed (codes "fault lines\n") h.1 (inr refl)) is
  won_stopped Done text line part more h e unnamed is = absurd h
  won_stopped CannotWrite text line part more h e unnamed is = absurd h
  won_stopped Memory text line part more h e unnamed is = absurd h
  won_stopped status.Usage text line part more h e unnamed is = absurd h
  won_stopped status.Cycle text line part more h e unnamed is = absurd h
  won_stopped status.RegionLimit text line part more h e unnamed is = absurd h
  won_stopped status.FormLimit text line part more h e unnamed is = absurd h
  won_stopped status.TooLong text line part more h e unnamed is = absurd h
  won_stopped (status.BadFile f) text line part more h e unnamed is = absurd h
  won_stopped (status.BadExpression f) text line part more h e unnamed is = absurd h
  won_stopped status.CalcLimit text line part more h e unnamed is = absurd h
  won_stopped status.CaptureLimit text line part more h e unnamed is = absurd h

  line_unnamed : (line whole : List ℕ) (n : ℕ) → line ≡ whole → (whole ≡ codes "fault cannot read\n") ⊎ (whole ≡ codes "fault lines\n") → IsUnnamed engine (take n line)
  line_unnamed line whole n e (inl is) = subst (λ l. IsUnnamed engine (take n l)) (sym (e ∙ is)) (calm_unnamed engine (codes "fault cannot read\n") n refl)
  line_unnamed line whole n e (inr is) = subst (λ l. IsUnnamed engine (take n l)) (sym (e ∙ is)) (calm_unnamed engine (codes "fault lines\n") n refl)

  all_unnamed : (line whole : List ℕ) → line ≡ whole → (whole ≡ codes "fault cannot read\n") ⊎ (whole ≡ codes "fault lines\n") → IsUnnamed engine line
  all_unnamed line whole e (inl is) = subst (IsUnnamed engine) (sym (e ∙ is)) (whole_unnamed engine (codes "fault cannot read\n") refl)
  all_unnamed line whole e (inr is) = subst (IsUnnamed engine) (sym (e ∙ is)) (whole_unnamed engine (codes "fault lines\n") refl)

  -- the line of the end
  ended_here : (b : Standing) (last : List ℕ) (final : SessionEnd) → Ends engine b last final → IsLastLine engine b last
  ended_here b last final ends = ([], inl (inr (final, subst (λ t. Ends engine b t final) (sym (append-nil last)) ends)))

  won_game : (result : Status) → IsSessionStatus result → IsGameWritten engine s bytes before now result → IsWonGame engine s bytes before now
  won_game Done begun h =
      let session = h.4.1 in
      won session.number h.4.0 session.first session.last session.turns (ended_here h.4.0 session.last h.0 session.ends) (end_unnamed engine h.4.0 session.last h.0 session.ends (h.3 wins)) (h.5 ∙ ap (append_known before) session.whole)
  won_game CannotRead begun h = won_stopped CannotRead h.0 h.1 h.1 [] h.2 (append-nil h.1) (λ whole e is. all_unnamed h.1 whole e is) h.3
  won_game TooManyLines begun h = won_stopped TooManyLines h.0 h.1 h.1 [] h.2 (append-nil h.1) (λ whole e is. all_unnamed h.1 whole e is) h.3
  won_game CannotWrite begun (inl h) =
      let k = h.1 in
      won k.0 k.1 k.2 k.3 k.5 (k.4, inl k.6) (next_unnamed engine k.1 k.3 k.4 (win_is_kept engine (game_beginning s bytes) k.1 k.0 k.2 wins k.5) k.6) (h.2 ∙ ap (append_known before) k.7)
  won_game CannotWrite begun (inr h) = won_stopped h.0 h.1 h.2 (take h.3 h.2) (drop h.3 h.2) h.4 (take-append-drop h.3 h.2) (λ whole e is. line_unnamed h.2 whole h.3 e is) h.5
  won_game Memory begun h = absurd begun
  won_game status.Usage begun h = absurd begun
  won_game status.Cycle begun h = absurd begun
  won_game status.RegionLimit begun h = absurd begun
  won_game status.FormLimit begun h = absurd begun
  won_game status.TooLong begun h = absurd begun
  won_game (status.BadFile f) begun h = absurd begun
  won_game (status.BadExpression f) begun h = absurd begun
  won_game status.CalcLimit begun h = absurd begun
  won_game status.CaptureLimit begun h = absurd begun

-- a game that begins is sound
nothing_serves : (k : Keeping) (s : Whole) → k.black ≡ None → k.white ≡ None → BothServe (record { state = s; keeping = k })
nothing_serves k s black white Black = subst (Serves k.regions Black s) (sym black) tt
nothing_serves k s black white White = subst (Serves k.regions White s) (sym white) tt

sound_start : (cycles : Bool) (terms : GameTerms) (setup : Setup) (p : EngineGame) → IsSettled setup.board → OpensGame cycles terms.limits terms.tax setup p → IsSoundKeeping p.keeping p.state
sound_start false terms setup p settled (playable, is) = subst (λ k. IsSoundKeeping k p.state) (sym is) tt
sound_start true terms setup p settled (keeping, (opening, cut, steady, black, white, moves), is) = subst (λ k. IsSoundKeeping k p.state) (sym is) (
  (
    setup.board,
    record {
      black_prisoners = setup.black_prisoners;
      white_prisoners = setup.white_prisoners;
      komi = setup.komi_halves;
      side = setup.side;
      tax = terms.tax;
      start = p.state;
      moves = [];
      untouched = p.state.purses;
      settled = settled;
      cut = cut;
      opening = opening;
      plays = refl;
      less = record { purses = λ c. omega arith; token = refl };
    },
  ),
  nothing_serves keeping p.state black white,
)

sound_game : (terms : GameTerms) (cycles : Bool) (given : Option Colour) (settings : Settings) (word : List ℕ) (i : Input) (engine : Colour) (s : EngineGame)
    → IsGame terms cycles given settings word i engine s → IsSoundKeeping s.keeping s.state
sound_game terms cycles given settings word i engine s game = sound_start cycles terms game.setup s game.settled game.playable

-- an engine keeps what it has won, in every run
module _ {H S K : Type 0} (o : Outside H S K) (job : Job) (a b : Desk H S K) (status : Status) where
  keeps : (task : Task) → RunsTask o task job a status b → KeepsWin task job (known o a) status (known o b)
  keeps (play word) r = elim r.outcome [
    | inl u ↦ inl u.0
    | inr g ↦
        let sound = sound_game _ _ _ _ _ _ g.0 g.1 g.2 in
        inr (
          g.0,
          g.1,
          g.2,
          λ wins. map_told _ _ (o.sources.left a.lines) (λ bytes h. won_game g.0 g.1 bytes (o.sinks.holds a.out) (o.sinks.holds b.out) wins sound status g.3.begun h) g.3.written,
          λ bytes. wins_from_there g.0 g.1 bytes sound,
        )
  ]
  keeps gtp r = (gtp_win_is_kept, board_win_is_kept, cycle_win_is_kept)
  keeps (ask question word) r = tt
  keeps (trial number) r = tt
  keeps (calc expression) r = tt

pub engine_keeps_win : {H S K : Type 0} (o : Outside H S K) → EngineKeepsWin o
engine_keeps_win o job a b status r = keeps o job a b status job.task r
