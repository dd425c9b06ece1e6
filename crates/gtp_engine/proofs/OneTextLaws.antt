-- A session has one text: alike tables reply alike.
use Rattle.std.proofs.Common.{Bool, ◌≡◌, ◌≢◌, ◌⊎◌, ◌≤◌, ℕ, ℤ, pos, ◌*◌, List, [], ◌∷◌, length, inl, inr, refl, sym, ap, ap₂, ◌∙◌, subst, arith, Option, Some, None, Ok, false}
use Rattle.std.specs.FinMap.{get}
use Rattle.std.proofs.lemmas.List.{length-replicate}
use Rattle.desk_io.specs.Files.{Files, IsLonger, IsTold, told_entry, told_file}
use Rattle.desk_io.specs.Files.Told.{absent}
use Rattle.go_grid.specs.declared.grid.Cell.TheVariants as cell
use Rattle.go_grid.specs.declared.grid.Colour.{Colour}
use Rattle.sgf_tree.specs.declared.reader.TheConstants.{MOST_BYTES}
use Rattle.sgf_go.specs.File.{Reads}
use Rattle.sgf_go.specs.declared.settings.Settings.{Settings}
use Rattle.go_play.specs.Setup.{Setup}
use Rattle.sgf_go.proofs.OneReadingLemmas.{not_both, one_setup}
use Rattle.whole_rules.specs.declared.states.Move.{Move}
use Rattle.engine_player.specs.EngineGame.{EngineGame}
use Rattle.engine_player.specs.Opening.{OpensGame, OpensNone}
use Rattle.engine_player.proofs.AlikeLaws.{AreAlike, alike_back, alike_board, alike_side, goes_alike, hand_alike, hand_refused, has_move_alike, opened_board, opens_alike, opens_or_not}
use Rattle.engine_player.proofs.EngineGameLaws.{engine_moved}
use Rattle.engine_player.proofs.MoveLaws.{cells_kept}
use Rattle.gtp_words.specs.Files.{GivesNone, GivesSetup, load_settings}
use Rattle.gtp_words.specs.Laws.{ReplyAlike, StandAlike, has_load}
use Rattle.gtp_words.specs.Loads.{Fate}
use Rattle.gtp_words.specs.Loads.Fate.{no_load, made, failed}
use Rattle.gtp_words.specs.Sessions.{beginning}
use Rattle.gtp_words.proofs.OneTextLaws.{have_one_beginning, have_one_text}
use Rattle.gtp_words.proofs.OneWordsLaws.{one_id, one_words}
use Rattle.gtp_words.specs.Words.{cleaned}
use Rattle.gtp_engine.specs.declared.limits.EngineLimits.{EngineLimits}
use Rattle.gtp_engine.specs.declared.moves.Wanted.{Wanted}
use Rattle.gtp_engine.specs.declared.reply.Refusal.TheVariants.{UnacceptableSize, GameHasBegun, CannotSolve, NotInTurn}
use Rattle.gtp_engine.specs.Laws.{HasOneBeginning, HasOneText}
use Rattle.gtp_engine.specs.Moves.{move_for, move_text}
use Rattle.gtp_engine.specs.Request.{Asked, Asks, Order}
use Rattle.gtp_engine.specs.Request.Asked.{something, unknown, misfit}
use Rattle.gtp_engine.specs.Request.Order.{protocol_version, name, version, known_command, list_commands, boardsize, clear_board, komi, play, genmove, loadsgf, quit}
use Rattle.gtp_engine.specs.Session.{AnswersLine, AnswersWords, Does, Generates, LoadsFile, Meets, Obeys, PlaysMove, PlaysWanted, RefusesWith, Said, SaysWhetherKnown, Table, TakesKomi, TakesSize, TakesTurn, done, first_table, fresh, is_last, refused, reply_text, with_side}
use Rattle.gtp_engine.proofs.OneRequestLaws.{one_asked}
use Rattle.sgf_go.proofs.BoardSizeLemmas.{IsSmall, few_cells, small_setup}

-- games that run differ in their lists of contested points alone
abbrev AlikeGames : Option EngineGame → Option EngineGame → Type 0
AlikeGames None None = Unit {0}
AlikeGames (Some p) (Some q) = AreAlike p q × (length p.state.board.cells ≤ 625)
AlikeGames _ _ = ⊥

-- tables have one setup, of at most 25 columns and rows, and alike games
record AlikeTables (t u : Table) : Type 0 where
  setup : t.setup ≡ u.setup
  small : IsSmall t.setup.board
  games : AlikeGames t.game u.game

-- what two things said, and the tables after them, have to be
abbrev SaysAlike : Said → Said → Table → Table → Type 0
SaysAlike x y v w = (x ≡ y) × AlikeTables v w

-- nothing changes
stays : (t u v w : Table) (x y said : Said) → AlikeTables t u → x ≡ said → v ≡ t → y ≡ said → w ≡ u → SaysAlike x y v w
stays t u v w x y said like e is f also = (e ∙ sym f, subst (λ z. AlikeTables z w) (sym is) (subst (AlikeTables t) (sym also) like))

-- an act makes of alike games what is said alike, and alike games
abbrev ActsAlike : (EngineGame → Said → EngineGame → Type 0) → Type 0
ActsAlike Act = (p q r u : EngineGame) (x y : Said) → AlikeGames (Some p) (Some q) → Act p x r → Act q y u → (x ≡ y) × AlikeGames (Some r) (Some u)

same_games : (p q r u : EngineGame) → AlikeGames (Some p) (Some q) → r ≡ p → u ≡ q → AlikeGames (Some r) (Some u)
same_games p q r u like e f = subst (λ z. AlikeGames (Some z) (Some u)) (sym e) (subst (λ z. AlikeGames (Some p) (Some z)) (sym f) like)

move_plays_alike : (m : Option Move) → ActsAlike (PlaysMove m)
move_plays_alike None p q r u x y like (e, is) (f, also) = (e ∙ sym f, same_games p q r u like is also)
move_plays_alike (Some m) p q r u x y (like, few) (inl (goes, e)) (inl (also, f)) =
    (e ∙ sym f, (hand_alike p q r u m like goes also, omega (arith, few, cells_kept p.state r.state m goes.0)))
move_plays_alike (Some m) p q r u x y (like, few) (inl (goes, e)) (inr (why, also, f)) = absurd (hand_refused p q r u m why like goes also)
move_plays_alike (Some m) p q r u x y (like, few) (inr (why, goes, e)) (inl (also, f)) = absurd (hand_refused q p u r m why (alike_back p q like) also goes)
move_plays_alike (Some m) p q r u x y like (inr (why, goes, e)) (inr (too, also, f)) = (e ∙ sym f, same_games p q r u like goes.0 also.0)

plays_alike : (wanted : Wanted) → ActsAlike (PlaysWanted wanted)
plays_alike wanted p q r u x y like a b =
    move_plays_alike (move_for q.state.board.columns q.state.board.rows wanted) p q r u x y like
    (subst (λ g. PlaysMove (move_for g.columns g.rows wanted) p x r) (alike_board p q like.0) a) b

generates_alike : ActsAlike Generates
generates_alike p q r u x y (like, few) (inl (m, goes, e)) (inl (k, also, f)) =
    let (same, after) = goes_alike p q r u m k few like goes also in (
      e ∙ ap₂ (λ g l. done (move_text g.columns g.rows l)) (alike_board p q like) same ∙ sym f,
      (after, omega (arith, few, cells_kept p.state r.state m (engine_moved p r m goes))),
    )
generates_alike p q r u x y (like, few) (inl (m, goes, e)) (inr (none, f, also)) = absurd (none (has_move_alike p q like (m, (r.state, engine_moved p r m goes))))
generates_alike p q r u x y (like, few) (inr (none, e, is)) (inl (k, also, f)) =
    absurd (none (has_move_alike q p (alike_back p q like) (k, (u.state, engine_moved q u k also))))
generates_alike p q r u x y like (inr (none, e, is)) (inr (nor, f, also)) = (e ∙ sym f, same_games p q r u like is also)

-- a turn begins a game, or can't, where none runs
module _ (limits : EngineLimits) (c : Colour) (Act : EngineGame → Said → EngineGame → Type 0) (acts : ActsAlike Act) (setup : Setup) (small : IsSmall setup.board) where
  abbrev at : Option EngineGame → Table
  at g = record { setup = setup; game = g }

  abbrev Begins : Said → Table → Type 0
  Begins x v = (p q : EngineGame) × OpensGame limits.cycles limits.game false (with_side setup c) p × Act p x q × (v ≡ record { setup = with_side setup c; game = Some q })

  abbrev Cannot : Said → Table → Type 0
  Cannot x v = OpensNone limits.cycles limits.game (with_side setup c) × RefusesWith CannotSolve (at None) x v

  -- or goes on with the one that runs, or is out of turn
  abbrev GoesOn : EngineGame → Said → Table → Type 0
  GoesOn p x v = (q : EngineGame) × (p.state.side ≡ c) × Act p x q × (v ≡ record { setup = setup; game = Some q })

  abbrev Waits : EngineGame → Said → Table → Type 0
  Waits p x v = (p.state.side ≢ c) × RefusesWith NotInTurn (at (Some p)) x v

  none_runs : (x : Said) (v : Table) → TakesTurn limits c Act (at None) x v → Begins x v ⊎ Cannot x v
  none_runs x v (inl (e, (p, q, opens, act, is))) = inl (p, q, opens, act, is)
  none_runs x v (inr (inl (e, none, said))) = inr (none, said)
  none_runs x v (inr (inr (inl (p, q, e, side, act, is)))) = absurd cc
  none_runs x v (inr (inr (inr (p, e, side, said)))) = absurd cc

  some_runs : (p : EngineGame) (x : Said) (v : Table) → TakesTurn limits c Act (at (Some p)) x v → GoesOn p x v ⊎ Waits p x v
  some_runs p x v (inl (e, more)) = absurd cc
  some_runs p x v (inr (inl (e, none, said))) = absurd cc
  some_runs p x v (inr (inr (inl (r, q, e, side, act, is)))) =
      let same : p ≡ r = cc in inl (q, subst (λ z. z.state.side ≡ c) (sym same) side, subst (λ z. Act z x q) (sym same) act, is)
  some_runs p x v (inr (inr (inr (r, e, side, said)))) = let same : p ≡ r = cc in inr (subst (λ z. z.state.side ≢ c) (sym same) side, said)

  begun : (q r : EngineGame) (v w : Table) → AlikeGames (Some q) (Some r) → v ≡ record { setup = with_side setup c; game = Some q } → w ≡ record { setup = with_side setup c; game = Some r } → AlikeTables v w
  begun q r v w games is also = subst (λ z. AlikeTables z w) (sym is) (subst (AlikeTables _) (sym also) (record {
    setup = refl;
    small = record { columns = small.columns; rows = small.rows; long = small.long };
    games = games;
  }))

  both_begin : (x y : Said) (v w : Table) → Begins x v ⊎ Cannot x v → Begins y w ⊎ Cannot y w → SaysAlike x y v w
  both_begin x y v w (inl (p, r, opens, act, is)) (inl (q, u, also, too, are)) =
      let like = opens_alike limits.cycles limits.game false (with_side setup c) p q opens also in
      let board = opened_board limits.cycles limits.game false (with_side setup c) p opens in
      let (said, games) = acts p q r u x y (like, subst (λ g. length g.cells ≤ 625) (sym board) (few_cells setup.board small)) act too in
      (said, begun r u v w games is are)
  both_begin x y v w (inl (p, r, opens, act, is)) (inr (none, said)) = absurd (opens_or_not limits.cycles limits.game false (with_side setup c) p opens none)
  both_begin x y v w (inr (none, said)) (inl (p, r, opens, act, is)) = absurd (opens_or_not limits.cycles limits.game false (with_side setup c) p opens none)
  both_begin x y v w (inr (none, (e, is))) (inr (nor, (f, also))) = stays (at None) (at None) v w x y (refused CannotSolve) (record { setup = refl; small = small; games = tt }) e is f also

  both_go_on : (p q : EngineGame) (x y : Said) (v w : Table) → AlikeGames (Some p) (Some q) → GoesOn p x v ⊎ Waits p x v → GoesOn q y w ⊎ Waits q y w → SaysAlike x y v w
  both_go_on p q x y v w like (inl (r, side, act, is)) (inl (u, also, too, are)) =
      let (said, games) = acts p q r u x y like act too in
      (said, subst (λ z. AlikeTables z w) (sym is) (subst (AlikeTables _) (sym are) (record { setup = refl; small = small; games = games })))
  both_go_on p q x y v w like (inl (r, side, act, is)) (inr (other, said)) = absurd (other (sym (alike_side p q like.0) ∙ side))
  both_go_on p q x y v w like (inr (other, said)) (inl (r, side, act, is)) = absurd (other (alike_side p q like.0 ∙ side))
  both_go_on p q x y v w like (inr (other, (e, is))) (inr (too, (f, also))) =
      stays (at (Some p)) (at (Some q)) v w x y (refused NotInTurn) (record { setup = refl; small = small; games = like }) e is f also

  turn_alike : (g h : Option EngineGame) (x y : Said) (v w : Table) → AlikeGames g h → TakesTurn limits c Act (at g) x v → TakesTurn limits c Act (at h) y w → SaysAlike x y v w
  turn_alike None None x y v w like a b = both_begin x y v w (none_runs x v a) (none_runs y w b)
  turn_alike None (Some q) x y v w like a b = absurd like
  turn_alike (Some p) None x y v w like a b = absurd like
  turn_alike (Some p) (Some q) x y v w like a b = both_go_on p q x y v w like (some_runs p x v a) (some_runs q y w b)

small_fresh : (columns rows : ℕ) (k : ℤ) → columns ≤ 25 → rows ≤ 25 → AlikeTables (fresh columns rows k) (fresh columns rows k)
small_fresh columns rows k wide high = record {
  setup = refl;
  small = record { columns = wide; rows = high; long = length-replicate (columns * rows) cell.Empty };
  games = tt;
}

one_known : (word text also : List ℕ) → SaysWhetherKnown word text → SaysWhetherKnown word also → text ≡ also
one_known word text also (inl (c, e)) (inl (d, f)) = e ∙ sym f
one_known word text also (inl ((c, is), e)) (inr (none, f)) = absurd (none c is)
one_known word text also (inr (none, e)) (inl ((c, is), f)) = absurd (none c is)
one_known word text also (inr (none, e)) (inr (nor, f)) = e ∙ sym f

-- what orders do of two tables that have one setup
module _ (limits : EngineLimits) (setup : Setup) (small : IsSmall setup.board) (g h : Option EngineGame) (like : AlikeGames g h) (v w : Table) where
  abbrev table : Option EngineGame → Table
  table g = record { setup = setup; game = g }

  stay : (x y said : Said) → x ≡ said → v ≡ table g → y ≡ said → w ≡ table h → SaysAlike x y v w
  stay x y said e is f also = stays (table g) (table h) v w x y said (record { setup = refl; small = small; games = like }) e is f also

  size_alike : (n : ℕ) (x y : Said) → TakesSize n (table g) x v → TakesSize n (table h) y w → SaysAlike x y v w
  size_alike n x y (inl (some, few, e, is)) (inl (also, too, f, are)) =
      stays _ _ v w x y (done []) (small_fresh n n setup.komi_halves few few) e is f are
  size_alike n x y (inl (some, few, e, is)) (inr (inl low, said)) = absurd (omega (arith, some, low))
  size_alike n x y (inl (some, few, e, is)) (inr (inr high, said)) = absurd (omega (arith, few, high))
  size_alike n x y (inr (inl low, said)) (inl (some, few, e, is)) = absurd (omega (arith, some, low))
  size_alike n x y (inr (inr high, said)) (inl (some, few, e, is)) = absurd (omega (arith, few, high))
  size_alike n x y (inr (out, (e, is))) (inr (too, (f, also))) = stay x y (refused UnacceptableSize) e is f also

  none_or_some : (p : EngineGame) → g ≡ None → h ≡ Some p → ⊥
  none_or_some p e f = subst (λ z. AlikeGames z (Some p)) e (subst (AlikeGames g) f like)

  some_or_none : (p : EngineGame) → g ≡ Some p → h ≡ None → ⊥
  some_or_none p e f = subst (λ z. AlikeGames z None) e (subst (AlikeGames g) f like)

  komi_alike : (k : ℤ) (x y : Said) → TakesKomi k (table g) x v → TakesKomi k (table h) y w → SaysAlike x y v w
  komi_alike k x y (inl (none, e, is)) (inl (nor, f, also)) = stays _ _ v w x y (done []) (record {
    setup = refl;
    small = record { columns = small.columns; rows = small.rows; long = small.long };
    games = tt;
  }) e is f also
  komi_alike k x y (inl (none, e, is)) (inr ((p, runs), said)) = absurd (none_or_some p none runs)
  komi_alike k x y (inr ((p, runs), said)) (inl (none, e, is)) = absurd (some_or_none p runs none)
  komi_alike k x y (inr (runs, (e, is))) (inr (too, (f, also))) = stay x y (refused GameHasBegun) e is f also

  does_alike : (order : Order) (x y : Said) → Does limits order (table g) x v → Does limits order (table h) y w → SaysAlike x y v w
  does_alike protocol_version x y (e, is) (f, also) = stay x y _ e is f also
  does_alike name x y (e, is) (f, also) = stay x y _ e is f also
  does_alike version x y (e, is) (f, also) = stay x y _ e is f also
  does_alike (known_command word) x y (text, known, (e, is)) (other, too, (f, also)) =
      stay x y (done text) e is (f ∙ ap done (sym (one_known word text other known too))) also
  does_alike list_commands x y (e, is) (f, also) = stay x y _ e is f also
  does_alike (boardsize n) x y a b = size_alike n x y a b
  does_alike clear_board x y (e, is) (f, also) =
      stays _ _ v w x y (done []) (small_fresh setup.board.columns setup.board.rows setup.komi_halves small.columns small.rows) e is f also
  does_alike (komi k) x y a b = komi_alike k x y a b
  does_alike (play c wanted) x y a b = turn_alike limits c (PlaysWanted wanted) (plays_alike wanted) setup small g h x y v w like a b
  does_alike (genmove c) x y a b = turn_alike limits c Generates generates_alike setup small g h x y v w like a b
  does_alike (loadsgf file after) x y a b = absurd a
  does_alike quit x y (e, is) (f, also) = stay x y _ e is f also

  module _ (files : Files) (settings : Settings) (word : List ℕ) where
    one_told : (o : Option (List ℕ)) (a b : List ℕ) → IsTold (told_entry o) a → IsTold (told_entry o) b → a ≡ b
    one_told None a b e f = absurd e
    one_told (Some bytes) a b e f = sym e ∙ f

    not_longer : (o : Option (List ℕ)) (a : List ℕ) → IsTold (told_entry o) a → length a ≤ MOST_BYTES → IsLonger MOST_BYTES (told_entry o) → ⊥
    not_longer None a e few long = e
    not_longer (Some bytes) a e few long = omega (arith, few, long, ap length e)

    not_absent : (o : Option (List ℕ)) (a : List ℕ) → IsTold (told_entry o) a → told_entry o ≡ absent → ⊥
    not_absent None a e none = e
    not_absent (Some bytes) a e none = cc

    given_or_none : (setup : Setup) → GivesSetup (told_file (Some files) word) settings setup → GivesNone (told_file (Some files) word) settings → ⊥
    given_or_none p (file, told, few, reads) (inl none) = not_absent (get files word) file told none
    given_or_none p (file, told, few, reads) (inr (inl long)) = not_longer (get files word) file told few long
    given_or_none p (file, told, few, reads) (inr (inr (other, fault, also, too, fails))) =
        not_both other settings p fault (subst (λ f. Reads f settings (Ok p)) (one_told (get files word) file other told also) reads) fails

    load_alike : (fate : Fate) (x y : Said) → LoadsFile settings (Some files) word fate (table g) x v → LoadsFile settings (Some files) word fate (table h) y w → SaysAlike x y v w
    load_alike no_load x y (none, (e, is)) (nor, (f, also)) = stay x y _ e is f also
    load_alike made x y (text, inl (p, (file, told, few, reads), e, is)) (too, inl (q, (other, known, short, gives), f, also)) =
        let same = one_setup other settings p q (subst (λ z. Reads z settings (Ok p)) (one_told (get files word) file other told known) reads) gives in
        stays _ _ v w x y (done []) (record { setup = refl; small = small_setup other settings q gives; games = tt })
        e (is ∙ ap (λ z. record { setup = z; game = None }) same) f also
    load_alike made x y (text, inl (p, gives, e, is)) (too, inr (none, said)) = absurd (given_or_none p gives none)
    load_alike made x y (text, inr (none, said)) (too, inl (p, gives, e, is)) = absurd (given_or_none p gives none)
    load_alike made x y (text, inr (none, (e, is))) (too, inr (nor, (f, also))) = stay x y _ e is f also
    load_alike failed x y (text, (e, is)) (too, (f, also)) = stay x y _ e is f also

    one_load : (fate other : Fate) (x y : Said) → LoadsFile settings (Some files) word fate (table g) x v → LoadsFile settings (Some files) word other (table h) y w → has_load fate ≡ has_load other
    one_load no_load no_load x y a b = refl
    one_load no_load made x y a b = absurd (a.0 b.0)
    one_load no_load failed x y a b = absurd (a.0 b.0)
    one_load made no_load x y a b = absurd (b.0 a.0)
    one_load failed no_load x y a b = absurd (b.0 a.0)
    one_load made made x y a b = refl
    one_load made failed x y a b = refl
    one_load failed made x y a b = refl
    one_load failed failed x y a b = refl

  -- what is asked for, in files that are told
  module _ (files : Files) where
    obeys_alike : (order : Order) (fate : Fate) (x y : Said) → Obeys limits (Some files) order fate (table g) x v → Obeys limits (Some files) order fate (table h) y w → SaysAlike x y v w
    obeys_alike (loadsgf file after) fate x y a b = load_alike files (load_settings limits.territory after) file fate x y a b
    obeys_alike protocol_version fate x y a b = does_alike protocol_version x y a.1 b.1
    obeys_alike name fate x y a b = does_alike name x y a.1 b.1
    obeys_alike version fate x y a b = does_alike version x y a.1 b.1
    obeys_alike (known_command word) fate x y a b = does_alike (known_command word) x y a.1 b.1
    obeys_alike list_commands fate x y a b = does_alike list_commands x y a.1 b.1
    obeys_alike (boardsize n) fate x y a b = does_alike (boardsize n) x y a.1 b.1
    obeys_alike clear_board fate x y a b = does_alike clear_board x y a.1 b.1
    obeys_alike (komi k) fate x y a b = does_alike (komi k) x y a.1 b.1
    obeys_alike (play c wanted) fate x y a b = does_alike (play c wanted) x y a.1 b.1
    obeys_alike (genmove c) fate x y a b = does_alike (genmove c) x y a.1 b.1
    obeys_alike quit fate x y a b = does_alike quit x y a.1 b.1

    one_order_load : (order : Order) (fate other : Fate) (x y : Said) → Obeys limits (Some files) order fate (table g) x v → Obeys limits (Some files) order other (table h) y w → has_load fate ≡ has_load other
    one_order_load (loadsgf file after) fate other x y a b = one_load files (load_settings limits.territory after) file fate other x y a b
    one_order_load protocol_version fate other x y a b = ap has_load (a.0 ∙ sym b.0)
    one_order_load name fate other x y a b = ap has_load (a.0 ∙ sym b.0)
    one_order_load version fate other x y a b = ap has_load (a.0 ∙ sym b.0)
    one_order_load (known_command word) fate other x y a b = ap has_load (a.0 ∙ sym b.0)
    one_order_load list_commands fate other x y a b = ap has_load (a.0 ∙ sym b.0)
    one_order_load (boardsize n) fate other x y a b = ap has_load (a.0 ∙ sym b.0)
    one_order_load clear_board fate other x y a b = ap has_load (a.0 ∙ sym b.0)
    one_order_load (komi k) fate other x y a b = ap has_load (a.0 ∙ sym b.0)
    one_order_load (play c wanted) fate other x y a b = ap has_load (a.0 ∙ sym b.0)
    one_order_load (genmove c) fate other x y a b = ap has_load (a.0 ∙ sym b.0)
    one_order_load quit fate other x y a b = ap has_load (a.0 ∙ sym b.0)

    meets_alike : (asked : Asked) (fate : Fate) (x y : Said) → Meets limits (Some files) asked fate (table g) x v → Meets limits (Some files) asked fate (table h) y w → SaysAlike x y v w
    meets_alike (something order) fate x y a b = obeys_alike order fate x y a b
    meets_alike unknown fate x y (none, (e, is)) (nor, (f, also)) = stay x y _ e is f also
    meets_alike misfit fate x y (none, (e, is)) (nor, (f, also)) = stay x y _ e is f also

    one_asked_load : (asked : Asked) (fate other : Fate) (x y : Said) → Meets limits (Some files) asked fate (table g) x v → Meets limits (Some files) asked other (table h) y w → has_load fate ≡ has_load other
    one_asked_load (something order) fate other x y a b = one_order_load order fate other x y a b
    one_asked_load unknown fate other x y a b = ap has_load (a.0 ∙ sym b.0)
    one_asked_load misfit fate other x y a b = ap has_load (a.0 ∙ sym b.0)

    words_alike : (words : List (List ℕ)) (fate : Fate) (s t : List ℕ) (last final : Bool) → AnswersWords limits (Some files) words fate (table g) s v last
        → AnswersWords limits (Some files) words fate (table h) t w final → (s ≡ t) × AlikeTables v w × (last ≡ final)
    words_alike [] fate s t last final (a, e, is, end) (b, f, also, too) =
        (e ∙ sym f, subst (λ z. AlikeTables z w) (sym is) (subst (AlikeTables (table g)) (sym also) (record { setup = refl; small = small; games = like })), end ∙ sym too)
    words_alike (word ∷ words) fate s t last final (id, rest, asked, said, head, asks, meets, e, end) (other, left, wanted, told, too, wants, also, f, ends) =
        let (ids, rests) = one_id (word ∷ words) id other rest left head too in
        let same = one_asked left asked wanted (subst (λ r. Asks r asked) rests asks) wants in
        let (answer, tables) = meets_alike wanted fate said told (subst (λ z. Meets limits (Some files) z fate (table g) said v) same meets) also in
        (e ∙ ap₂ reply_text ids answer ∙ sym f, tables, end ∙ ap is_last same ∙ sym ends)

    one_words_load : (words : List (List ℕ)) (fate other : Fate) (s t : List ℕ) (last final : Bool) → AnswersWords limits (Some files) words fate (table g) s v last
        → AnswersWords limits (Some files) words other (table h) t w final → has_load fate ≡ has_load other
    one_words_load [] fate other s t last final a b = ap has_load (a.0 ∙ sym b.0)
    one_words_load (word ∷ words) fate other s t last final (id, rest, asked, said, head, asks, meets, e, end) (second, left, wanted, told, too, wants, also, f, ends) =
        let (ids, rests) = one_id (word ∷ words) id second rest left head too in
        let same = one_asked left asked wanted (subst (λ r. Asks r asked) rests asks) wants in
        one_asked_load wanted fate other said told (subst (λ z. Meets limits (Some files) z fate (table g) said v) same meets) also

-- tables of one setup
module _ (limits : EngineLimits) (files : Files) where
  with_setup : (t u : Table) (P : Table → Type 0) → t.setup ≡ u.setup → P u → P (record { setup = t.setup; game = u.game })
  with_setup t u P same p = subst (λ z. P (record { setup = z; game = u.game })) (sym same) p

  reply_alike : ReplyAlike Table (AnswersLine limits (Some files)) AlikeTables
  reply_alike = record {
    loads = λ line fate other a b c d s t last final like (words, are, x) (others, too, y).
        let same = one_words (cleaned line) others words too are in
        one_words_load limits a.setup like.small a.game b.game like.games c d files words fate other s t last final x
        (with_setup a b (λ z. AnswersWords limits (Some files) words other z t d final) like.setup (subst (λ l. AnswersWords limits (Some files) l other b t d final) same y));
    replies = λ line fate a b c d s t last final like (words, are, x) (others, too, y).
        let same = one_words (cleaned line) others words too are in
        words_alike limits a.setup like.small a.game b.game like.games c d files words fate s t last final x
        (with_setup a b (λ z. AnswersWords limits (Some files) words fate z t d final) like.setup (subst (λ l. AnswersWords limits (Some files) l fate b t d final) same y));
  }

start_alike : (bytes : List ℕ) → StandAlike Table AlikeTables (beginning first_table bytes) (beginning first_table bytes)
start_alike bytes = record { state = small_fresh 19 19 (pos 0) (omega arith) (omega arith); loads = refl; read = refl; left = refl }

pub has_one_text : HasOneText
has_one_text limits files failing bytes a b s t end final x y =
    let (text, stand, same) = have_one_text Table (AnswersLine limits (Some files)) AlikeTables (reply_alike limits files) failing _ _ a b s t end final (start_alike bytes) x y in
    (text, stand.left, same)

pub has_one_beginning : HasOneBeginning
has_one_beginning limits files failing bytes a b s t end x y =
    have_one_beginning Table (AnswersLine limits (Some files)) AlikeTables (reply_alike limits files) failing _ _ a b s t end (start_alike bytes) x y
