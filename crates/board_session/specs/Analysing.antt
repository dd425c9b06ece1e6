-- What analyses of a position tell: texts on the game that it opens, its score, and the stones of a status.
use Rattle.std.specs.Prelude.{◌≡◌, ◌⊎◌, ◌+◌, ◌++◌, ◌∷◌, ℕ, zero, suc, ℤ, pos, negsuc, Bool, true, false, List, [], codes, Option, Some, None}
use Rattle.board_words.specs.Komi.{komi_word}
use Rattle.fault_words.specs.declared.naming.Naming.TheVariants.{Gtp}
use Rattle.go_grid.specs.Board.{Board, IsEmpty}
use Rattle.go_grid.specs.Chain.{IsFirstUnsettled, IsSettled}
use Rattle.go_grid.specs.Marks.{Lists}
use Rattle.go_grid.specs.Region.{Region}
use Rattle.go_grid.specs.declared.grid.Colour.{Colour}
use Rattle.benson_life.specs.Life.{IsAlive, IsCounted}
use Rattle.gtp_words.specs.Vertices.{vertex_text}
use Rattle.go_play.specs.Setup.{Setup}
use Rattle.whole_rules.specs.WholeGame.{Whole}
use Rattle.endgame_solver.specs.Limits.{Limits}
use Rattle.endgame_solver.specs.Solved.{IsPlayable}
use Rattle.report.specs.declared.score.Score.{Score}
use Rattle.report.specs.declared.score.Score.TheVariants as points
use Rattle.report.specs.Analysis.{IsLineText, IsMarginText, IsMovesText, name_on}
use Rattle.cycle_report.specs.CycleAnalysis.{IsCycleMarginText, IsCycleMovesText}
use Rattle.report.specs.Score.{IsScore}
use Rattle.report.specs.TopStones.{IsTopText}
use Rattle.board_orders.specs.declared.position.Position.{Position}
use Rattle.board_orders.specs.declared.topic.Analysis.{Analysis}
use Rattle.board_orders.specs.declared.topic.Analysis.TheVariants.{Game, Stones}
use Rattle.board_session.specs.declared.topic.CycleTopic.{CycleTopic}
use Rattle.board_session.specs.declared.topic.CycleTopic.TheVariants as cycles
use Rattle.board_orders.specs.declared.topic.Status.{Status}
use Rattle.board_orders.specs.declared.topic.Status.TheVariants as status
use Rattle.board_orders.specs.declared.topic.Topic.{Topic}
use Rattle.board_orders.specs.declared.topic.Topic.TheVariants as topic
use Rattle.board_session.specs.Cycles.{IsSteadyOpening, OpensNoneWithCycles}
use Rattle.board_session.specs.Generating.{OpensNone, unsettled_words}
use Rattle.board_orders.specs.States.{BoardState, present}
use Rattle.board_orders.specs.Tallies.{Tally}
use Rattle.board_orders.specs.Texts.{vertices_text}

-- what an analysis finds: a text, or in words why the position opens no game, or why it has no score
pub data Finding : Type 0 where
  found : List ℕ → Finding
  gameless : List ℕ → Finding
  scoreless : List ℕ → Finding

-- The position with the komi and the colour to move, in which each pass has handed the other colour a prisoner.
abbrev pub counted_setup : Position → ℤ → Colour → Setup
counted_setup a halves c = record {
  board = a.board;
  black_prisoners = a.prisoners.black + a.passes.white;
  white_prisoners = a.prisoners.white + a.passes.black;
  komi_halves = halves;
  side = c;
}

-- no passes
abbrev pub no_passes : Tally
no_passes = record { black = 0; white = 0 }

-- a blank or a line feed
abbrev pub IsSpace : ℕ → Type 0
IsSpace byte = (byte ≡ 32) ⊎ (byte ≡ 10)

-- what is shown of a text: all of it, but for a blank or a line feed at its end
abbrev pub IsShown : List ℕ → List ℕ → Type 0
IsShown text shown = ((end : ℕ) × IsSpace end × (text ≡ shown ++ end ∷ []))
    ⊎ (((front : List ℕ) (end : ℕ) → text ≡ front ++ end ∷ [] → ¬ IsSpace end) × (shown ≡ text))

-- a text of this kind is found
abbrev pub FindsText : (List ℕ → Type 0) → Finding → Type 0
FindsText IsText finding = (text : List ℕ) × (shown : List ℕ) × IsText text × IsShown text shown × (finding ≡ found shown)

-- the text of a score, in half-points to Black's good: who is ahead, and by how many points
abbrev pub score_text : ℤ → List ℕ
score_text (pos zero) = codes "0"
score_text (pos (suc n)) = codes "B+" ++ komi_word (pos (suc n))
score_text (negsuc n) = codes "W+" ++ komi_word (pos (suc n))

-- what is found of a score, on a board of the size
abbrev pub score_finding : ℕ → ℕ → Score → Finding
score_finding columns rows (points.Halves n) = found (score_text n)
score_finding columns rows (points.Stone p) = scoreless (codes "play left at " ++ vertex_text columns rows p)
score_finding columns rows points.Fraction = scoreless (codes "less than a half-point left")

-- what is found on the topic of a state that opens with this komi, and whose regions of play these are
abbrev pub FindsOn : Topic → List Region → Whole → ℤ → Finding → Type 0
FindsOn topic.Best regions w k finding = FindsText (IsTopText (name_on Gtp w.board) w k) finding
FindsOn topic.Margin regions w k finding = FindsText (IsMarginText w k) finding
FindsOn topic.Moves regions w k finding = FindsText (IsMovesText (name_on Gtp w.board) w k) finding
FindsOn topic.Line regions w k finding = FindsText (IsLineText (name_on Gtp w.board) regions w k) finding
FindsOn topic.Score regions w k finding =
    (score : Score) × IsScore regions w k score × (finding ≡ score_finding w.board.columns w.board.rows score)

-- what is found where the position opens no game
abbrev pub none_found : Topic → List ℕ → Finding
none_found topic.Score words = scoreless words
none_found topic words = gameless words

-- what is found on the topic of the game that the position opens, or why it opens none
abbrev pub FindsIn : Limits → Topic → Setup → Finding → Type 0
FindsIn limits topic setup finding = (IsSettled setup.board
    × ((w : Whole) × (playable : IsPlayable limits false setup w) × FindsOn topic playable.regions w setup.komi_halves finding))
    ⊎ ((words : List ℕ) × OpensNone limits setup no_passes words × (finding ≡ none_found topic words))

-- what is found on the topic of a state that opens with this komi, and in which kos can arise
abbrev pub FindsOnWithCycles : CycleTopic → Whole → ℤ → Finding → Type 0
FindsOnWithCycles cycles.Margin w k finding = FindsText (IsCycleMarginText w k) finding
FindsOnWithCycles cycles.Moves w k finding = FindsText (IsCycleMovesText (name_on Gtp w.board) w k) finding

-- what is found on the topic of the game with cycles that the position opens, or why it opens none
abbrev pub FindsInWithCycles : Limits → CycleTopic → Setup → Finding → Type 0
FindsInWithCycles limits topic setup finding = (IsSettled setup.board
    × ((w : Whole) × IsSteadyOpening limits setup w × FindsOnWithCycles topic w setup.komi_halves finding))
    ⊎ ((words : List ℕ) × OpensNoneWithCycles limits setup no_passes words × (finding ≡ gameless words))

-- the topic that a game with cycles tells, where they are admitted
abbrev pub cycle_topic : Bool → Topic → Option CycleTopic
cycle_topic false topic = None
cycle_topic true topic.Margin = Some cycles.Margin
cycle_topic true topic.Moves = Some cycles.Moves
cycle_topic true topic = None

-- what is found on the topic, by a game with cycles where such a game tells it
abbrev pub FindsBy : Option CycleTopic → Limits → Topic → Setup → Finding → Type 0
FindsBy None limits topic setup finding = FindsIn limits topic setup finding
FindsBy (Some told) limits topic setup finding = FindsInWithCycles limits told setup finding

-- the stone at the point has the status: it lives without answers, or stands on a point that is counted, or is in seki, as none is
abbrev pub HasStatus : Status → Board → ℕ → Type 0
HasStatus status.Alive g p = (c : Colour) × IsAlive g c p
HasStatus status.Dead g p = ((c : Colour) × IsCounted g c p) × ¬ IsEmpty g p
HasStatus status.Seki g p = ⊥

-- the stones of the status, lowest first, or the first point that isn't settled
abbrev pub FindsStones : Status → Board → Finding → Type 0
FindsStones x g finding =
    (IsSettled g × ((points : List ℕ) × Lists points (HasStatus x g) × (finding ≡ found (vertices_text g.columns g.rows points))))
    ⊎ ((p : ℕ) × IsFirstUnsettled g p × (finding ≡ scoreless (unsettled_words g p)))

-- what the analysis finds in the state, with cycles admitted or without
abbrev pub Finds : Bool → Limits → Analysis → BoardState → Finding → Type 0
Finds cycles limits (Game topic c) s finding = FindsBy (cycle_topic cycles topic) limits topic (counted_setup (present s) s.komi_halves c) finding
Finds cycles limits (Stones x) s finding = FindsStones x (present s).board finding
