-- The replies to analyses.
use Rattle.std.specs.Prelude.{◌≡◌, ℕ, ℤ, Bool, List, Option}
use Rattle.go_grid.specs.Board.{Board}
use Rattle.go_grid.specs.Region.{Region}
use Rattle.go_play.specs.Setup.{Setup}
use Rattle.whole_rules.specs.WholeGame.{Whole}
use Rattle.endgame_solver.specs.Limits.{Limits}
use Rattle.board_orders.specs.declared.topic.Analysis.{Analysis}
use Rattle.board_session.specs.declared.topic.CycleTopic.{CycleTopic}
use Rattle.board_orders.specs.declared.topic.Status.{Status}
use Rattle.board_orders.specs.declared.topic.Topic.{Topic}
use Rattle.board_session.specs.Analysing.{Finding, FindsBy, FindsIn, FindsInWithCycles, FindsOn, FindsOnWithCycles, FindsStones, IsShown}
use Rattle.board_session.specs.Session.{Reports, finding_said}
use Rattle.board_orders.specs.Effects.{Said, done, reply_text}
use Rattle.board_orders.specs.States.{BoardState}

-- the reply tells what is found, which is so
abbrev pub RepliesTo : (Finding → Type 0) → List ℕ → List ℕ → Type 0
RepliesTo IsFound id reply = (finding : Finding) × IsFound finding × (reply ≡ reply_text id (finding_said finding))

-- the reply shows a text
abbrev pub ShowsText : List ℕ → List ℕ → List ℕ → Type 0
ShowsText id text reply = (shown : List ℕ) × IsShown text shown × (reply ≡ reply_text id (done shown))

-- the reply on a topic of a state that opens with this komi, and whose regions of play these are
abbrev pub RepliesOn : Topic → List Region → Whole → ℤ → List ℕ → List ℕ → Type 0
RepliesOn topic regions w k = RepliesTo (FindsOn topic regions w k)

-- the reply on a topic of a position
abbrev pub RepliesIn : Limits → Topic → Setup → List ℕ → List ℕ → Type 0
RepliesIn limits topic setup = RepliesTo (FindsIn limits topic setup)

-- the reply on a topic of a state that opens with this komi, and in which kos can arise
abbrev pub RepliesOnWithCycles : CycleTopic → Whole → ℤ → List ℕ → List ℕ → Type 0
RepliesOnWithCycles topic w k = RepliesTo (FindsOnWithCycles topic w k)

-- the reply on a topic of a position in which kos can arise
abbrev pub RepliesInWithCycles : Limits → CycleTopic → Setup → List ℕ → List ℕ → Type 0
RepliesInWithCycles limits topic setup = RepliesTo (FindsInWithCycles limits topic setup)

-- the reply on a topic of a position, by a game with cycles where such a game tells it
abbrev pub RepliesBy : Option CycleTopic → Limits → Topic → Setup → List ℕ → List ℕ → Type 0
RepliesBy told limits topic setup = RepliesTo (FindsBy told limits topic setup)

-- the reply on the stones of a status
abbrev pub RepliesStones : Status → Board → List ℕ → List ℕ → Type 0
RepliesStones x g = RepliesTo (FindsStones x g)

-- the reply to an analysis, with cycles admitted or without
abbrev pub IsReported : Bool → Limits → Analysis → List ℕ → BoardState → List ℕ → Type 0
IsReported cycles limits x id s reply = (said : Said) × Reports cycles limits x s said × (reply ≡ reply_text id said)
