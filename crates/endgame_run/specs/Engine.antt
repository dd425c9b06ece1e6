-- `gtp`: a session over the lines of the source: which loads may fail, how it ends, and what it writes.
use Rattle.std.specs.Prelude.{◌≡◌, ◌⊎◌, ◌++◌, ℕ, List, length, codes, take, Option, Some, IfSome, cond}
use Rattle.std.specs.List.Sorted.{IsStrictlyIncreasing}
use Rattle.std.specs.Io.KnownBytes.{append_known}
use Rattle.desk_io.specs.Desk.{Desk, Input, Known, Outside, known}
use Rattle.desk_io.specs.Files.{Files}
use Rattle.desk_io.specs.declared.lines.TheConstants.{MOST_LINES}
use Rattle.desk_io.specs.Outside.{Rose}
use Rattle.gd_words.specs.Job.{Job}
use Rattle.gtp_engine.specs.declared.limits.EngineLimits.{EngineLimits}
use Rattle.board_session.specs.declared.limits.BoardLimits.{BoardLimits}
use Rattle.gtp_words.specs.declared.end.GtpEnd.{GtpEnd}
use Rattle.gtp_words.specs.declared.end.GtpEnd.TheVariants as end
use Rattle.gtp_words.specs.Asking.{Asking, AsksInSession, Naming}
use Rattle.gtp_words.specs.Loads.{RoseBy}
use Rattle.gtp_words.specs.Sessions.{Answers, BreaksOff, IsSession, Standing, StandsAt, Waits, beginning}
use Rattle.gtp_words.specs.Steps.{LineSteps, StepsByEnd, StepsOfLines, counted}
use Rattle.gtp_engine.specs.Asking as engine_file
use Rattle.gtp_engine.specs.Session as engine
use Rattle.gtp_engine.specs.Steps as engine_steps
use Rattle.board_session.specs.Asking as board_file
use Rattle.board_session.specs.Session as board
use Rattle.board_session.specs.Steps as board_steps
use Rattle.board_orders.specs.States.{BoardState, first_state}
use Rattle.endgame_questions.specs.File.{TakesAtMost, most_of_engine}
use Rattle.endgame_run.specs.Limits.{board_limits, engine_limits}
use Rattle.endgame_questions.specs.declared.status.Status.{Status}
use Rattle.endgame_questions.specs.declared.status.Status.TheVariants.{Done, CannotRead, CannotWrite, Memory, TooManyLines}

-- a kind of session: its states, what is replied to a line where the shelf holds these files, for which file a line asks, which steps it takes,
-- and where the session begins
pub record SessionRules : Type 1 where
  pub State : Type 0
  pub Reply : Option Files → Answers State
  pub Names : Naming
  pub Steps : LineSteps State
  pub start : State

-- the session of the engine within limits
abbrev pub engine_rules : EngineLimits → SessionRules
engine_rules limits = record {
  State = engine.Table;
  Reply = engine.AnswersLine limits;
  Names = engine_file.LineNames;
  Steps = engine_steps.AreLineSteps limits;
  start = engine.first_table;
}

-- the session of an engine that keeps a board, within limits
abbrev pub board_rules : BoardLimits → SessionRules
board_rules limits = record {
  State = BoardState;
  Reply = board.AnswersLine limits;
  Names = board_file.LineNames;
  Steps = board_steps.AreLineSteps limits;
  start = first_state;
}

-- the session of a job
abbrev pub session_rules : Job → SessionRules
session_rules job = cond job.keep_board (board_rules (board_limits job)) (engine_rules (engine_limits job))

-- The numbers of loads that failed while the count of faults went from `before` to `now`: ascending, and no more of them than the number
-- by which the count rose. Where it stands at its last value there may be any number of them.
pub record AreFailedLoads (before now : ℕ) (failing : List ℕ) : Type 0 where
  pub ascending : IsStrictlyIncreasing failing
  pub counted : RoseBy (length failing) before now

-- the session stands here, of what the source has left
abbrev pub LeavesOff : (r : SessionRules) → Option (List ℕ) → Standing r.State → Type 0
LeavesOff r left b = (state : r.State) × StandsAt r.State state left b

-- of the bytes that a session is over, these are left in the source
module _ (r : SessionRules) (files : Option Files) (failing bytes : List ℕ) (left : Option (List ℕ)) where
  -- a whole session over the bytes, with its end and its text
  abbrev pub IsEngineSession : GtpEnd → List ℕ → Type 0
  IsEngineSession final text = (b : Standing r.State) × LeavesOff r left b × IsSession r.State (r.Reply files) failing (beginning r.start bytes) text b final

  -- the replies to all lines up to one that is still to be answered
  abbrev pub AreRepliesSoFar : List ℕ → Type 0
  AreRepliesSoFar text = (b : Standing r.State) × LeavesOff r left b × Waits r.State (r.Reply files) failing (beginning r.start bytes) text b

  -- the replies to some lines, and a front part of the next one
  abbrev pub AreRepliesBroken : List ℕ → Type 0
  AreRepliesBroken text = (b : Standing r.State) × LeavesOff r left b × BreaksOff r.State (r.Reply files) failing (beginning r.start bytes) text b

  -- the replies up to a fault, and the line of the fault: a read failed, or 10,000 lines were read and none of them ended the session
  abbrev pub IsEngineStopped : Status → List ℕ → List ℕ → Type 0
  IsEngineStopped CannotRead text line = AreRepliesSoFar text × (line ≡ codes "fault cannot read\n")
  IsEngineStopped TooManyLines text line = IsEngineSession end.TooManyLines text × (line ≡ codes "fault lines\n")
  IsEngineStopped status text line = ⊥

-- the ends of a session that is done
abbrev pub IsSessionOver : GtpEnd → Type 0
IsSessionOver end.Quit = Unit {0}
IsSessionOver end.InputEnded = Unit {0}
IsSessionOver final = ⊥

-- the statuses with which a session ends
abbrev pub IsEngineStatus : Status → Type 0
IsEngineStatus Done = Unit {0}
IsEngineStatus CannotRead = Unit {0}
IsEngineStatus CannotWrite = Unit {0}
IsEngineStatus TooManyLines = Unit {0}
IsEngineStatus Memory = Unit {0}
IsEngineStatus s = ⊥

module _ (r : SessionRules) (files : Option Files) (failing bytes : List ℕ) (left : Option (List ℕ)) where
  -- What was written in answer to the bytes, by the status: the session, and the line of a fault behind it. For want of memory it is whole
  -- replies. Where a write failed it is replies and a front part of the next one, or a front part of the fault's line.
  abbrev pub IsEngineWritten : Option (List ℕ) → Option (List ℕ) → Status → Type 0
  IsEngineWritten before now Done = (final : GtpEnd) × (text : List ℕ) × IsSessionOver final
      × IsEngineSession r files failing bytes left final text × (now ≡ append_known before text)
  IsEngineWritten before now Memory = (text : List ℕ) × AreRepliesSoFar r files failing bytes left text × (now ≡ append_known before text)
  IsEngineWritten before now CannotWrite =
      ((text : List ℕ) × AreRepliesBroken r files failing bytes left text × (now ≡ append_known before text))
      ⊎ ((fault : Status) × (text line : List ℕ) × (n : ℕ) × IsEngineStopped r files failing bytes left fault text line × (now ≡ append_known before (text ++ take n line)))
  IsEngineWritten before now status =
      (text line : List ℕ) × IsEngineStopped r files failing bytes left status text line × (now ≡ append_known before (text ++ line))

-- A session of the kind: its status, and its text where the source tells its bytes, for some loads that failed. A read or a write that failed
-- was counted.
pub record IsEnginePlay (r : SessionRules) (a : Known) (status : Status) (b : Known) : Type 0 where
  pub failing : List ℕ
  pub failed : AreFailedLoads a.input.loads b.input.loads failing
  pub ends : IsEngineStatus status
  pub read : status ≡ CannotRead → Rose a.input.reads b.input.reads
  pub write : status ≡ CannotWrite → Rose a.writes b.writes
  pub written : IfSome a.input.left (λ bytes. IsEngineWritten r a.input.files failing bytes b.input.left a.holds b.holds status)

-- What a session of the kind asks a shelf for, where the source tells its bytes: the files of the lines that it takes, in their order, each
-- once, and no other. Where memory is refused that of the next line may have been asked for too.
abbrev pub AsksForLines : {H : Type 0} → Asking H → SessionRules → H → Option (List ℕ) → Status → H → Option (List ℕ) → Type 0
AsksForLines asks r s before status t left = (bytes : List ℕ) → before ≡ Some bytes
    → (final : GtpEnd) × AsksInSession asks r.Names bytes s left t final × (final ≡ end.Memory → status ≡ Memory)

-- The steps of a session of the kind: those of each line that it answers, in the state in which it answers it, for some loads that failed. Where
-- memory is refused those of the next line may come to them. Where the source tells its bytes the lines are theirs.
pub record AreSessionSteps (r : SessionRules) (i j : Input) (before now : ℕ) : Type 0 where
  pub lines : (state : r.State) × StepsOfLines r.Steps (r.Reply i.files) MOST_LINES (counted r.start before) (counted state now)
  pub told : IfSome i.left (λ bytes. (failing : List ℕ) × AreFailedLoads i.loads j.loads failing × ((state : r.State) × (final : GtpEnd) × (holds held : Option (List ℕ))
      × StepsByEnd r.State r.Steps (r.Reply i.files) failing (counted r.start before) bytes holds held (counted state now) j.left final))

-- what a session of the kind comes to
pub record RunsEngine {H S K : Type 0} (o : Outside H S K) (r : SessionRules) (a : Desk H S K) (status : Status) (b : Desk H S K) : Type 0 where
  pub played : IsEnginePlay r (known o a) status (known o b)
  pub taken : TakesAtMost most_of_engine (o.sources.left a.lines) (o.sources.left b.lines)
  pub asked : AsksForLines o.shelves.asks r a.shelf (o.sources.left a.lines) status b.shelf (o.sources.left b.lines)
