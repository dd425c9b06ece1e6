-- What a run does to the objects of the outside, by its relation.
use Rattle.std.proofs.Common.{◌≡◌, inl, inr, sym, subst}
use Rattle.desk_io.specs.Desk.{Desk, Outside}
use Rattle.desk_io.specs.Outside.{ended}
use Rattle.gd_words.specs.Job.{Job}
use Rattle.gd_words.specs.Task.{Task}
use Rattle.gd_words.specs.Task.Task.{ask, calc, gtp, play, trial}
use Rattle.endgame_questions.specs.File.{TakesAtMost, dash}
use Rattle.endgame_run.specs.Run.{RunsTask}
use Rattle.top_laws.specs.Use.{AsksAbout, AsksShelf, LeavesLines, ReadsToEnd, TakesFew, TouchesLines, TouchesShelf, most_of}
use Rattle.endgame_questions.specs.declared.status.Status.{Status}
use Rattle.endgame_questions.specs.declared.status.Status.TheVariants.{Done}
use Rattle.endgame_questions.proofs.AnswerLaws.{nothing_taken}

module _ {H S K : Type 0} (o : Outside H S K) (job : Job) (a b : Desk H S K) (s : Status) where
  to_end : (task : Task) → RunsTask o task job a s b → s ≡ Done → AsksAbout task dash → o.sources.left b.lines ≡ ended (o.sources.left a.lines)
  to_end (ask question word) r done is = r.at_end done (sym is)
  to_end (play word) r done is = absurd is
  to_end (trial number) r done is = absurd is
  to_end (calc expression) r done is = absurd is
  to_end gtp r done is = absurd is

  lines : (task : Task) → RunsTask o task job a s b → TouchesLines o task job a s b
  lines (ask question word) r = r.reads.lines_unread
  lines (play word) r = elim r.outcome [ inl u ↦ inl u.1 | inr g ↦ inr g ]
  lines (trial number) r = r.lines_unread
  lines (calc expression) r = r.lines_unread
  lines gtp r = tt

  shelf : (task : Task) → RunsTask o task job a s b → TouchesShelf o task job a s b
  shelf (ask question word) r = (r.reads.shelf_unread, r.reads.asked)
  shelf (play word) r = r.asked
  shelf (trial number) r = r.shelf_unread
  shelf (calc expression) r = r.shelf_unread
  shelf gtp r = r.asked

  untaken : b.lines ≡ a.lines → TakesAtMost 0 (o.sources.left a.lines) (o.sources.left b.lines)
  untaken same = subst (λ l. TakesAtMost 0 (o.sources.left a.lines) (o.sources.left l)) (sym same) (nothing_taken 0 (o.sources.left a.lines))

  taken : (task : Task) → RunsTask o task job a s b → TakesAtMost (most_of task) (o.sources.left a.lines) (o.sources.left b.lines)
  taken (ask question word) r = r.reads.taken
  taken (play word) r = r.taken
  taken (trial number) r = untaken r.lines_unread
  taken (calc expression) r = untaken r.lines_unread
  taken gtp r = r.taken

pub reads_to_end : {H S K : Type 0} (o : Outside H S K) → ReadsToEnd o
reads_to_end o job a b s r = to_end o job a b s job.task r

pub leaves_lines : {H S K : Type 0} (o : Outside H S K) → LeavesLines o
leaves_lines o job a b s r = lines o job a b s job.task r

pub takes_few : {H S K : Type 0} (o : Outside H S K) → TakesFew o
takes_few o job a b s r = taken o job a b s job.task r

pub asks_shelf : {H S K : Type 0} (o : Outside H S K) → AsksShelf o
asks_shelf o job a b s r = shelf o job a b s job.task r
