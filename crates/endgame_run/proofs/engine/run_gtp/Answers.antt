use Rattle.std.proofs.Common.{refl, ap, arith, subst}
use Rattle.gtp_words.specs.Sessions.{WritesByEnd}
use Rattle.desk_io.specs.declared.lines.TheConstants.{MOST_LINES}
use Rattle.gtp_words.specs.Steps.{StepsByEnd, StepsOfLines, counted}
use Rattle.gtp_engine.specs.Session.{AnswersLine, Table, first_table}
use Rattle.gtp_engine.specs.Steps.{AreLineSteps}
use Rattle.desk_io.specs.Desk.{desk, input_of, known, outside}
use Rattle.endgame_run.specs.Engine.{engine_rules}
use Rattle.endgame_questions.specs.File.{most_of_engine}
use Rattle.endgame_run.proofs.EngineLaws.{asked_behind, asked_nothing, engine_ran, engine_refused, no_session_steps, session_steps, session_taken}
use Rattle.endgame_questions.proofs.AnswerLaws.{later_refl, nothing_taken, rest_of}
use Rattle.endgame_run.proofs.engine.run_gtp.Goals as goal

pub returns-in_default-clause-ran : goal.returns-in_default-clause-ran
returns-in_default-clause-ran g c =
    let a = known (outside g.H.Shelf g.S.Source g.K.Sink) (desk c.args.shelf.now c.args.lines.now c.args.out.now) in
    record {
      played = engine_refused (engine_rules c.args.limits) a a refl refl refl;
      taken = nothing_taken most_of_engine a.input.left;
      asked = asked_nothing g.H.Shelf.asks (engine_rules c.args.limits) c.args.shelf.now a.input.left;
    }

pub returns-in_default-clause-later : goal.returns-in_default-clause-later
returns-in_default-clause-later g c = later_refl (known (outside g.H.Shelf g.S.Source g.K.Sink) (desk c.args.shelf.now c.args.lines.now c.args.out.now))

pub returns-clause-ran : goal.returns-clause-ran
returns-clause-ran g c =
    let o = outside g.H.Shelf g.S.Source g.K.Sink in
    let a = known o (desk c.args.shelf.now c.args.lines.now c.args.out.now) in
    let b = known o (desk c.run-end.new.shelf c.run-end.new.lines c.close.new.out) in
    let run = c.run-end.ensures in let loads = c.run-end.new.self.loads in let mid = g.K.Sink.holds c.run-end.new.out in record {
      played = engine_ran (engine_rules c.args.limits) a b loads (g.K.Sink.faults c.run-end.new.out) mid c.close.result c.run-end.new.self.table c.run-end.result
          run.loads run.counted
          (λ bytes told. subst (λ l. WritesByEnd Table (AnswersLine l a.input.files) loads.failures first_table bytes a.holds mid c.run-end.new.self.table b.input.left c.run-end.result)
          (ap (λ e. e.limits) c.in-Ok.ensures) (run.text bytes told))
          run.read_fault run.write_fault run.later_writes c.close.ensures.later_writes c.close.ensures.closed;
      taken = session_taken _ _ run.used;
      asked = asked_behind g.H.Shelf.asks (engine_rules c.args.limits) c.args.shelf.now a.input.left c.run-end.new.shelf b.input.left c.run-end.result (g.K.Sink.faults c.run-end.new.out) b.writes mid b.holds
          c.close.result run.asked c.close.ensures.closed;
    }

pub returns-clause-later : goal.returns-clause-later
returns-clause-later g c = let run = c.run-end.ensures in record {
  input = record { same_files = run.same_files; loads = run.later_loads; reads = run.later_reads; rest = rest_of most_of_engine _ _ (session_taken _ _ run.used) };
  writes = let first = run.later_writes in let then = c.close.ensures.later_writes in omega (arith, first, then);
}

pub returns-in_default-clause-steps : goal.returns-in_default-clause-steps
returns-in_default-clause-steps g c = no_session_steps (engine_rules c.args.limits) (input_of g.H.Shelf g.S.Source c.args.shelf.now c.args.lines.now) c.args.steps.now

pub returns-clause-steps : goal.returns-clause-steps
returns-clause-steps g c =
    let i = input_of g.H.Shelf g.S.Source c.args.shelf.now c.args.lines.now in let j = input_of g.H.Shelf g.S.Source c.run-end.new.shelf c.run-end.new.lines in
    let run = c.run-end.ensures in let loads = c.run-end.new.self.loads in let holds = g.K.Sink.holds c.args.out.now in let mid = g.K.Sink.holds c.run-end.new.out in
    session_steps (engine_rules c.args.limits) i j loads c.run-end.new.self.table c.run-end.result holds mid c.args.steps.now c.run-end.new.steps run.loads run.counted
    (subst (λ l. StepsOfLines (AreLineSteps l) (AnswersLine l i.files) MOST_LINES (counted first_table c.args.steps.now) (counted c.run-end.new.self.table c.run-end.new.steps))
    (ap (λ e. e.limits) c.in-Ok.ensures) run.lines)
    (λ bytes told. subst (λ l. StepsByEnd Table (AreLineSteps l) (AnswersLine l i.files) loads.failures (counted first_table c.args.steps.now) bytes holds mid (counted c.run-end.new.self.table c.run-end.new.steps) j.left
    c.run-end.result) (ap (λ e. e.limits) c.in-Ok.ensures) (run.steps bytes told))
