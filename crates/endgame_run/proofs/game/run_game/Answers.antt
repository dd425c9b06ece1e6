use Rattle.std.proofs.Common.{subst, sym, inl, inr, refl, arith}
use Rattle.desk_io.specs.Desk.{desk, input_of, known, outside}
use Rattle.endgame_questions.specs.File.{TakesAtMost, most_of_game}
use Rattle.endgame_run.specs.Game.{IsPlayRun}
use Rattle.endgame_questions.proofs.AnswerLaws.{finishes_as, nothing_taken, rest_of}
use Rattle.endgame_run.proofs.SessionLaws.{opened_fault, opened_game, opened_room}
use Rattle.endgame_run.proofs.game.run_game.Goals as goal

pub returns-in-Ok-Game-clause-ran : goal.returns-in-Ok-Game-clause-ran
returns-in-Ok-Game-clause-ran g c =
    let o = outside g.H.Shelf g.S.Source g.K.Sink in
    let a = known o (desk c.args.shelf.now c.args.lines.now c.args.out.now) in
    let b = known o (desk c.open_game.new.shelf c.play-status.new.lines c.play-status.new.out) in
    let session = c.in-Ok-Game.session in
    let same = c.in-Ok-Game.ensures.reads.lines_unread c.requires.apart in record {
      outcome = inr (opened_game c.args.game.now.terms c.args.game.now.cycles c.args.game.now.engine c.args.settings.now c.args.game.now.word.now a b (input_of g.H.Shelf g.S.Source c.open_game.new.shelf c.open_game.new.lines) c.play-status.result c.in-Ok-Game.field-0 session c.in-Ok-Game.field-0-is
          c.in-Ok-Game.ensures.opened
          (subst (λ l. IsPlayRun session.engine session.game (g.S.Source.left l) (g.S.Source.faults l) (g.S.Source.faults c.play-status.new.lines) (g.K.Sink.faults c.args.out.now) (g.K.Sink.faults c.play-status.new.out)
          (g.K.Sink.holds c.args.out.now) (g.K.Sink.holds c.play-status.new.out) c.play-status.result) same c.play-status.ensures.played));
      taken = subst (λ l. TakesAtMost most_of_game (g.S.Source.left l) (g.S.Source.left c.play-status.new.lines)) same c.play-status.ensures.takes;
      asked = c.in-Ok-Game.ensures.reads.asked c.requires.apart;
    }

pub returns-in-Ok-Game-clause-later : goal.returns-in-Ok-Game-clause-later
returns-in-Ok-Game-clause-later g c =
    let same = c.in-Ok-Game.ensures.reads.lines_unread c.requires.apart in
    let later = c.in-Ok-Game.ensures.reads.later in record {
      input = record {
        same_files = later.same_files;
        loads = later.loads;
        reads = let more = c.play-status.ensures.later_reads in let some = later.reads in omega (arith, some, more);
        rest = rest_of most_of_game _ _ (subst (λ l. TakesAtMost most_of_game (g.S.Source.left l) (g.S.Source.left c.play-status.new.lines)) same c.play-status.ensures.takes);
      };
      writes = c.play-status.ensures.later_writes;
    }

pub returns-in-Ok-Fault-clause-ran : goal.returns-in-Ok-Fault-clause-ran
returns-in-Ok-Fault-clause-ran g c =
    let i = input_of g.H.Shelf g.S.Source c.args.shelf.now c.args.lines.now in
    let j = input_of g.H.Shelf g.S.Source c.open_game.new.shelf c.open_game.new.lines in
    let report = c.in-Ok-Fault.report in
    let same = c.in-Ok-Fault.ensures.reads.lines_unread c.requires.apart in record {
      outcome = inl (
        inr (
          report.status,
          report.text,
          opened_fault c.args.game.now.terms c.args.game.now.cycles c.args.game.now.engine c.args.settings.now c.args.game.now.word.now i j c.in-Ok-Fault.field-0 report
              c.in-Ok-Fault.field-0-is c.in-Ok-Fault.ensures.opened,
          finishes_as _ _ _ _ _ _ _ c.finish.result c.as_slice.ensures c.finish.ensures.written,
        ),
        same,
      );
      taken = subst (λ l. TakesAtMost most_of_game (g.S.Source.left c.args.lines.now) (g.S.Source.left l)) (sym same) (nothing_taken most_of_game (g.S.Source.left c.args.lines.now));
      asked = c.in-Ok-Fault.ensures.reads.asked c.requires.apart;
    }

pub returns-in-Ok-Fault-clause-later : goal.returns-in-Ok-Fault-clause-later
returns-in-Ok-Fault-clause-later g c = record { input = c.in-Ok-Fault.ensures.reads.later; writes = c.finish.ensures.later }

pub returns-in-Err-clause-ran : goal.returns-in-Err-clause-ran
returns-in-Err-clause-ran g c =
    let same = c.in-Err.ensures.reads.lines_unread c.requires.apart in record {
      outcome = inl (inl (refl, refl), same);
      taken = subst (λ l. TakesAtMost most_of_game (g.S.Source.left c.args.lines.now) (g.S.Source.left l)) (sym same) (nothing_taken most_of_game (g.S.Source.left c.args.lines.now));
      asked = c.in-Err.ensures.reads.asked c.requires.apart;
    }

pub returns-in-Err-clause-later : goal.returns-in-Err-clause-later
returns-in-Err-clause-later g c = record { input = c.in-Err.ensures.reads.later; writes = omega arith }

pub play-status-requires-clause-room : goal.play-status-requires-clause-room
play-status-requires-clause-room g c =
    opened_room c.args.game.now.terms c.args.game.now.cycles c.args.game.now.engine c.args.settings.now c.args.game.now.word.now
    (input_of g.H.Shelf g.S.Source c.args.shelf.now c.args.lines.now) (input_of g.H.Shelf g.S.Source c.open_game.new.shelf c.open_game.new.lines)
    c.in-Ok-Game.field-0 c.in-Ok-Game.session c.in-Ok-Game.field-0-is c.in-Ok-Game.ensures.opened
