use Rattle.std.proofs.Common.{inl, inr, refl}
use Rattle.desk_io.specs.Desk.{desk, outside}
use Rattle.gd_words.specs.Viewed.{texts, viewed}
use Rattle.endgame_run.proofs.SolveLaws.{writes_both}
use Rattle.endgame_run.proofs.top.run.Goals as goal

pub returns-in_default-clause-ran : goal.returns-in_default-clause-ran
returns-in_default-clause-ran g c = inl (c.in_default.ensures.usage, record { written = c.finish.ensures.written; shelf_unread = refl; lines_unread = refl })

pub returns-in_default-clause-winner : goal.returns-in_default-clause-winner
returns-in_default-clause-winner g c done asked =
    (writes_both (outside g.H.Shelf g.S.Source g.K.Sink) (texts c.args.words.now) (desk c.args.shelf.now c.args.lines.now c.args.out.now) (desk c.args.shelf.now c.args.lines.now c.finish.new.out)
    c.finish.result (returns-in_default-clause-ran g c) done asked).0

pub returns-in_default-clause-first_winning_move : goal.returns-in_default-clause-first_winning_move
returns-in_default-clause-first_winning_move g c done asked =
    (writes_both (outside g.H.Shelf g.S.Source g.K.Sink) (texts c.args.words.now) (desk c.args.shelf.now c.args.lines.now c.args.out.now) (desk c.args.shelf.now c.args.lines.now c.finish.new.out)
    c.finish.result (returns-in_default-clause-ran g c) done asked).1

pub returns-in_default-clause-steps : goal.returns-in_default-clause-steps
returns-in_default-clause-steps g c = inl (c.in_default.ensures.usage, refl)

pub run_job-requires-clause-said : goal.run_job-requires-clause-said
run_job-requires-clause-said g c = (texts c.args.words.now, c.in-Ok.ensures.job.said)

pub returns-clause-ran : goal.returns-clause-ran
returns-clause-ran g c = inr (viewed c.in-Ok.job, c.in-Ok.ensures.job, c.run_job.ensures.ran)

pub returns-clause-winner : goal.returns-clause-winner
returns-clause-winner g c done asked =
    (writes_both (outside g.H.Shelf g.S.Source g.K.Sink) (texts c.args.words.now) (desk c.args.shelf.now c.args.lines.now c.args.out.now) (desk c.run_job.new.shelf c.run_job.new.lines c.run_job.new.out)
    c.run_job.result (returns-clause-ran g c) done asked).0

pub returns-clause-first_winning_move : goal.returns-clause-first_winning_move
returns-clause-first_winning_move g c done asked =
    (writes_both (outside g.H.Shelf g.S.Source g.K.Sink) (texts c.args.words.now) (desk c.args.shelf.now c.args.lines.now c.args.out.now) (desk c.run_job.new.shelf c.run_job.new.lines c.run_job.new.out)
    c.run_job.result (returns-clause-ran g c) done asked).1

pub returns-clause-steps : goal.returns-clause-steps
returns-clause-steps g c = inr (viewed c.in-Ok.job, c.in-Ok.ensures.job, c.run_job.ensures.steps)
