use Rattle.std.proofs.Common.{ap, refl, subst, sym, ◌∙◌}
use Rattle.desk_io.specs.Desk.{desk, input_of, known, outside}
use Rattle.gd_words.specs.Viewed.{viewed}
use Rattle.endgame_run.specs.inner.Top.{IsAsked}
use Rattle.endgame_questions.proofs.AnswerLaws.{later_refl}
use Rattle.endgame_run.proofs.RunLaws.{board_runs, board_steps, calc_runs, engine_runs, engine_steps, game_runs, game_steps, question_runs, question_steps, trial_runs}
use Rattle.endgame_run.proofs.top.run_job.Goals as goal

pub returns-in-Answer-clause-ran : goal.returns-in-Answer-clause-ran
returns-in-Answer-clause-ran g c =
    let own = subst (IsAsked (viewed c.args.job.now)) c.in-Answer.is c.asked.ensures in
    question_runs (outside g.H.Shelf g.S.Source g.K.Sink) (viewed c.args.job.now) (desk c.args.shelf.now c.args.lines.now c.args.out.now) c.run_question.result
    (desk c.run_question.new.shelf c.run_question.new.lines c.run_question.new.out) c.in-Answer.inquiry.question c.in-Answer.inquiry.terms c.in-Answer.inquiry.word.now
    own.0 own.1 c.run_question.ensures.ran

pub returns-in-Answer-clause-steps : goal.returns-in-Answer-clause-steps
returns-in-Answer-clause-steps g c =
    let own = subst (IsAsked (viewed c.args.job.now)) c.in-Answer.is c.asked.ensures in
    question_steps (viewed c.args.job.now) (input_of g.H.Shelf g.S.Source c.args.shelf.now c.args.lines.now)
    (input_of g.H.Shelf g.S.Source c.run_question.new.shelf c.run_question.new.lines) c.args.steps.now c.run_question.new.steps c.in-Answer.inquiry.question
    c.in-Answer.inquiry.terms c.in-Answer.inquiry.word.now own.0 own.1 c.run_question.ensures.steps

pub returns-in-Game-clause-ran : goal.returns-in-Game-clause-ran
returns-in-Game-clause-ran g c =
    let own = subst (IsAsked (viewed c.args.job.now)) c.in-Game.is c.asked.ensures in
    game_runs (outside g.H.Shelf g.S.Source g.K.Sink) (viewed c.args.job.now) (desk c.args.shelf.now c.args.lines.now c.args.out.now) c.run_game.result
    (desk c.run_game.new.shelf c.run_game.new.lines c.run_game.new.out) c.in-Game.game.terms c.in-Game.game.cycles c.in-Game.game.engine c.in-Game.game.word.now own.0 own.1
    own.2 own.3 c.run_game.ensures.ran

pub returns-in-Game-clause-steps : goal.returns-in-Game-clause-steps
returns-in-Game-clause-steps g c =
    let own = subst (IsAsked (viewed c.args.job.now)) c.in-Game.is c.asked.ensures in
    game_steps (viewed c.args.job.now) (input_of g.H.Shelf g.S.Source c.args.shelf.now c.args.lines.now)
    (input_of g.H.Shelf g.S.Source c.run_game.new.shelf c.run_game.new.lines) c.args.steps.now c.run_game.new.steps
    c.in-Game.game.cycles c.in-Game.game.terms c.in-Game.game.word.now own.0 own.1 own.2 c.run_game.ensures.steps

pub returns-in-Trial-clause-ran : goal.returns-in-Trial-clause-ran
returns-in-Trial-clause-ran g c =
    trial_runs (outside g.H.Shelf g.S.Source g.K.Sink) (viewed c.args.job.now) (desk c.args.shelf.now c.args.lines.now c.args.out.now) c.run_trial.result
    (desk c.args.shelf.now c.args.lines.now c.run_trial.new.out) c.in-Trial.number (subst (IsAsked (viewed c.args.job.now)) c.in-Trial.is c.asked.ensures)
    (record { written = c.run_trial.ensures.answered; shelf_unread = refl; lines_unread = refl })

pub returns-in-Calc-clause-ran : goal.returns-in-Calc-clause-ran
returns-in-Calc-clause-ran g c =
    let own = subst (IsAsked (viewed c.args.job.now)) c.in-Calc.is c.asked.ensures in
    calc_runs (outside g.H.Shelf g.S.Source g.K.Sink) (viewed c.args.job.now) (desk c.args.shelf.now c.args.lines.now c.args.out.now) c.run_calc.result
    (desk c.args.shelf.now c.args.lines.now c.run_calc.new.out) c.in-Calc.line.parts c.in-Calc.line.expression.now own.0 own.1
    (record { written = c.run_calc.ensures.answered; shelf_unread = refl; lines_unread = refl })

pub returns-in-Gtp-clause-steps : goal.returns-in-Gtp-clause-steps
returns-in-Gtp-clause-steps g c =
    let own = subst (IsAsked (viewed c.args.job.now)) c.in-Gtp.is c.asked.ensures in
    engine_steps (viewed c.args.job.now) (input_of g.H.Shelf g.S.Source c.args.shelf.now c.args.lines.now) (input_of g.H.Shelf g.S.Source c.run_gtp.new.shelf c.run_gtp.new.lines) c.args.steps.now
    c.run_gtp.new.steps c.in-Gtp.limits own.0 own.1 own.2 c.run_gtp.ensures.steps

pub returns-in-Gtp-clause-ran : goal.returns-in-Gtp-clause-ran
returns-in-Gtp-clause-ran g c =
    let own = subst (IsAsked (viewed c.args.job.now)) c.in-Gtp.is c.asked.ensures in
    engine_runs (outside g.H.Shelf g.S.Source g.K.Sink) (viewed c.args.job.now) (desk c.args.shelf.now c.args.lines.now c.args.out.now) c.run_gtp.result
    (desk c.run_gtp.new.shelf c.run_gtp.new.lines c.run_gtp.new.out) c.in-Gtp.limits own.0 own.1 own.2 c.run_gtp.ensures.ran

pub returns-in-BoardGtp-clause-steps : goal.returns-in-BoardGtp-clause-steps
returns-in-BoardGtp-clause-steps g c =
    let own = subst (IsAsked (viewed c.args.job.now)) c.in-BoardGtp.is c.asked.ensures in
    board_steps (viewed c.args.job.now) (input_of g.H.Shelf g.S.Source c.args.shelf.now c.args.lines.now) (input_of g.H.Shelf g.S.Source c.run_board.new.shelf c.run_board.new.lines) c.args.steps.now
    c.run_board.new.steps c.in-BoardGtp.limits own.0 own.1 own.2 c.run_board.ensures.steps

pub returns-in-BoardGtp-clause-ran : goal.returns-in-BoardGtp-clause-ran
returns-in-BoardGtp-clause-ran g c =
    let own = subst (IsAsked (viewed c.args.job.now)) c.in-BoardGtp.is c.asked.ensures in
    board_runs (outside g.H.Shelf g.S.Source g.K.Sink) (viewed c.args.job.now) (desk c.args.shelf.now c.args.lines.now c.args.out.now) c.run_board.result
    (desk c.run_board.new.shelf c.run_board.new.lines c.run_board.new.out) c.in-BoardGtp.limits own.0 own.1 own.2 c.run_board.ensures.ran

pub run_question-requires-clause-untaxed : goal.run_question-requires-clause-untaxed
run_question-requires-clause-untaxed g c taxed =
    let own = subst (IsAsked (viewed c.args.job.now)) c.in-Answer.is c.asked.ensures in
    c.requires.bounds.untaxed (ap (λ l. l.tax) (sym own.1) ∙ taxed)

pub run_game-requires-clause-untaxed : goal.run_game-requires-clause-untaxed
run_game-requires-clause-untaxed g c taxed =
    let own = subst (IsAsked (viewed c.args.job.now)) c.in-Game.is c.asked.ensures in
    c.requires.bounds.untaxed (ap (λ l. l.tax) (sym own.1) ∙ taxed)

pub returns-in-Trial-clause-later : goal.returns-in-Trial-clause-later
returns-in-Trial-clause-later g c = record {
  input = (later_refl (known (outside g.H.Shelf g.S.Source g.K.Sink) (desk c.args.shelf.now c.args.lines.now c.args.out.now))).input;
  writes = c.run_trial.ensures.later_writes;
}

pub returns-in-Calc-clause-later : goal.returns-in-Calc-clause-later
returns-in-Calc-clause-later g c = record {
  input = (later_refl (known (outside g.H.Shelf g.S.Source g.K.Sink) (desk c.args.shelf.now c.args.lines.now c.args.out.now))).input;
  writes = c.run_calc.ensures.later_writes;
}
