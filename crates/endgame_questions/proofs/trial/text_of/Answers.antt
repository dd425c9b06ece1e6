use Rattle.std.proofs.Common.{◌+◌, ◌≤◌, Err, false, inl, inr, refl, subst}
use Rattle.std.proofs.lemmas.Result.{IfOk-weaker}
use Rattle.endgame_solver.specs.Faults.{most_steps}
use Rattle.endgame_solver.specs.Solved.{Begun}
use Rattle.endgame_questions.proofs.TrialLaws.{only_memory}
use Rattle.endgame_questions.proofs.trial.text_of.Goals as goal

pub want_of_memory-requires : goal.want_of_memory-requires
want_of_memory-requires g c =
    only_memory c.in_ok-setup.setup c.in-Err.fault c.in_ok-setup.ensures.short
    (subst (λ l. Begun c.in_ok-setup.setup false l (Err c.in-Err.fault)) c.trial_limits-limits.ensures c.in-Err.ensures.begun)

pub returns-in_err-setup-clause-steps : goal.returns-in_err-setup-clause-steps
returns-in_err-setup-clause-steps g c = inl refl

pub returns-in-Ok-clause-steps : goal.returns-in-Ok-clause-steps
returns-in-Ok-clause-steps g c =
    let p = c.in_ok-setup.ensures.plain in
    inr (
      c.in_ok-setup.setup,
      record { board = c.in_ok-setup.ensures.board; side = p.0; komi = p.1; black = p.2; white = p.3 },
      λ regions are. subst (λ l. c.begin.new.steps ≤ c.args.steps.now + most_steps l regions) c.trial_limits-limits.ensures (c.begin.ensures.steps regions are),
    )

pub returns-clause-steps : goal.returns-clause-steps
returns-clause-steps g c =
    let p = c.in_ok-setup.ensures.plain in
    inr (
      c.in_ok-setup.setup,
      record { board = c.in_ok-setup.ensures.board; side = p.0; komi = p.1; black = p.2; white = p.3 },
      λ regions are. subst (λ l. c.begin.new.steps ≤ c.args.steps.now + most_steps l regions) c.trial_limits-limits.ensures (c.begin.ensures.steps regions are),
    )

pub returns-in-Ok-clause-text : goal.returns-in-Ok-clause-text
returns-in-Ok-clause-text g c =
    let p = c.in_ok-setup.ensures.plain in
    let b = c.in-Ok.ensures.begun in
    IfOk-weaker c.trial_text-text.result _ _ (λ text is. record {
      setup = c.in_ok-setup.setup;
      game = c.in-Ok.solved;
      position = record { board = c.in_ok-setup.ensures.board; side = p.0; komi = p.1; black = p.2; white = p.3 };
      are_regions = b.1;
      opening = b.0;
      is = is;
    }) c.trial_text-text.ensures.text
