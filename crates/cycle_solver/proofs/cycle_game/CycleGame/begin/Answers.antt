use Rattle.std.proofs.Common.{subst, length}
use Rattle.std.proofs.lemmas.Result.{err_from_is_err_and}
use Rattle.endgame_solver.proofs.BeginLaws.{few_regions, steps_within}
use Rattle.cycle_solver.specs.Games.{AreSolvedBelow}
use Rattle.cycle_solver.proofs.AskedLaws.{none_answered}
use Rattle.cycle_solver.proofs.BeginLaws.{are_steady, held_start, purses_small, refusal_begun}
use Rattle.cycle_solver.proofs.cycle_game.CycleGame.begin.Goals as goal

pub returns-in_err-found-clause-begun : goal.returns-in_err-found-clause-begun
returns-in_err-found-clause-begun g c =
    let p = err_from_is_err_and c.from_residual-in_err-found.result c.from_residual-in_err-found.ensures.1 in
    rw (p.1, p.2) (refusal_begun c.args.setup.now c.args.tax c.args.limits.now c.args.most c.in_ok-opening.ensures.regions c.deref.ensures.value _ c.in_err-found.ensures.refusal)

pub returns-in_err-found-clause-steps : goal.returns-in_err-found-clause-steps
returns-in_err-found-clause-steps g c =
    steps_within c.args.limits.now c.args.steps.now c.in_ok-opening.ensures.regions c.deref.ensures.value c.solve_openings.ensures.steps

pub invariant_of-result : goal.invariant_of-result
invariant_of-result g c =
    let made = c.in_ok-opening.ensures in
    let found = c.in_ok-found.found in
    let solved = c.in_ok-found.ensures in
    let done = subst (λ rs. AreSolvedBelow c.args.limits.now c.args.most rs found.games found.known.store (length rs)) c.deref.ensures.value solved.solved in (
      record {
        held = held_start done made.fit.settled made.regions (few_regions c.args.setup.now.board c.in_ok-opening.opening.regions.items made.regions made.few)
            made.opens solved.places (purses_small made.fit made.few made.opens);
        low_sum = solved.low;
        high_sum = solved.high;
      },
      solved.fits,
      none_answered c.new.ensures.items,
      none_answered c.new-2.ensures.items,
    )

pub returns-clause-begun : goal.returns-clause-begun
returns-clause-begun g c =
    let found = c.in_ok-found.found in
    let done = subst (λ rs. AreSolvedBelow c.args.limits.now c.args.most rs found.games found.known.store (length rs)) c.deref.ensures.value c.in_ok-found.ensures.solved in
    (c.in_ok-opening.ensures.opens, c.in_ok-opening.ensures.regions, are_steady done)

pub returns-clause-steps : goal.returns-clause-steps
returns-clause-steps g c =
    steps_within c.args.limits.now c.args.steps.now c.in_ok-opening.ensures.regions c.deref.ensures.value c.solve_openings.ensures.steps
