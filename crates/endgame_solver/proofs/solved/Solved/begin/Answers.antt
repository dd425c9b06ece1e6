use Rattle.std.proofs.Common.{ap, ◌∙◌, subst, length, replicate}
use Rattle.std.proofs.lemmas.Result.{err_from_is_err_and}
use Rattle.endgame_solver.proofs.BeginLaws.{refusal_begun, steps_within, is_kept, are_sound}
use Rattle.endgame_solver.specs.inner.Sharing.{AreSharedBy}
use Rattle.endgame_solver.proofs.AskedLaws.{none_answered}
use Rattle.endgame_solver.proofs.WinningLaws.{sum_is}
use Rattle.endgame_solver.proofs.solved.Solved.begin.Goals as goal

pub returns-in_err-found-clause-begun : goal.returns-in_err-found-clause-begun
returns-in_err-found-clause-begun g c =
    let p = err_from_is_err_and c.from_residual-in_err-found.result c.from_residual-in_err-found.ensures.1 in
    rw (p.1, p.2) (refusal_begun c.args.setup.now c.args.tax c.args.limits.now c.in_ok-opening.ensures.regions c.deref.ensures.value _ c.in_err-found.ensures.refusal)

pub returns-in_err-found-clause-steps : goal.returns-in_err-found-clause-steps
returns-in_err-found-clause-steps g c =
    steps_within c.args.limits.now c.args.steps.now c.in_ok-opening.ensures.regions c.deref.ensures.value c.solve_openings.ensures.steps

pub invariant_of-result : goal.invariant_of-result
invariant_of-result g c =
    let regions = c.in_ok-opening.opening.regions.items in
    let made = c.in_ok-opening.ensures in
    let found = c.in_ok-found.found in
    let solved = c.in_ok-found.ensures in
    let shared = subst (λ rs. AreSharedBy c.args.limits.now rs found.book found.known.store) c.deref.ensures.value solved.solved in (
      record {
        graphs = shared.graphs;
        values = shared.values;
        views_are = shared.views_are;
        shapes = shared.shapes;
        kept = is_kept made.fit.settled made.regions made.local made.few c.positions-most.ensures.range.few_positions shared.solved made.opens
            (solved.places ∙ ap (λ n. replicate n 0) shared.views_are.many)
            (sum_is found.book shared.graphs shared.values (length regions) _ shared.views_are shared.solved.as_many_values solved.long solved.each)
            made.fit.black made.fit.white made.fit.komi;
      },
      solved.fits,
      none_answered c.new.ensures.items,
    )

pub returns-clause-begun : goal.returns-clause-begun
returns-clause-begun g c =
    let found = c.in_ok-found.found in
    let shared = subst (λ rs. AreSharedBy c.args.limits.now rs found.book found.known.store) c.deref.ensures.value c.in_ok-found.ensures.solved in
    (c.in_ok-opening.ensures.opens, c.in_ok-opening.ensures.regions, are_sound shared.solved)

pub returns-clause-steps : goal.returns-clause-steps
returns-clause-steps g c =
    steps_within c.args.limits.now c.args.steps.now c.in_ok-opening.ensures.regions c.deref.ensures.value c.solve_openings.ensures.steps
