use Rattle.std.proofs.lemmas.Result.{err_from_is_err_and}
use Rattle.sum_outcome.proofs.MemoLaws.{fits_grown}
use Rattle.cycle_solver.proofs.solved_regions.solve_openings.Goals as goal

pub returns-in_err-known-clause-refusal : goal.returns-in_err-known-clause-refusal
returns-in_err-known-clause-refusal g c =
    let p = err_from_is_err_and c.from_residual.result c.from_residual.ensures.1 in rw (p.1, p.2) tt

pub returns-in-Err-clause-refusal : goal.returns-in-Err-clause-refusal
returns-in-Err-clause-refusal g c = c.in-Err.ensures.refusal

pub returns-in-Ok-clause-fits : goal.returns-in-Ok-clause-fits
returns-in-Ok-clause-fits g c =
    fits_grown c.in_ok-known.known.store c.hold_regions.new.store c.in_ok-known.known.search c.in-Ok.ensures.kept c.in_ok-known.ensures
