use Rattle.std.proofs.lemmas.Result.{err_from_is_err_and}
use Rattle.cycle_solver.proofs.BeginLaws.{have_openings}
use Rattle.cycle_solver.proofs.solved_regions.hold_regions.Goals as goal

pub start_of-requires : goal.start_of-requires
start_of-requires g c = have_openings c.in_ok-games.ensures.solved

pub returns-in_err-games-clause-refusal : goal.returns-in_err-games-clause-refusal
returns-in_err-games-clause-refusal g c =
    let p = err_from_is_err_and c.from_residual.result c.from_residual.ensures.1 in rw (p.1, p.2) c.in_err-games.ensures.refusal

pub returns-in_err-start-clause-refusal : goal.returns-in_err-start-clause-refusal
returns-in_err-start-clause-refusal g c =
    let p = err_from_is_err_and c.from_residual-in_err-start.result c.from_residual-in_err-start.ensures.1 in rw (p.1, p.2) tt
