use Rattle.std.proofs.lemmas.Result.{err_from_is_err_and}
use Rattle.endgame_solver.proofs.WinningLaws.{openings_known}
use Rattle.endgame_solver.proofs.solved_regions.hold_regions.Goals as goal

pub start_of-requires : goal.start_of-requires
start_of-requires g c = openings_known c.args.limits.now c.args.regions.now c.in_ok-book.book c.solve_regions.new.store c.in_ok-book.ensures.solved

pub returns-in_err-book-clause-refusal : goal.returns-in_err-book-clause-refusal
returns-in_err-book-clause-refusal g c =
    let p = err_from_is_err_and c.from_residual.result c.from_residual.ensures.1 in rw (p.1, p.2) c.in_err-book.ensures.refusal

pub returns-in_err-start-clause-refusal : goal.returns-in_err-start-clause-refusal
returns-in_err-start-clause-refusal g c =
    let p = err_from_is_err_and c.from_residual-in_err-start.result c.from_residual-in_err-start.ensures.1 in rw (p.1, p.2) tt
