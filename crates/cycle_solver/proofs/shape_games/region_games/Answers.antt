use Rattle.std.proofs.Common.{◌^◌, arith, get_or, length, min}
use Rattle.std.proofs.lemmas.List.Elements.{Contains-get_or}
use Rattle.std.proofs.lemmas.List.Sums.{sum_by_more, sum_by_more_le}
use Rattle.std.proofs.lemmas.Result.{err_from_is_err_and}
use Rattle.go_grid.specs.Region.{Region}
use Rattle.game_canon.proofs.ChangedIdLaws.{extends-on}
use Rattle.endgame_solver.specs.Regions.{no_region}
use Rattle.cycle_solver.proofs.GameLaws.{refused_at}
use Rattle.cycle_solver.proofs.shape_games.region_games.Goals as goal

pub returns-in_err-add_game-clause-refusal : goal.returns-in_err-add_game-clause-refusal
returns-in_err-add_game-clause-refusal g c =
    let p = err_from_is_err_and c.from_residual.result c.from_residual.ensures.1 in
    rw (p.1, p.2) (refused_at c.regions-test.true c.requires.small c.regions.invariant.shares.solved _ c.in_err-add_game.ensures.refusal)

pub returns-in_err-add_game-clause-steps : goal.returns-in_err-add_game-clause-steps
returns-in_err-add_game-clause-steps g c =
    let most = λ (r : Region). min c.args.limits.now.positions (3 ^ length r.points) in
    let later = sum_by_more_le most c.args.regions.now c.regions.number no_region c.regions-test.true in
    omega (arith, c.regions.invariant.steps, c.add_game.ensures.steps, later)

pub regions-preserved : goal.regions-preserved
regions-preserved g c =
    let most = λ (r : Region). min c.args.limits.now.positions (3 ^ length r.points) in
    let more = sum_by_more most c.args.regions.now c.regions.number no_region c.regions-test.true in
    record {
      shares = c.in_ok-add_game.ensures.shares;
      steps = omega (arith, c.regions.invariant.steps, c.add_game.ensures.steps, more);
      kept = extends-on c.args.store.now c.regions.store c.add_game.new.store c.regions.invariant.kept c.add_game.ensures.kept;
    }

pub invariant_of-result : goal.invariant_of-result
invariant_of-result g c = λ k d lt.
    c.regions.invariant.shares.noted.inside (get_or c.regions.book.views.items k d) (Contains-get_or c.regions.book.views.items k d lt)
