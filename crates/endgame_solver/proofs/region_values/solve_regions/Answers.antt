use Rattle.std.proofs.Common.{◌≡◌, ◌^◌, arith, length, min}
use Rattle.std.proofs.lemmas.List.Sums.{sum_by_more, sum_by_more_le}
use Rattle.go_grid.specs.Region.{Region}
use Rattle.game_canon.proofs.ChangedIdLaws.{extends-on}
use Rattle.endgame_solver.specs.Regions.{no_region}
use Rattle.endgame_solver.proofs.SharingLaws.{shared_by}
use Rattle.endgame_solver.proofs.region_values.solve_regions.Goals as goal

pub returns-in_err-solve_next-clause-steps : goal.returns-in_err-solve_next-clause-steps
returns-in_err-solve_next-clause-steps g c =
    let most = λ (r : Region). min c.args.limits.now.positions (3 ^ length r.points) in
    let later = sum_by_more_le most c.args.regions.now c.regions.number no_region c.regions-test.true in
    omega (arith, c.regions.invariant.steps, c.solve_next.ensures.steps, later)

pub regions-preserved : goal.regions-preserved
regions-preserved g c =
    let most = λ (r : Region). min c.args.limits.now.positions (3 ^ length r.points) in
    let more = sum_by_more most c.args.regions.now c.regions.number no_region c.regions-test.true in
    record {
      shared = c.in_ok-solve_next.ensures.next;
      steps = omega (arith, c.regions.invariant.steps, c.solve_next.ensures.steps, more);
      kept = extends-on c.args.store.now c.regions.store c.solve_next.new.store c.regions.invariant.kept c.solve_next.ensures.kept;
    }

pub returns-clause-solved : goal.returns-clause-solved
returns-clause-solved g c =
    let all : c.regions.number ≡ length c.args.regions.now = omega arith in
    shared_by c.args.limits.now c.args.regions.now c.regions.book c.regions.kinds.items c.regions.store c.regions.number all c.regions.invariant.shared
