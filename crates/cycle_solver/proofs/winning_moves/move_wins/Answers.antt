use Rattle.std.proofs.Common.{◌↔◌, IsTrue, subst, sym}
use Rattle.whole_rules.specs.FirstWinningMove.{IsWinner}
use Rattle.cycle_solver.specs.Held.{IsSeenFor, enough}
use Rattle.cycle_solver.proofs.ChangeLaws.{winning}
use Rattle.cycle_solver.proofs.winning_moves.move_wins.Goals as goal

pub returns-in-None-clause-wins : goal.returns-in-None-clause-wins
returns-in-None-clause-wins c = (λ e. absurd (cc), λ w. absurd (c.in-None.ensures (w.0, w.1)))

pub wins_after-requires-clause-seen : goal.wins_after-requires-clause-seen
wins_after-requires-clause-seen c = subst (λ d. IsSeenFor c.args.present.now d enough c.args.sum.now) (sym c.side-side.ensures) c.requires.seen

pub wins_after-requires-clause-change : goal.wins_after-requires-clause-change
wins_after-requires-clause-change c = (c.args.chosen, c.in-Some.ensures)

pub returns-in-Some-clause-wins : goal.returns-in-Some-clause-wins
returns-in-Some-clause-wins c =
    let change = c.in-Some.ensures in
    winning c.args.present.now.whole.now c.args.chosen change.legal (λ t move.
    subst (λ d. IsTrue c.wins_after.result ↔ IsWinner t d) c.side-side.ensures (c.wins_after.ensures.wins c.args.chosen t change move))
