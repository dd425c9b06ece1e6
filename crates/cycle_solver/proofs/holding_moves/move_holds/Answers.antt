use Rattle.std.proofs.Common.{◌↔◌, ◌∙◌, ap, subst, sym, IsTrue}
use Rattle.go_grid.specs.Board.{other}
use Rattle.whole_rules.specs.FirstWinningMove.{IsWinner}
use Rattle.whole_rules.specs.WholeGame.{Whole, IsMove}
use Rattle.cycle_solver.specs.Held.{IsSeenFor, enough}
use Rattle.cycle_solver.proofs.holding_moves.move_holds.Goals as goal

pub returns-in-None-clause-holds : goal.returns-in-None-clause-holds
returns-in-None-clause-holds c = (λ e. absurd cc, λ (t, move, not). absurd (c.in-None.ensures (t, move)))

pub wins_after-requires-clause-seen : goal.wins_after-requires-clause-seen
wins_after-requires-clause-seen c =
    subst (λ d. IsSeenFor c.args.present.now d enough c.args.sum.now) (sym (c.other-theirs.ensures ∙ ap other c.side.ensures)) c.requires.seen

pub wins_after-requires-clause-change : goal.wins_after-requires-clause-change
wins_after-requires-clause-change c = (c.args.chosen, c.in-Some.ensures)

pub returns-in-Some-clause-holds : goal.returns-in-Some-clause-holds
returns-in-Some-clause-holds c = (
  λ h. (let (t, move) = c.in-Some.ensures.legal in (t, move, λ w. c.is_not.ensures.0 h ((tells t move).1 w))),
  λ (t, move, not). c.is_not.ensures.1 (λ lost. not ((tells t move).0 lost)),
)
  where
    tells : (t : Whole) → IsMove c.args.present.now.whole.now c.args.chosen t → IsTrue c.wins_after.result ↔ IsWinner t (other c.args.present.now.whole.now.side)
    tells t move = subst (λ d. IsTrue c.wins_after.result ↔ IsWinner t d) (c.other-theirs.ensures ∙ ap other c.side.ensures)
        (c.wins_after.ensures.wins c.args.chosen t c.in-Some.ensures move)
