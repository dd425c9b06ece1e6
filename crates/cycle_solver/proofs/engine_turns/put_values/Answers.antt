use Rattle.std.proofs.Common.{◌<◌, IfSome, length, subst, sym}
use Rattle.go_grid.specs.declared.grid.Colour.TheVariants.{Black, White}
use Rattle.cycle_solver.specs.Changes.{places_after}
use Rattle.cycle_solver.specs.Held.{AreSummed, enough}
use Rattle.cycle_solver.proofs.ChangeLaws.{behind_change, one_behind}
use Rattle.cycle_solver.proofs.engine_turns.put_values.Goals as goal

pub put_change-low-requires-clause-change : goal.put_change-low-requires-clause-change
put_change-low-requires-clause-change c = (c.args.chosen, c.in_ok-change.ensures)

pub put_change-high-requires-clause-change : goal.put_change-high-requires-clause-change
put_change-high-requires-clause-change c = (c.args.chosen, c.in_ok-change.ensures)

pub returns-clause-behind : goal.returns-clause-behind
returns-clause-behind c = behind_change c.args.present.now c.requires.low.0 c.in_ok-change.change c.args.chosen c.in_ok-change.ensures

pub returns-clause-low : goal.returns-clause-low
returns-clause-low c = c.put_change-low.ensures.put (λ k. 255) (λ k. 255) (one_behind c.in_ok-change.change.stone 255) c.requires.low.1

pub returns-clause-high : goal.returns-clause-high
returns-clause-high c = c.put_change-high.ensures.put (λ k. 255) (λ k. 255) (one_behind c.in_ok-change.change.stone 255) c.requires.high.1

pub change_of-requires : goal.change_of-requires
change_of-requires c = c.requires.low.0

pub returns-in_err-change-clause-behind : goal.returns-in_err-change-clause-behind
returns-in_err-change-clause-behind c =
    let none = c.in_err-change.ensures {u = tt} in
    record {
      stands = λ t move. absurd (none (t, move));
      grown = λ t move d. absurd (none (t, move));
      still = λ _. c.from_residual.ensures;
      known = subst (λ stone. IfSome stone (λ x. x.0 < length c.args.present.now.places.now)) (sym c.from_residual.ensures) tt;
    }

pub returns-in_err-change-clause-low : goal.returns-in_err-change-clause-low
returns-in_err-change-clause-low c =
    let seen = c.args.present.now in
    subst (λ stone. AreSummed seen.games.now (places_after seen.places.now stone) Black enough c.args.low.now) (sym c.from_residual.ensures) c.requires.low.1

pub returns-in_err-change-clause-high : goal.returns-in_err-change-clause-high
returns-in_err-change-clause-high c =
    let seen = c.args.present.now in
    subst (λ stone. AreSummed seen.games.now (places_after seen.places.now stone) White enough c.args.high.now) (sym c.from_residual.ensures) c.requires.high.1

pub put_change-low-requires-clause-seen : goal.put_change-low-requires-clause-seen
put_change-low-requires-clause-seen c = c.requires.low.0

pub put_change-low-requires-clause-many : goal.put_change-low-requires-clause-many
put_change-low-requires-clause-many c = c.requires.low.1.many

pub put_change-high-requires-clause-seen : goal.put_change-high-requires-clause-seen
put_change-high-requires-clause-seen c = c.requires.low.0

pub put_change-high-requires-clause-many : goal.put_change-high-requires-clause-many
put_change-high-requires-clause-many c = c.requires.high.1.many
