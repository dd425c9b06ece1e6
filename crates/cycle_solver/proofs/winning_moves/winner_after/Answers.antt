use Rattle.std.proofs.Common.{refl, subst, sym}
use Rattle.std.proofs.lemmas.Bool.{both_ways}
use Rattle.go_grid.specs.declared.grid.Colour.TheVariants.{Black}
use Rattle.cycle_solver.specs.Held.{IsSeenFor, enough}
use Rattle.cycle_solver.proofs.OneSumLaws.{one_decides_after}
use Rattle.cycle_solver.proofs.winning_moves.winner_after.Goals as goal

pub returns-then-is_one_behind-clause-winner : goal.returns-then-is_one_behind-clause-winner
returns-then-is_one_behind-clause-winner c =
    let change = c.in_ok-change.ensures {u = tt} in (
      change.legal,
      λ t move. one_decides_after change move (c.is_one_behind.ensures c.if-is_one_behind.true)
          (λ w. both_ways c.wins_behind.result c.if-wins_behind.false ((c.wins_behind.ensures.wins c.args.chosen t change move).1 w)),
    )

pub returns-in_err-change-clause-low : goal.returns-in_err-change-clause-low
returns-in_err-change-clause-low c = refl

pub returns-in_err-change-clause-high : goal.returns-in_err-change-clause-high
returns-in_err-change-clause-high c = refl

pub returns-in_err-change-clause-fits : goal.returns-in_err-change-clause-fits
returns-in_err-change-clause-fits c = c.requires.fits

pub wins_behind-requires-clause-change : goal.wins_behind-requires-clause-change
wins_behind-requires-clause-change c = (c.args.chosen, c.in_ok-change.ensures {u = tt})

pub wins_behind-requires-clause-seen : goal.wins_behind-requires-clause-seen
wins_behind-requires-clause-seen c = c.requires.low

pub wins_behind-requires-clause-fits : goal.wins_behind-requires-clause-fits
wins_behind-requires-clause-fits c = c.requires.fits

pub wins_behind-requires-clause-right : goal.wins_behind-requires-clause-right
wins_behind-requires-clause-right c = c.requires.low_right

pub returns-then-wins_behind-clause-winner : goal.returns-then-wins_behind-clause-winner
returns-then-wins_behind-clause-winner c =
    let change = c.in_ok-change.ensures {u = tt} in
    (change.legal, λ t move. (c.wins_behind.ensures.wins c.args.chosen t change move).0 c.if-wins_behind.true)

pub returns-then-wins_behind-clause-low : goal.returns-then-wins_behind-clause-low
returns-then-wins_behind-clause-low c = c.wins_behind.ensures.same

pub returns-then-wins_behind-clause-high : goal.returns-then-wins_behind-clause-high
returns-then-wins_behind-clause-high c = refl

pub returns-then-wins_behind-clause-fits : goal.returns-then-wins_behind-clause-fits
returns-then-wins_behind-clause-fits c = c.wins_behind.ensures.fits

pub is_one_behind-requires-clause-low : goal.is_one_behind-requires-clause-low
is_one_behind-requires-clause-low c = subst (IsSeenFor c.args.present.now Black enough) (sym c.wins_behind.ensures.same) c.requires.low

pub is_one_behind-requires-clause-high : goal.is_one_behind-requires-clause-high
is_one_behind-requires-clause-high c = c.requires.high

pub is_one_behind-requires-clause-change : goal.is_one_behind-requires-clause-change
is_one_behind-requires-clause-change c = (c.args.chosen, c.in_ok-change.ensures {u = tt})

pub returns-then-is_one_behind-clause-low : goal.returns-then-is_one_behind-clause-low
returns-then-is_one_behind-clause-low c = c.wins_behind.ensures.same

pub returns-then-is_one_behind-clause-high : goal.returns-then-is_one_behind-clause-high
returns-then-is_one_behind-clause-high c = refl

pub returns-then-is_one_behind-clause-fits : goal.returns-then-is_one_behind-clause-fits
returns-then-is_one_behind-clause-fits c = c.wins_behind.ensures.fits

pub wins_behind-requires-2-clause-change : goal.wins_behind-requires-2-clause-change
wins_behind-requires-2-clause-change c = (c.args.chosen, c.in_ok-change.ensures {u = tt})

pub wins_behind-requires-2-clause-seen : goal.wins_behind-requires-2-clause-seen
wins_behind-requires-2-clause-seen c = c.requires.high

pub wins_behind-requires-2-clause-fits : goal.wins_behind-requires-2-clause-fits
wins_behind-requires-2-clause-fits c = c.wins_behind.ensures.fits

pub wins_behind-requires-2-clause-right : goal.wins_behind-requires-2-clause-right
wins_behind-requires-2-clause-right c = c.requires.high_right

pub returns-then-wins_behind-2-clause-winner : goal.returns-then-wins_behind-2-clause-winner
returns-then-wins_behind-2-clause-winner c =
    let change = c.in_ok-change.ensures {u = tt} in
    (change.legal, λ t move. (c.wins_behind-2.ensures.wins c.args.chosen t change move).0 c.if-wins_behind-2.true)

pub returns-then-wins_behind-2-clause-low : goal.returns-then-wins_behind-2-clause-low
returns-then-wins_behind-2-clause-low c = c.wins_behind.ensures.same

pub returns-then-wins_behind-2-clause-high : goal.returns-then-wins_behind-2-clause-high
returns-then-wins_behind-2-clause-high c = c.wins_behind-2.ensures.same

pub returns-then-wins_behind-2-clause-fits : goal.returns-then-wins_behind-2-clause-fits
returns-then-wins_behind-2-clause-fits c = c.wins_behind-2.ensures.fits

pub returns-clause-low : goal.returns-clause-low
returns-clause-low c = c.wins_behind.ensures.same

pub returns-clause-high : goal.returns-clause-high
returns-clause-high c = c.wins_behind-2.ensures.same

pub returns-clause-fits : goal.returns-clause-fits
returns-clause-fits c = c.wins_behind-2.ensures.fits
