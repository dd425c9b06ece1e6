use Rattle.std.proofs.Common.{◌↔◌, IsTrue, refl, subst}
use Rattle.short_games.specs.Sum.{total}
use Rattle.game_store.specs.Meaning.{pick}
use Rattle.sum_outcome.specs.Sums.{sum_tree}
use Rattle.endgame_solver.specs.Thresholds.{BlackWins}
use Rattle.endgame_solver.proofs.MarginLaws.{above_wins, below_loses, beside_units, games_bounded, units_of}
use Rattle.endgame_solver.proofs.thresholds.black_wins.Goals as goal

pub returns-then-is_above-clause-wins : goal.returns-then-is_above-clause-wins
returns-then-is_above-clause-wins c = (
  λ _. above_wins c.requires.stops c.args.first c.args.halves (units_of c.args.halves c.requires.halves c.number_of-number.ensures)
      (c.is_above.ensures.0 c.if-is_above.true),
  λ _. refl,
)

pub returns-then-is_below-clause-wins : goal.returns-then-is_below-clause-wins
returns-then-is_below-clause-wins c = (
  λ e. absurd (cc),
  λ w. absurd (below_loses c.requires.stops c.args.first c.args.halves (units_of c.args.halves c.requires.halves c.number_of-number.ensures)
      (c.is_below.ensures.0 c.if-is_below.true) w),
)

pub loses-lost-requires-clause-bounds : goal.loses-lost-requires-clause-bounds
loses-lost-requires-clause-bounds c =
    games_bounded c.args.store.now c.args.sum.now c.args.halves c.number_of-number.result c.requires.games c.requires.halves
    (units_of c.args.halves c.requires.halves c.number_of-number.ensures)

pub returns-clause-wins : goal.returns-clause-wins
returns-clause-wins c =
    let Ts = c.args.store.now in
    let ids = c.args.sum.now in
    let x = c.number_of-number.result in
    subst (λ t. IsTrue c.wins_where.result ↔ BlackWins c.args.first t)
    (beside_units (total (pick Ts ids)) c.args.halves x (units_of c.args.halves c.requires.halves c.number_of-number.ensures))
    (c.wins_where.ensures (sum_tree Ts ids x) c.loses-lost.ensures.answer)
