use Rattle.std.proofs.Common.{◌∙◌, ap}
use Rattle.go_grid.specs.Board.{other}
use Rattle.cycle_solver.proofs.ChangeLaws.{games_after, one_behind, restored, won_after}
use Rattle.cycle_solver.proofs.changes.wins_after.Goals as goal

pub wins_sum-wins-requires-clause-games : goal.wins_sum-wins-requires-clause-games
wins_sum-wins-requires-clause-games c =
    games_after c.args.present.now c.args.change c.requires.change c.args.player (λ k. 255) c.put_change-before.new.sum
    (c.put_change-before.ensures.put (λ k. 255) (λ k. 255) (one_behind c.args.change.stone 255) c.requires.seen.1)

pub wins_sum-wins-requires-clause-purses : goal.wins_sum-wins-requires-clause-purses
wins_sum-wins-requires-clause-purses c = c.requires.change.1.modest

pub returns-clause-wins : goal.returns-clause-wins
returns-clause-wins c =
    won_after c.args.present.now c.args.change c.requires.change c.args.player c.put_change-before.new.sum
    (c.put_change-before.ensures.put (λ k. 255) (λ k. 255) (one_behind c.args.change.stone 255) c.requires.seen.1)
    (c.other-next.ensures ∙ ap other c.side.ensures) c.wins_sum-wins.ensures.wins

pub returns-clause-same : goal.returns-clause-same
returns-clause-same c =
    restored c.put_change-before.result c.args.sum.now c.put_change-before.new.sum c.wins_sum-wins.new.sum c.put_back.new.sum c.put_change-before.ensures.back
    c.wins_sum-wins.ensures.same c.put_back.ensures
