use Rattle.std.proofs.Common.{◌∙◌, ap, get_or, subst, sym}
use Rattle.go_grid.specs.Board.{other}
use Rattle.cycle_solver.specs.Changes.{places_after, budgets_after}
use Rattle.cycle_solver.specs.Held.{AreSummedWith}
use Rattle.cycle_solver.proofs.ChangeLaws.{games_after, restored}
use Rattle.cycle_solver.proofs.KeepingLaws.{keeps_none, keeps_told, known_in, list_behind}
use Rattle.cycle_solver.proofs.keeping_moves.change_keeps.Goals as goal

pub left_behind-requires : goal.left_behind-requires
left_behind-requires c = record { known = known_in c.args.present.now c.args.change c.requires.change.1.known c.args.budgets.now c.requires.many }

pub returns-in_default-clause-keeps : goal.returns-in_default-clause-keeps
returns-in_default-clause-keeps c = λ m change.
    let none = c.in_default.ensures in
    (λ e. absurd cc, λ keeps. absurd (keeps_none c.args.present.now c.args.change m change c.args.budgets.now c.requires.many none keeps))

pub wins_sum-wins-requires-clause-games : goal.wins_sum-wins-requires-clause-games
wins_sum-wins-requires-clause-games c =
    games_after c.args.present.now c.args.change c.requires.change c.side-side.result
    (λ k. get_or (budgets_after c.args.budgets.now c.args.change.stone c.in-Some.left) k 0) c.put_change-before.new.sum summed
  where
    summed : AreSummedWith c.args.present.now.games.now (places_after c.args.present.now.places.now c.args.change.stone) c.side-side.result
        (budgets_after c.args.budgets.now c.args.change.stone c.in-Some.left) c.put_change-before.new.sum
    summed = c.put_change-before.ensures.put (λ k. get_or c.args.budgets.now k 0)
        (λ k. get_or (budgets_after c.args.budgets.now c.args.change.stone c.in-Some.left) k 0)
        (list_behind c.args.budgets.now c.args.change.stone c.in-Some.left
        (known_in c.args.present.now c.args.change c.requires.change.1.known c.args.budgets.now c.requires.many))
        (subst (λ d. AreSummedWith c.args.present.now.games.now c.args.present.now.places.now d c.args.budgets.now c.args.sum.now) (sym c.side-side.ensures)
        c.requires.summed)

pub wins_sum-wins-requires-clause-purses : goal.wins_sum-wins-requires-clause-purses
wins_sum-wins-requires-clause-purses c = c.requires.change.1.modest

pub returns-clause-keeps : goal.returns-clause-keeps
returns-clause-keeps c = λ m change.
    let seen = c.args.present.now in
    let stone = c.args.change.stone in
    let bs = c.args.budgets.now in
    let after = budgets_after bs stone c.in-Some.left in
    let known = known_in seen c.args.change c.requires.change.1.known bs c.requires.many in
    let summed : AreSummedWith seen.games.now (places_after seen.places.now stone) seen.whole.now.side after c.put_change-before.new.sum =
    subst (λ d. AreSummedWith seen.games.now (places_after seen.places.now stone) d after c.put_change-before.new.sum) c.side-side.ensures
    (c.put_change-before.ensures.put (λ k. get_or bs k 0) (λ k. get_or after k 0) (list_behind bs stone c.in-Some.left known)
    (subst (λ d. AreSummedWith seen.games.now seen.places.now d bs c.args.sum.now) (sym c.side-side.ensures) c.requires.summed)) in
    keeps_told seen c.args.change m change bs c.requires.many c.in-Some.left c.in-Some.ensures c.put_change-before.new.sum summed
    (c.other-next.ensures ∙ ap other c.side-side.ensures) c.side-side.ensures c.wins_sum-wins.ensures.wins

pub returns-clause-same : goal.returns-clause-same
returns-clause-same c =
    restored c.put_change-before.result c.args.sum.now c.put_change-before.new.sum c.wins_sum-wins.new.sum c.put_back.new.sum c.put_change-before.ensures.back
    c.wins_sum-wins.ensures.same c.put_back.ensures
