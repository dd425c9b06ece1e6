use Rattle.std.proofs.Common.{◌≤◌, ◌∙◌, ap, arith}
use Rattle.go_grid.specs.Board.{other}
use Rattle.whole_rules.specs.Purses.{purse, paid_out}
use Rattle.endgame_solver.proofs.WinningLaws.{held_bounds, held_spent, spend_wins}
use Rattle.endgame_solver.proofs.winning_moves.spend_wins.Goals as goal

pub balance_of-requires : goal.balance_of-requires
balance_of-requires c = held_spent c.requires.seen c.side-side.result (c.paid_out-purses.ensures ∙ ap (paid_out c.side-side.result) c.purses.ensures)

pub loses-requires-clause-bounds : goal.loses-requires-clause-bounds
loses-requires-clause-bounds c = held_bounds c.requires.seen (held_spent c.requires.seen c.side-side.result (c.paid_out-purses.ensures ∙ ap (paid_out c.side-side.result) c.purses.ensures)) c.balance_of.ensures

pub returns-clause-wins : goal.returns-clause-wins
returns-clause-wins c =
    let s = c.args.present.now.whole.now in
    let purses = c.paid_out-purses.ensures ∙ (λ i. paid_out (c.side-side.ensures i) (c.purses.ensures i)) in
    let purse_is = c.purse.ensures ∙ ap (λ d. purse d s.purses) c.side-side.ensures in
    let one : 1 ≤ purse s.side s.purses = omega (arith, c.if-purse-eq0.false, purse_is) in
    spend_wins c.requires.seen.kept (c.other.ensures ∙ ap other c.side-side.ensures) one purses c.balance_of.ensures c.loses.ensures.answer
