use Rattle.std.proofs.Common.{◌≢◌, ◌∙◌, ap, arith}
use Rattle.std.proofs.lemmas.Bool.{both_ways}
use Rattle.go_grid.specs.declared.grid.Colour.TheVariants.{Black, White}
use Rattle.go_grid.specs.Board.{other}
use Rattle.whole_rules.specs.declared.money.Token.TheVariants.{Nobody}
use Rattle.whole_rules.specs.Purses.{halved}
use Rattle.endgame_solver.proofs.WinningLaws.{half_modest, half_wins, held_bounds}
use Rattle.endgame_solver.proofs.outcomes.half_wins.Goals as goal

pub halved-purses-requires-clause-black : goal.halved-purses-requires-clause-black
halved-purses-requires-clause-black c = omega (arith, c.requires.seen.kept.room.room Black, ap (λ m. m.black) c.purses.ensures)

pub halved-purses-requires-clause-white : goal.halved-purses-requires-clause-white
halved-purses-requires-clause-white c = omega (arith, c.requires.seen.kept.room.room White, ap (λ m. m.white) c.purses.ensures)

pub balance_of-requires : goal.balance_of-requires
balance_of-requires c =
    let some : c.args.present.now.whole.now.purses.token ≢ Nobody =
    λ e. both_ways c.is_nobody.result c.if-is_nobody.false (c.is_nobody.ensures.1 (c.token.ensures ∙ e)) in
    half_modest c.requires.seen.kept some (c.halved-purses.ensures ∙ (λ i. halved (c.side-side.ensures i) (c.purses.ensures i)))

pub loses-requires-clause-bounds : goal.loses-requires-clause-bounds
loses-requires-clause-bounds c =
    let some : c.args.present.now.whole.now.purses.token ≢ Nobody =
    λ e. both_ways c.is_nobody.result c.if-is_nobody.false (c.is_nobody.ensures.1 (c.token.ensures ∙ e)) in
    held_bounds c.requires.seen (half_modest c.requires.seen.kept some (c.halved-purses.ensures ∙ (λ i. halved (c.side-side.ensures i) (c.purses.ensures i)))) c.balance_of.ensures

pub returns-clause-wins : goal.returns-clause-wins
returns-clause-wins c =
    let some : c.args.present.now.whole.now.purses.token ≢ Nobody =
    λ e. both_ways c.is_nobody.result c.if-is_nobody.false (c.is_nobody.ensures.1 (c.token.ensures ∙ e)) in
    half_wins c.requires.seen.kept (c.other.ensures ∙ ap other c.side-side.ensures) some
    (c.halved-purses.ensures ∙ (λ i. halved (c.side-side.ensures i) (c.purses.ensures i))) c.balance_of.ensures c.loses.ensures.answer
