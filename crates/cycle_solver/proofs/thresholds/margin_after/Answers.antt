use Rattle.std.proofs.Common.{◌∙◌, ◌∷◌, [], ap, arith, set, subst, sym}
use Rattle.go_grid.specs.Board.{other}
use Rattle.endgame_solver.proofs.MarginLaws.{halves_back}
use Rattle.cycle_solver.specs.Thresholds.{IsMarginFor}
use Rattle.cycle_solver.specs.inner.Asked.{AreAnswers}
use Rattle.cycle_solver.proofs.ChangeLaws.{games_after, stone_in_sum, stone_inside, stone_known, summed_still, summed_stone}
use Rattle.cycle_solver.proofs.MarginLaws.{margin_behind}
use Rattle.cycle_solver.proofs.thresholds.margin_after.Goals as goal

pub margin_of-requires-clause-games : goal.margin_of-requires-clause-games
margin_of-requires-clause-games c =
    games_after c.args.present.now c.args.change c.requires.change c.args.player (λ k. 255) c.args.sum.now (summed_still c.in-None.is c.requires.seen.1)

pub margin_of-requires-clause-purses : goal.margin_of-requires-clause-purses
margin_of-requires-clause-purses c = c.requires.change.1.modest

pub returns-in-None-clause-margin : goal.returns-in-None-clause-margin
returns-in-None-clause-margin c = λ d others p change.
    let s = c.args.present.now.whole.now in
    let n = c.margin_of.result in
    subst (IsMarginFor d s s.side (p ∷ [])) (halves_back n c.margin_of.ensures.small)
    (margin_behind c.args.present.now c.args.change d c.args.sum.now (others c.args.sum.now (summed_still c.in-None.is c.requires.seen.1))
    (c.other-next.ensures ∙ ap other c.side.ensures) n c.margin_of.ensures.margin p change)

pub value_with-after-requires-clause-number : goal.value_with-after-requires-clause-number
value_with-after-requires-clause-number c = omega (arith, stone_known c.args.present.now c.args.change c.requires.change c.in-Some.is, c.requires.seen.0.solved.many)

pub value_with-after-requires-clause-place : goal.value_with-after-requires-clause-place
value_with-after-requires-clause-place c =
    stone_inside c.args.present.now c.requires.seen.0 c.args.change c.requires.change c.in-Some.is c.args.player 255

pub asked_margin-requires-clause-place : goal.asked_margin-requires-clause-place
asked_margin-requires-clause-place c =
    stone_in_sum c.args.present.now c.requires.seen.0 c.args.change c.requires.change c.in-Some.is c.requires.seen.1

pub asked_margin-requires-clause-games : goal.asked_margin-requires-clause-games
asked_margin-requires-clause-games c =
    games_after c.args.present.now c.args.change c.requires.change c.args.player (λ k. 255) (set c.args.sum.now c.in-Some.k c.value_with-after.result)
    (summed_stone c.args.present.now c.requires.seen.0 c.args.change c.requires.change c.in-Some.is c.args.player c.requires.seen.1
    c.value_with-after.ensures)

pub asked_margin-requires-clause-purses : goal.asked_margin-requires-clause-purses
asked_margin-requires-clause-purses c = c.requires.change.1.modest

pub asked_margin-requires-clause-right : goal.asked_margin-requires-clause-right
asked_margin-requires-clause-right c =
    subst (λ d. AreAnswers c.args.present.now.store.now c.args.sum.now d c.args.answered.now.items) (sym (c.other-next.ensures ∙ ap other c.side.ensures)) c.requires.right

pub returns-in-Some-clause-margin : goal.returns-in-Some-clause-margin
returns-in-Some-clause-margin c = λ d others p change.
    let s = c.args.present.now.whole.now in
    let n = c.asked_margin.result in
    let ids = set c.args.sum.now c.in-Some.k c.value_with-after.result in
    subst (IsMarginFor d s s.side (p ∷ [])) (halves_back n c.asked_margin.ensures.small)
    (margin_behind c.args.present.now c.args.change d ids
    (others ids (summed_stone c.args.present.now c.requires.seen.0 c.args.change c.requires.change c.in-Some.is c.args.player c.requires.seen.1
    c.value_with-after.ensures))
    (c.other-next.ensures ∙ ap other c.side.ensures) n c.asked_margin.ensures.margin p change)

pub returns-in-Some-clause-right : goal.returns-in-Some-clause-right
returns-in-Some-clause-right c =
    subst (λ d. AreAnswers c.args.present.now.store.now c.args.sum.now d c.asked_margin.new.answered.items) (c.other-next.ensures ∙ ap other c.side.ensures)
    c.asked_margin.ensures.right
