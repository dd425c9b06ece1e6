use Rattle.std.proofs.Common.{◌∙◌, ◌-ℤ◌, ap, arith, refl, subst, sym, [], ◌∷◌}
use Rattle.go_grid.specs.Board.{other}
use Rattle.whole_rules.specs.declared.states.Move.TheVariants.{Stone}
use Rattle.whole_rules.specs.WholeGame.{IsLegal}
use Rattle.whole_rules.specs.Purses.{paid_in}
use Rattle.std.proofs.lemmas.Bool.{both_ways}
use Rattle.endgame_solver.specs.SumGame.{balance}
use Rattle.endgame_solver.specs.inner.Asked.{AreAnswers}
use Rattle.endgame_solver.specs.inner.Thresholds.{IsMargin}
use Rattle.endgame_solver.proofs.HeldLaws.{some_edge}
use Rattle.endgame_solver.proofs.MarginLaws.{halves_back, stone_games, stone_margin}
use Rattle.endgame_solver.proofs.WinningLaws.{shows_places, stone_has, stone_modest, stone_none, stone_seen}
use Rattle.endgame_solver.proofs.asked.stone_margin.Goals as goal

pub returns-then-not-contested-clause-margin : goal.returns-then-not-contested-clause-margin
returns-then-not-contested-clause-margin c = λ w. both_ways c.contested.result c.if-not-contested.true (c.contested.ensures.1 w.1.0)

pub returns-in_default-clause-margin : goal.returns-in_default-clause-margin
returns-in_default-clause-margin c =
    let none = stone_none c.requires.seen refl refl c.side-side.ensures (c.in_default.ensures {u = tt}).edges in
    λ w. some_edge c.requires.seen.kept c.args.point w.0 w.1 none

pub stone_edge-requires : goal.stone_edge-requires
stone_edge-requires c = shows_places c.requires.seen refl refl

pub value_seen-after-requires : goal.value_seen-after-requires
value_seen-after-requires c = stone_has c.requires.seen refl refl c.side-side.ensures c.in-Some.ensures.edges

pub least_after-least-requires-clause-place : goal.least_after-least-requires-clause-place
least_after-least-requires-clause-place c =
    let x = stone_seen c.requires.seen refl refl c.side-side.ensures c.in-Some.ensures.edges in omega (arith, x.known, c.requires.seen.kept.summed.many)

pub least_after-least-requires-clause-games : goal.least_after-least-requires-clause-games
least_after-least-requires-clause-games c = stone_games c.requires.seen refl refl c.side-side.ensures c.in-Some.ensures.edges c.value_seen-after.ensures

pub least_after-least-requires-clause-right : goal.least_after-least-requires-clause-right
least_after-least-requires-clause-right c =
    subst (λ d. AreAnswers c.args.present.now.store.now c.args.sum.now d c.args.answered.now.items) (sym (c.other-first.ensures ∙ ap other c.side-side.ensures)) c.requires.right

pub margin_from-requires-clause-purses : goal.margin_from-requires-clause-purses
margin_from-requires-clause-purses c = stone_modest c.requires.seen refl refl c.side-side.ensures c.in-Some.ensures.edges c.from.ensures
    (c.paid_in-purses.ensures ∙ ap (paid_in c.side-side.result c.from.result) c.purses.ensures)

pub returns-clause-margin : goal.returns-clause-margin
returns-clause-margin c =
    let s = c.args.present.now.whole.now in
    let n = c.margin_from.result in
    let least = c.least_after-least.result in
    let left = c.margin_from.ensures.margin ∙ ap (λ z. balance c.paid_in-purses.result -ℤ z)
    (sym (halves_back least (omega (arith, c.least_after-least.ensures.small)))) in
    subst (λ n. IsLegal s (Stone c.args.point) × IsMargin s s.side (c.args.point ∷ []) n) (halves_back n c.margin_from.ensures.small)
    (stone_margin c.requires.seen refl refl c.side-side.ensures c.in-Some.ensures.edges c.value_seen-after.ensures least n
    c.from.ensures (c.paid_in-purses.ensures ∙ ap (paid_in c.side-side.result c.from.result) c.purses.ensures) c.other-first.ensures
    c.least_after-least.ensures.least left)

pub returns-clause-right : goal.returns-clause-right
returns-clause-right c =
    subst (λ d. AreAnswers c.args.present.now.store.now c.args.sum.now d c.least_after-least.new.answered.items) (c.other-first.ensures ∙ ap other c.side-side.ensures)
    c.least_after-least.ensures.right
