use Rattle.std.proofs.Common.{◌↔◌, ◌∙◌, IsTrue, ap, arith, refl, set, subst, sym}
use Rattle.std.proofs.lemmas.Bool.{both_ways}
use Rattle.whole_rules.specs.Purses.{paid_in}
use Rattle.short_games.specs.Sum.{total}
use Rattle.game_store.specs.Meaning.{pick}
use Rattle.go_grid.specs.Board.{other}
use Rattle.game_players.specs.Players.{LosesGame}
use Rattle.endgame_solver.specs.SumGame.{balance}
use Rattle.endgame_solver.specs.inner.Asked.{AreAnswers}
use Rattle.endgame_solver.proofs.HeldLaws.{some_edge}
use Rattle.endgame_solver.proofs.MarginLaws.{beside_units, in_units, stone_games}
use Rattle.endgame_solver.proofs.WinningLaws.{shows_places, stone_has, stone_is_legal, stone_modest, stone_none, stone_seen, stone_wins}
use Rattle.endgame_solver.proofs.outcomes.stone_outcome.Goals as goal

pub returns-then-not-contested-clause-wins : goal.returns-then-not-contested-clause-wins
returns-then-not-contested-clause-wins c = λ w. both_ways c.contested.result c.if-not-contested.true (c.contested.ensures.1 w.1.0)

pub returns-in_default-clause-wins : goal.returns-in_default-clause-wins
returns-in_default-clause-wins c =
    let none = stone_none c.requires.seen refl refl c.side-side.ensures (c.in_default.ensures {u = tt}).edges in
    λ w. some_edge c.requires.seen.kept c.args.point w.0 w.1 none

pub stone_edge-requires : goal.stone_edge-requires
stone_edge-requires c = shows_places c.requires.seen refl refl

pub value_seen-after-requires : goal.value_seen-after-requires
value_seen-after-requires c = stone_has c.requires.seen refl refl c.side-side.ensures c.in-Some.ensures.edges

pub loses_after-lost-requires-clause-place : goal.loses_after-lost-requires-clause-place
loses_after-lost-requires-clause-place c =
    let x = stone_seen c.requires.seen refl refl c.side-side.ensures c.in-Some.ensures.edges in omega (arith, x.known, c.requires.seen.kept.summed.many)

pub loses_after-lost-requires-clause-games : goal.loses_after-lost-requires-clause-games
loses_after-lost-requires-clause-games c = stone_games c.requires.seen refl refl c.side-side.ensures c.in-Some.ensures.edges c.value_seen-after.ensures

pub loses_after-lost-requires-clause-purses : goal.loses_after-lost-requires-clause-purses
loses_after-lost-requires-clause-purses c = stone_modest c.requires.seen refl refl c.side-side.ensures c.in-Some.ensures.edges c.from.ensures
    (c.paid_in-purses.ensures ∙ ap (paid_in c.side-side.result c.from.result) c.purses.ensures)

pub loses_after-lost-requires-clause-right : goal.loses_after-lost-requires-clause-right
loses_after-lost-requires-clause-right c =
    subst (λ d. AreAnswers c.args.present.now.store.now c.args.sum.now d c.args.answered.now) (sym (c.other-first.ensures ∙ ap other c.side-side.ensures)) c.requires.right

pub returns-clause-wins : goal.returns-clause-wins
returns-clause-wins c =
    let seen = c.requires.seen in
    let found = c.in-Some.ensures.edges in
    let b = balance c.paid_in-purses.result in
    let G = total (pick c.args.present.now.store.now (set c.args.sum.now c.in-Some.k c.value_seen-after.result)) in (
      stone_is_legal seen refl refl c.side-side.ensures found c.value_seen-after.ensures,
      stone_wins seen refl refl c.side-side.ensures found c.value_seen-after.ensures c.from.ensures
          (c.paid_in-purses.ensures ∙ ap (paid_in c.side-side.result c.from.result) c.purses.ensures) refl c.other-first.ensures
          (subst (λ t. IsTrue c.loses_after-lost.result ↔ LosesGame c.other-first.result t) (sym (beside_units G b (in_units b) refl)) c.loses_after-lost.ensures.answer),
    )
