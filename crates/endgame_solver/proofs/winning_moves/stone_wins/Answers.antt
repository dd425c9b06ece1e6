use Rattle.std.proofs.Common.{◌∙◌, refl, ap}
use Rattle.std.proofs.lemmas.Bool.{both_ways}
use Rattle.whole_rules.specs.Purses.{paid_in}
use Rattle.endgame_solver.proofs.HeldLaws.{some_edge}
use Rattle.endgame_solver.proofs.WinningLaws.{shows_places, stone_bounds, stone_has, stone_known, stone_modest, stone_none, stone_wins}
use Rattle.endgame_solver.proofs.winning_moves.stone_wins.Goals as goal

pub returns-then-not-contested-clause-wins : goal.returns-then-not-contested-clause-wins
returns-then-not-contested-clause-wins c = (
  λ e. absurd (cc),
  λ w. absurd (both_ways c.contested.result c.if-not-contested.true (c.contested.ensures.1 w.1.0)),
)

pub returns-in_default-clause-wins : goal.returns-in_default-clause-wins
returns-in_default-clause-wins c =
    let none = stone_none c.requires.seen refl refl c.side-side.ensures (c.in_default.ensures {u = tt}).edges in
    (λ e. absurd (cc), λ w. absurd (some_edge c.requires.seen.kept c.args.point w.0 w.1 none))

pub stone_edge-requires : goal.stone_edge-requires
stone_edge-requires c = shows_places c.requires.seen refl refl

pub value_seen-requires : goal.value_seen-requires
value_seen-requires c = stone_has c.requires.seen refl refl c.side-side.ensures c.in-Some.ensures.edges

pub balance_of-requires : goal.balance_of-requires
balance_of-requires c = stone_modest c.requires.seen refl refl c.side-side.ensures c.in-Some.ensures.edges c.from.ensures (c.paid_in-purses.ensures ∙ ap (paid_in c.side-side.result c.from.result) c.purses.ensures)

pub loses_with-requires-clause-ids : goal.loses_with-requires-clause-ids
loses_with-requires-clause-ids c = stone_known c.requires.seen refl refl c.side-side.ensures c.in-Some.ensures.edges c.value_seen.ensures

pub loses_with-requires-clause-bounds : goal.loses_with-requires-clause-bounds
loses_with-requires-clause-bounds c = stone_bounds c.requires.seen refl refl c.side-side.ensures c.in-Some.ensures.edges c.value_seen.ensures c.from.ensures
    (c.paid_in-purses.ensures ∙ ap (paid_in c.side-side.result c.from.result) c.purses.ensures) c.balance_of.ensures

pub returns-clause-wins : goal.returns-clause-wins
returns-clause-wins c = stone_wins c.requires.seen refl refl c.side-side.ensures c.in-Some.ensures.edges c.value_seen.ensures c.from.ensures
    (c.paid_in-purses.ensures ∙ ap (paid_in c.side-side.result c.from.result) c.purses.ensures) c.balance_of.ensures c.other.ensures c.loses_with.ensures.answer
