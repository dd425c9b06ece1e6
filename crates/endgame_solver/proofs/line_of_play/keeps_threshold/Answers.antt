use mir.Syntax.{w64}
use Rattle.std.proofs.Common.{◌∙◌, ◌^◌, ◌-ℤ◌, ◌*ℤ◌, pos, refl, ap}
use Rattle.std.proofs.lemmas.Bool.{both_ways}
use Rattle.std.proofs.lemmas.Int.{to_z-of_z}
use Rattle.whole_rules.specs.Purses.{paid_in}
use Rattle.endgame_solver.specs.SumGame.{balance}
use Rattle.endgame_solver.specs.inner.Line.{last_won}
use Rattle.endgame_solver.proofs.HeldLaws.{some_edge}
use Rattle.endgame_solver.proofs.NextStoneLaws.{cold_keeps_not, hot_keeps, last_bounds, never_keeps, stone_here}
use Rattle.endgame_solver.proofs.WinningLaws.{shows_places, stone_has, stone_is_legal, stone_known, stone_modest, stone_none}
use Rattle.endgame_solver.proofs.line_of_play.keeps_threshold.Goals as goal

pub returns-then-not-contested-clause-keeps : goal.returns-then-not-contested-clause-keeps
returns-then-not-contested-clause-keeps c =
    never_keeps (λ e. cc) (λ legal. both_ways c.contested.result c.if-not-contested.true (c.contested.ensures.1 legal.1.0))

pub returns-in_default-clause-keeps : goal.returns-in_default-clause-keeps
returns-in_default-clause-keeps c =
    let none = stone_none c.requires.seen refl refl c.side-side.ensures (c.in_default.ensures {u = tt}).edges in
    never_keeps (λ e. cc) (λ legal. some_edge c.requires.seen.kept c.args.point legal.0 legal.1 none)

pub stone_edge-requires : goal.stone_edge-requires
stone_edge-requires c = shows_places c.requires.seen refl refl

pub value_seen-requires : goal.value_seen-requires
value_seen-requires c = stone_has c.requires.seen refl refl c.side-side.ensures c.in-Some.ensures.edges

pub returns-then-cold-clause-keeps : goal.returns-then-cold-clause-keeps
returns-then-cold-clause-keeps c =
    cold_keeps_not c.requires.seen refl refl c.side-side.ensures c.in-Some.ensures.edges (λ e. cc) (c.is_number-cold.ensures.0 c.if-cold.true)

pub is_number-cold-requires : goal.is_number-cold-requires
is_number-cold-requires c = stone_here c.requires.seen refl refl c.side-side.ensures c.in-Some.ensures.edges

pub last_balance-requires-clause-modest : goal.last_balance-requires-clause-modest
last_balance-requires-clause-modest c = stone_modest c.requires.seen refl refl c.side-side.ensures c.in-Some.ensures.edges c.from.ensures
    (c.paid_in-purses.ensures ∙ ap (paid_in c.side-side.result c.from.result) c.purses.ensures)

pub loses_with-requires-clause-ids : goal.loses_with-requires-clause-ids
loses_with-requires-clause-ids c = stone_known c.requires.seen refl refl c.side-side.ensures c.in-Some.ensures.edges c.value_seen.ensures

pub loses_with-requires-clause-bounds : goal.loses_with-requires-clause-bounds
loses_with-requires-clause-bounds c =
    let paid = c.paid_in-purses.ensures ∙ ap (paid_in c.side-side.result c.from.result) c.purses.ensures in
    last_bounds c.requires.seen refl refl c.side-side.ensures c.in-Some.ensures.edges c.value_seen.ensures c.from.ensures paid c.other.ensures
    c.args.beyond c.requires.small (stone_modest c.requires.seen refl refl c.side-side.ensures c.in-Some.ensures.edges c.from.ensures paid)
    (c.last_balance.ensures ∙ ap (λ z. (balance c.paid_in-purses.result -ℤ last_won c.side-side.result z) *ℤ pos (2 ^ 59)) (to_z-of_z w64 c.args.beyond c.ranges.beyond))

pub returns-clause-keeps : goal.returns-clause-keeps
returns-clause-keeps c =
    hot_keeps c.requires.seen refl refl c.side-side.ensures c.in-Some.ensures.edges c.value_seen.ensures c.from.ensures
    (c.paid_in-purses.ensures ∙ ap (paid_in c.side-side.result c.from.result) c.purses.ensures) c.other.ensures
    (c.last_balance.ensures ∙ ap (λ z. (balance c.paid_in-purses.result -ℤ last_won c.side-side.result z) *ℤ pos (2 ^ 59)) (to_z-of_z w64 c.args.beyond c.ranges.beyond))
    (λ i. both_ways c.is_number-cold.result c.if-cold.false (c.is_number-cold.ensures.1 i)) c.loses_with.ensures.answer

pub returns-clause-legal : goal.returns-clause-legal
returns-clause-legal c = λ _. stone_is_legal c.requires.seen refl refl c.side-side.ensures c.in-Some.ensures.edges c.value_seen.ensures
