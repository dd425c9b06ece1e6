use Rattle.std.proofs.Common.{◌<◌, ◌↔◌, length, sym, subst}
use Rattle.std.specs.Prelude.{IsTrue}
use Rattle.std.proofs.lemmas.Result.{IfOk-weaker}
use Rattle.short_games.specs.Tree.{tree_at}
use Rattle.short_games.specs.Order.{◌≤ᵍ◌}
use Rattle.game_canon.specs.inner.Sides.{Covers}
use Rattle.game_canon.specs.inner.Games.{trees, beside}
use Rattle.game_canon.proofs.AnswerLaws.{form-in, stored-above, stored-below}
use Rattle.game_canon.proofs.GameLaws.{in-games}
use Rattle.game_canon.proofs.side.form_covers.Goals as goal

pub at_most-requires-clause-a : goal.at_most-requires-clause-a
at_most-requires-clause-a c = in-games c.args.games.now c.args.id c.requires.id

pub at_most-requires-in-Right-clause-b : goal.at_most-requires-in-Right-clause-b
at_most-requires-in-Right-clause-b c = in-games c.args.games.now c.args.id c.requires.id

pub at_most-requires-clause-b : goal.at_most-requires-clause-b
at_most-requires-clause-b c = subst (λ i. i < length (trees c.args.games.now)) (sym c.len-form.ensures.count) (form-in c.args.games.now.store.now c.args.games.now.unstored c.requires.form)

pub at_most-requires-in-Right-clause-a : goal.at_most-requires-in-Right-clause-a
at_most-requires-in-Right-clause-a c = subst (λ i. i < length (trees c.args.games.now)) (sym c.len-form.ensures.count) (form-in c.args.games.now.store.now c.args.games.now.unstored c.requires.form)

pub returns-in-Left-clause-answer : goal.returns-in-Left-clause-answer
returns-in-Left-clause-answer c =
    let Ts = c.args.games.now.store.now in
    IfOk-weaker c.at_most.result _ _ (λ answer h. subst (λ side. IsTrue answer ↔ Covers side (tree_at Ts c.args.id) (beside c.args.games.now)) (sym c.in-Left.is) (subst (λ i. IsTrue answer ↔ (tree_at Ts c.args.id ≤ᵍ tree_at (trees c.args.games.now) i)) c.len-form.ensures.count (stored-below Ts c.args.games.now.unstored c.args.id _ answer c.requires.id h))) c.at_most.ensures.answer

pub returns-in-Left-clause-known : goal.returns-in-Left-clause-known
returns-in-Left-clause-known c = record { games_are = c.requires.known.games_are; right = c.at_most.ensures.right }

pub returns-in-Right-clause-answer : goal.returns-in-Right-clause-answer
returns-in-Right-clause-answer c =
    let Ts = c.args.games.now.store.now in
    IfOk-weaker c.at_most-in-Right.result _ _ (λ answer h. subst (λ side. IsTrue answer ↔ Covers side (tree_at Ts c.args.id) (beside c.args.games.now)) (sym c.in-Right.is) (subst (λ i. IsTrue answer ↔ (tree_at (trees c.args.games.now) i ≤ᵍ tree_at Ts c.args.id)) c.len-form.ensures.count (stored-above Ts c.args.games.now.unstored _ c.args.id answer c.requires.id h))) c.at_most-in-Right.ensures.answer

pub returns-in-Right-clause-known : goal.returns-in-Right-clause-known
returns-in-Right-clause-known c = record { games_are = c.requires.known.games_are; right = c.at_most-in-Right.ensures.right }
