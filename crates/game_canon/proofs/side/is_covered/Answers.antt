use Rattle.std.proofs.Common.{◌↔◌, sym, subst}
use Rattle.std.specs.Prelude.{IsTrue}
use Rattle.std.proofs.lemmas.Result.{IfOk-weaker}
use Rattle.short_games.specs.Tree.{tree_at}
use Rattle.game_canon.specs.inner.Sides.{Covers}
use Rattle.game_canon.proofs.AnswerLaws.{stored-says}
use Rattle.game_canon.proofs.GameLaws.{in-games}
use Rattle.game_canon.proofs.side.is_covered.Goals as goal

pub at_most-requires-clause-a : goal.at_most-requires-clause-a
at_most-requires-clause-a c = in-games c.args.games.now c.args.a c.requires.a

pub at_most-requires-clause-b : goal.at_most-requires-clause-b
at_most-requires-clause-b c = in-games c.args.games.now c.args.b c.requires.b

pub at_most-requires-in-Right-clause-a : goal.at_most-requires-in-Right-clause-a
at_most-requires-in-Right-clause-a c = in-games c.args.games.now c.args.b c.requires.b

pub at_most-requires-in-Right-clause-b : goal.at_most-requires-in-Right-clause-b
at_most-requires-in-Right-clause-b c = in-games c.args.games.now c.args.a c.requires.a

pub returns-in-Left-clause-answer : goal.returns-in-Left-clause-answer
returns-in-Left-clause-answer c =
    let Ts = c.args.games.now.store.now in
    IfOk-weaker c.at_most.result _ _ (λ answer h. subst (λ side. IsTrue answer ↔ Covers side (tree_at Ts c.args.a) (tree_at Ts c.args.b)) (sym c.in-Left.is) (stored-says Ts c.args.games.now.unstored c.args.a c.args.b answer c.requires.a c.requires.b h)) c.at_most.ensures.answer

pub returns-in-Left-clause-known : goal.returns-in-Left-clause-known
returns-in-Left-clause-known c = record { games_are = c.requires.known.games_are; right = c.at_most.ensures.right }

pub returns-in-Right-clause-answer : goal.returns-in-Right-clause-answer
returns-in-Right-clause-answer c =
    let Ts = c.args.games.now.store.now in
    IfOk-weaker c.at_most-in-Right.result _ _ (λ answer h. subst (λ side. IsTrue answer ↔ Covers side (tree_at Ts c.args.a) (tree_at Ts c.args.b)) (sym c.in-Right.is) (stored-says Ts c.args.games.now.unstored c.args.b c.args.a answer c.requires.b c.requires.a h)) c.at_most-in-Right.ensures.answer

pub returns-in-Right-clause-known : goal.returns-in-Right-clause-known
returns-in-Right-clause-known c = record { games_are = c.requires.known.games_are; right = c.at_most-in-Right.ensures.right }
