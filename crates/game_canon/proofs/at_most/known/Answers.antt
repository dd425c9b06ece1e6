use Rattle.std.proofs.Common.{sym, Some}
use Rattle.game_canon.specs.inner.Games.{trees}
use Rattle.game_canon.specs.inner.Comparisons.{recalled}
use Rattle.game_canon.proofs.AnswerLaws.{earlier_says, still_open}
use Rattle.game_canon.proofs.at_most.known.Goals as goal

pub returns-in-Some-clause-some : goal.returns-in-Some-clause-some
returns-in-Some-clause-some c = (c.requires.right c.args.a c.args.b c.in-Some.answer c.in-Some.ensures).2

pub returns-in-Some-recall_near-clause-some : goal.returns-in-Some-recall_near-clause-some
returns-in-Some-recall_near-clause-some c = earlier_says c.args.games.now.store.now c.args.games.now.unstored
    (recalled c.args.games.now.earlier.now) c.args.a c.args.b (Some c.in-Some-recall_near.answer) c.requires.games.earlier
    (sym c.in-Some-recall_near.ensures)

pub returns-in-Some-settled-clause-some : goal.returns-in-Some-settled-clause-some
returns-in-Some-settled-clause-some c = c.in-Some-settled.ensures.some

pub returns-in-Some-recall-clause-some : goal.returns-in-Some-recall-clause-some
returns-in-Some-recall-clause-some c = (c.requires.right c.args.a c.args.b c.in-Some-recall.answer (sym c.in-Some-recall.ensures)).2

pub returns-clause-some : goal.returns-clause-some
returns-clause-some c = earlier_says c.args.games.now.store.now c.args.games.now.unstored (recalled c.args.games.now.earlier.now) c.args.a c.args.b c.recall-2.result c.requires.games.earlier c.recall-2.ensures

pub returns-clause-none : goal.returns-clause-none
returns-clause-none c = still_open (trees c.args.games.now) (recalled c.args.memo.now) c.args.a c.args.b c.recall-2.result c.requires.a c.requires.b c.in_default-settled.ensures.first_form c.in_default-settled.ensures.second_form c.in_default-recall.ensures
