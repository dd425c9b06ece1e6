use Rattle.game_store.proofs.EntryLaws.{pick-has}
use Rattle.game_canon.proofs.reversal.first_covered.Goals as goal

pub returns-then-branch-clause-found : goal.returns-then-branch-clause-found
returns-then-branch-clause-found c = (c.requires.ids _ c.loop-id-test.true, pick-has c.args.games.now.store.now c.args.ids.now _ c.loop-id-test.true, c.in_ok-form_covers.ensures.answer.0 c.if-branch.true)
