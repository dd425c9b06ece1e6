use Rattle.std.proofs.Common.{get_or}
use Rattle.short_games.specs.Tree.{tree_at}
use Rattle.game_store.proofs.EntryLaws.{pick-has}
use Rattle.sum_outcome.proofs.incentives.has_preferred.Goals as goal

pub returns-then-is_preferred-clause-answer : goal.returns-then-is_preferred-clause-answer
returns-then-is_preferred-clause-answer c =
    let Ts = c.args.store.now in
    let Y = tree_at Ts (get_or c.moves-options.result.now c.options.option-index 0) in
    λ _. (
      Y,
      (c.moves-options.ensures.options Y).0 (pick-has Ts c.moves-options.result.now c.options.option-index c.options-test.true),
      c.is_preferred.ensures.good c.if-is_preferred.true,
      c.is_preferred.ensures.better c.if-is_preferred.true,
    )
