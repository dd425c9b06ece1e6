use Rattle.std.proofs.Common.{inr}
use Rattle.short_games.specs.Tree.{tree_at}
use Rattle.game_calc.proofs.ReturnSteps.{stands-has}
use Rattle.game_calc.proofs.returns.is_met.Goals as goal

pub returns : goal.returns
returns c = λ t. inr (c.answers.ensures.options (tree_at c.args.store.now c.args.x) (stands-has c.args.store.now c.answers.result.now c.args.x (c.is_found-2.ensures t)))
