use Rattle.short_games.specs.Tree.{tree_at}
use Rattle.short_games.specs.Parts.IsFollower.{itself}
use Rattle.game_calc.proofs.ReturnSteps.{right-follower, stands-has}
use Rattle.game_calc.proofs.returns.candidate.Goals as goal

pub returns-in-Some-clause-follower : goal.returns-in-Some-clause-follower
returns-in-Some-clause-follower c =
    let X = tree_at c.args.store.now c.in-Some.id in
    right-follower (tree_at c.args.store.now c.args.latest) X (c.answers.ensures.options X (stands-has c.args.store.now c.answers.result.now c.in-Some.id c.in-Some.ensures))

pub returns-in-None-clause-follower : goal.returns-in-None-clause-follower
returns-in-None-clause-follower c = itself (tree_at c.args.store.now c.args.latest)
