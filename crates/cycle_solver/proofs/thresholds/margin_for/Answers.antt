use Rattle.std.proofs.Common.{[], ◌-ℤ◌, subst}
use Rattle.short_games.specs.Sum.{total}
use Rattle.game_store.specs.Meaning.{pick}
use Rattle.endgame_solver.specs.SumGame.{balance}
use Rattle.endgame_solver.specs.Thresholds.{IsLeastWin}
use Rattle.endgame_solver.proofs.MarginLaws.{halves_back}
use Rattle.cycle_solver.specs.Thresholds.{IsMarginFor}
use Rattle.cycle_solver.proofs.MarginLaws.{margin_is}
use Rattle.cycle_solver.proofs.SumLaws.{held_modest, modest_games}
use Rattle.cycle_solver.proofs.thresholds.margin_for.Goals as goal

pub margin_of-requires-clause-games : goal.margin_of-requires-clause-games
margin_of-requires-clause-games c = let held = c.requires.seen.0 in modest_games held.solved held.at c.args.player (λ k. 255) c.args.sum.now c.requires.seen.1

pub margin_of-requires-clause-purses : goal.margin_of-requires-clause-purses
margin_of-requires-clause-purses c = held_modest c.requires.seen.0 c.purses.ensures

pub returns-clause-margin : goal.returns-clause-margin
returns-clause-margin c = λ d others.
    let held = c.requires.seen.0 in
    let n = c.margin_of.result in
    let G = total (pick c.args.present.now.store.now c.args.sum.now) in
    let least = subst (λ m. IsLeastWin c.args.first G (balance m -ℤ n)) c.purses.ensures c.margin_of.ensures.margin in
    subst (IsMarginFor d c.args.present.now.whole.now c.args.first []) (halves_back n c.margin_of.ensures.small)
    (margin_is held.solved held.at d c.args.sum.now (others c.args.sum.now c.requires.seen.1) c.args.first n least)
