use Rattle.std.proofs.Common.{[], ◌-ℤ◌, ap, subst}
use Rattle.short_games.specs.Sum.{total}
use Rattle.game_store.specs.Meaning.{pick}
use Rattle.endgame_solver.specs.SumGame.{balance}
use Rattle.endgame_solver.specs.Thresholds.{IsLeastWin}
use Rattle.endgame_solver.specs.inner.Thresholds.{IsMargin}
use Rattle.endgame_solver.proofs.MarginLaws.{halves_back, margin_is, modest_games, taken_back}
use Rattle.endgame_solver.proofs.WinningLaws.{held_modest}
use Rattle.endgame_solver.proofs.thresholds.margin.Goals as goal

pub margin_of-requires-clause-games : goal.margin_of-requires-clause-games
margin_of-requires-clause-games c = modest_games c.requires.seen.kept

pub margin_of-requires-clause-purses : goal.margin_of-requires-clause-purses
margin_of-requires-clause-purses c = held_modest c.requires.seen c.purses.ensures

pub returns-clause-margin : goal.returns-clause-margin
returns-clause-margin c =
    let s = c.args.present.now.whole.now in
    let G = total (pick c.args.present.now.store.now c.args.sum.now) in
    let n = c.margin_of.result in
    let least = subst (λ m. IsLeastWin c.args.first G (balance m -ℤ n)) c.purses.ensures c.margin_of.ensures.margin in
    subst (IsMargin s c.args.first []) (halves_back n c.margin_of.ensures.small)
    (margin_is c.requires.seen.kept c.args.first (balance s.purses -ℤ n) n least (taken_back (balance s.purses) n))
