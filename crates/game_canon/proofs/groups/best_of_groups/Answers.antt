use Rattle.std.proofs.Common.{◌++◌, subst, sym}
use Rattle.game_canon.specs.inner.Sides.{AreBest}
use Rattle.game_canon.proofs.GroupLaws.{best-groups}
use Rattle.game_canon.proofs.groups.best_of_groups.Goals as goal

pub returns-clause-best : goal.returns-clause-best
returns-clause-best c =
    let later = rw c.deref-2.ensures at c.in_ok-extend_from_slice.ensures.ok in
    let best = rw c.deref.ensures at c.in_ok-best.ensures.uncovered in
    subst (AreBest c.args.side c.args.games.now.store.now (c.args.first.now ++ c.args.second.now)) (sym later)
    (best-groups c.args.side c.args.games.now.store.now c.args.first.now c.args.second.now _ _ c.requires.first_free c.requires.second_free c.in_ok-later.ensures.uncovered best)
