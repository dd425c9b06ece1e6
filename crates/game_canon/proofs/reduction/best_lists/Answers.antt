use Rattle.std.proofs.Common.{sym, subst}
use Rattle.std.specs.Prelude.{IfOk}
use Rattle.game_store.specs.Meaning.{AreIds}
use Rattle.game_canon.specs.Comparisons.{AreRight}
use Rattle.game_canon.specs.inner.Comparisons.{recalled}
use Rattle.game_canon.specs.inner.Sides.{StartsWith}
use Rattle.game_canon.proofs.CanonicalFormLaws.{right-empty}
use Rattle.game_canon.proofs.reduction.best_lists.Goals as goal

pub games_of-stored-requires : goal.games_of-stored-requires
games_of-stored-requires c = right-empty c.args.store.now (recalled c.nothing_known-none.result) c.nothing_known-none.ensures.unknown

pub best_of_both-requires-clause-left : goal.best_of_both-requires-clause-left
best_of_both-requires-clause-left c = subst (λ Us. AreIds Us c.args.left.now) (sym c.games_of-stored.ensures.store) c.requires.left

pub best_of_both-requires-clause-right : goal.best_of_both-requires-clause-right
best_of_both-requires-clause-right c = subst (λ Us. AreIds Us c.args.right.now) (sym c.games_of-stored.ensures.store) c.requires.right

pub returns-clause-starts : goal.returns-clause-starts
returns-clause-starts c = subst (λ Us. IfOk c.best_of_both.result (λ lists. StartsWith Us c.args.left.now c.args.right.now
    lists.left.items lists.right.items)) c.games_of-stored.ensures.store c.best_of_both.ensures.starts

pub best_of_both-requires-clause-known : goal.best_of_both-requires-clause-known
best_of_both-requires-clause-known c = record {
  games_are = c.games_of-stored.ensures.known;
  right = subst (λ Us. AreRight Us (recalled c.args.memo.now)) (sym c.games_of-stored.ensures.trees) c.requires.memo;
}

pub returns-clause-memo : goal.returns-clause-memo
returns-clause-memo c = subst (λ Us. AreRight Us (recalled c.best_of_both.new.memo)) c.games_of-stored.ensures.trees
    c.best_of_both.ensures.known.right
