use Rattle.std.proofs.Common.{◌∙◌, ap, sym, subst}
use Rattle.std.proofs.lemmas.Result.{IfOk-weaker}
use Rattle.game_canon.specs.Comparisons.{AreRight}
use Rattle.game_canon.specs.inner.Comparisons.{recalled}
use Rattle.game_canon.proofs.CanonicalFormLaws.{known-beside, reduced-beside, right-empty}
use Rattle.game_canon.proofs.reduction.reduced.Goals as goal

pub bypass_all-requires-clause-known : goal.bypass_all-requires-clause-known
bypass_all-requires-clause-known c =
    let f = c.games_beside-games.ensures.form in
    let s = c.in_ok-lists.ensures.starts in
    known-beside c.args.store.now c.games_beside-games.result f.0 _ c.in_ok-lists.lists.left.items c.in_ok-lists.lists.right.items
    c.games_beside-games.ensures.store f.1 (f.2 ∙ c.deref.ensures) (f.3 ∙ c.deref-2.ensures) s.same s.among
    (recalled c.nothing_known-beside.result)
    c.args.floor c.args.ceiling c.best_lists.ensures.distinct (right-empty c.args.store.now (recalled c.nothing_known-beside.result)
    c.nothing_known-beside.ensures.unknown)
    (subst (λ m. AreRight c.args.store.now (recalled m)) (sym c.games_beside-games.ensures.earlier) c.best_lists.ensures.memo)
    c.requires.no_number s.start c.requires.floor c.requires.ceiling (ap (λ s. s.floor) f.4) (ap (λ s. s.ceiling) f.4)

pub returns-clause-reduced : goal.returns-clause-reduced
returns-clause-reduced c =
    let f = c.games_beside-games.ensures.form in
    let s = c.in_ok-lists.ensures.starts in
    IfOk-weaker c.bypass_all.result _ _ (λ _. reduced-beside c.args.store.now c.games_beside-games.result f.0 _ c.in_ok-lists.lists.left.items c.in_ok-lists.lists.right.items
    c.games_beside-games.ensures.store f.1 (f.2 ∙ c.deref.ensures) (f.3 ∙ c.deref-2.ensures) s.same s.among _ _) c.bypass_all.ensures
