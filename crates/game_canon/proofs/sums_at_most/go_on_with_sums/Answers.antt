use Rattle.std.proofs.Common.{sym, subst, refl}
use Rattle.game_canon.specs.SumComparisons.{IsSumWithin, AreStored}
use Rattle.game_canon.specs.inner.SumComparisons.{AreNumbers}
use Rattle.game_canon.proofs.SumMoveLaws.{resisted_last}
use Rattle.game_canon.proofs.sums_at_most.go_on_with_sums.Goals as goal

pub returns-in_default-next_place : goal.returns-in_default-next_place
returns-in_default-next_place c =
    let Ts = c.args.store.now in
    let same = c.places.invariant.0 in (
      λ _. subst (IsSumWithin Ts) same (
          resisted_last Ts c.places.current c.places.invariant.1 c.in_default.ensures c.len-count.ensures.canonical
          (subst (AreStored Ts) (sym same) c.requires.open.ids) (subst (λ p. AreNumbers Ts p → ⊥) (sym same) c.requires.open.hot) c.in_default-next_place.ensures
          ),
      λ _. refl,
    )
