use Rattle.std.proofs.Common.{◌≡◌, ◌<◌, ◌∙◌, IfSome, ap, arith, length, refl, subst, sym}
use Rattle.whole_rules.specs.WholeGame.{Applies}
use Rattle.cycle_solver.specs.Changes.{places_after}
use Rattle.cycle_solver.specs.Held.{IsKept}
use Rattle.cycle_solver.specs.Keeping.{HasRoom}
use Rattle.cycle_solver.proofs.AskedLaws.{none_answered}
use Rattle.cycle_solver.proofs.SumLaws.{seen_lent}
use Rattle.cycle_solver.proofs.TurnLaws.{length_places, played, refilled}
use Rattle.cycle_solver.proofs.cycle_game.CycleGame.play.Goals as goal

pub invariant_of-self : goal.invariant_of-self
invariant_of-self c =
    let i = c.self.inside in
    let kept = c.self.invariant.0 in
    let lent = c.put_values-stone in
    let seen = seen_lent kept.held kept.low_sum c.deref.ensures.value refl c.deref-2.ensures.value c.deref_mut.ensures.value in
    let room = subst (λ v. HasRoom v.state) (sym c.self.view_is) c.requires.room in
    let done = played seen.0 room lent.ensures.behind lent.ensures.low lent.ensures.high c.apply.result c.apply.ensures in
    let low = refilled c.deref_mut.ensures.value c.deref_mut.ensures.len (lent.ensures.low.many ∙ sym kept.low_sum.many) in
    let high = refilled c.deref_mut-2.ensures.value c.deref_mut-2.ensures.len (lent.ensures.high.many ∙ sym kept.high_sum.many) in
    let many : length c.put_place.new.places ≡ length i.places.items =
    ap length c.put_place.ensures ∙ length_places c.deref_mut-3.result.now lent.result ∙ ap length c.deref_mut-3.ensures.value in
    let places = refilled c.deref_mut-3.ensures.value c.deref_mut-3.ensures.len many ∙ c.put_place.ensures
    ∙ ap (λ ps. places_after ps lent.result) (c.deref_mut-3.ensures.value ∙ sym c.deref-2.ensures.value) in (
      subst (λ T. T) (λ k. IsKept (c.deref.ensures.value k) i.games (sym places k) (sym low k) (sym high k) i.store c.apply.new.self) done,
      c.self.invariant.1,
      none_answered c.clear.ensures.items,
      none_answered c.clear-2.ensures.items,
    )

pub put_values-stone-requires-clause-low : goal.put_values-stone-requires-clause-low
put_values-stone-requires-clause-low c =
    let kept = c.self.invariant.0 in
    seen_lent kept.held kept.low_sum c.deref.ensures.value refl c.deref-2.ensures.value c.deref_mut.ensures.value

pub put_values-stone-requires-clause-high : goal.put_values-stone-requires-clause-high
put_values-stone-requires-clause-high c =
    let kept = c.self.invariant.0 in
    seen_lent kept.held kept.high_sum c.deref.ensures.value refl c.deref-2.ensures.value c.deref_mut-2.ensures.value

pub put_place-requires : goal.put_place-requires
put_place-requires c = record {
  known = subst (λ ps. IfSome c.put_values-stone.result (λ x. x.0 < length ps)) (c.deref-2.ensures.value ∙ sym c.deref_mut-3.ensures.value)
      c.put_values-stone.ensures.behind.known;
}

pub apply-requires-clause-black : goal.apply-requires-clause-black
apply-requires-clause-black c = let room = subst (λ v. HasRoom v.state) (sym c.self.view_is) c.requires.room in omega (arith, room.black)

pub apply-requires-clause-white : goal.apply-requires-clause-white
apply-requires-clause-white c = let room = subst (λ v. HasRoom v.state) (sym c.self.view_is) c.requires.room in omega (arith, room.white)

pub returns-clause-applied : goal.returns-clause-applied
returns-clause-applied c = subst (λ v. Applies v.state c.args.chosen c.apply.new.self c.apply.result) c.self.view_is c.apply.ensures

pub returns-clause-regions : goal.returns-clause-regions
returns-clause-regions c = ap (λ v. v.regions) c.self.view_is

pub returns-clause-trees : goal.returns-clause-trees
returns-clause-trees c = ap (λ v. v.trees) c.self.view_is
