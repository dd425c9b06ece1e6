use Rattle.std.proofs.Common.{◌+◌, ◌*◌, ◌≡◌, ◌<◌, ◌≤◌, refl, sym, subst}
use Rattle.game_canon.proofs.ChangedIdLaws.{extends-on}
use Rattle.local_graph.specs.declared.graph.Edge.{Edge}
use Rattle.local_value.specs.Remembered.{side}
use Rattle.local_value.specs.inner.Valuing.{IsAfter, IsNoted, IsWithinAfter, most_units}
use Rattle.local_value.proofs.OptionsLaws.{listing-add, listing-done, step-noted, step-within}
use Rattle.local_value.proofs.values.list_options.Goals as goal

pub value_after-requires : goal.value_after-requires
value_after-requires c =
    let w = c.listing.invariant in
    let it = sym c.get-edge.ensures in
    record {
      noted = subst (λ (e : Edge). IsNoted c.listing.store c.args.ids.now e.next) it (step-noted w.left (subst (λ n. c.listing.number < n) c.len-number-end.ensures c.listing-test.true) c.requires.noted);
      small = subst (IsWithinAfter most_units c.listing.store c.args.ids.now) it
          (step-within w.left (subst (λ n. c.listing.number < n) c.len-number-end.ensures c.listing-test.true) c.requires.noted most_units c.requires.small);
      sums = w.sums;
    }

pub listing-preserved : goal.listing-preserved
listing-preserved c =
    let w = c.listing.invariant in
    let it = c.get-edge.ensures in
    let among = subst (λ n. c.listing.number < n) c.len-number-end.ensures c.listing-test.true in
    let after = subst (λ (e : Edge). IsAfter c.listing.store c.value_after.new.store c.args.ids.now e c.in_ok-after.after) it c.in_ok-after.ensures.value in
    let number = subst (λ (e : Edge). c.in_ok-option.option ≡ 2 * c.in_ok-after.after + side e.colour) it c.in_ok-option.ensures in
    record {
      left = listing-add w.left among c.requires.noted c.value_after.ensures.kept c.in_ok-after.after after c.listing.options c.add.new.self c.in_ok-option.option refl number
          (c.in_ok-add.ensures {u = tt});
      right = listing-add w.right among c.requires.noted c.value_after.ensures.kept c.in_ok-after.after after c.listing.options c.add.new.self c.in_ok-option.option refl number
          (c.in_ok-add.ensures {u = tt});
      sums = c.in_ok-after.ensures.sums;
    }

pub returns : goal.returns
returns c = record {
  options = listing-done (subst (λ n. n ≤ c.listing.number) c.len-number-end.ensures c.listing-test.false) c.listing.invariant.left c.listing.invariant.right;
  sums = c.listing.invariant.sums;
  kept = c.listing.invariant.left.kept;
}

pub returns-in_err-after-clause-kept : goal.returns-in_err-after-clause-kept
returns-in_err-after-clause-kept c = extends-on _ _ _ c.listing.invariant.left.kept c.value_after.ensures.kept

pub returns-in_err-option-clause-kept : goal.returns-in_err-option-clause-kept
returns-in_err-option-clause-kept c = extends-on _ _ _ c.listing.invariant.left.kept c.value_after.ensures.kept
