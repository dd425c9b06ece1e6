use Rattle.std.proofs.Common.{◌+◌, ◌≡◌, ◌∙◌, length, arith, ap, sym, subst}
use Rattle.std.proofs.lemmas.List.{length_push}
use Rattle.local_value.specs.inner.Chains.{AreBelow, AreChained}
use Rattle.local_value.proofs.ChainLemmas.{written}
use Rattle.local_value.proofs.chains.add_link.Goals as goal

pub returns-in_err-push-clause-chained : goal.returns-in_err-push-clause-chained
returns-in_err-push-clause-chained c = subst (AreChained c.args.latest.now) (sym c.in_err-push.ensures.items) c.requires.chained

pub enter-requires-clause-slots : goal.enter-requires-clause-slots
enter-requires-clause-slots c = c.requires.slots

pub enter-requires-clause-place : goal.enter-requires-clause-place
enter-requires-clause-place c =
    let pushed : length c.push.new.self.items ≡ length c.args.links.now.items + 1 = ap length c.in_ok-push.ensures.items ∙ length_push c.args.links.now.items _ in
    omega (arith, c.len-place.ensures, c.args.links.now.ok, ap length c.deref_mut.ensures.value, pushed)

pub enter-requires-clause-few : goal.enter-requires-clause-few
enter-requires-clause-few c =
    let pushed : length c.push.new.self.items ≡ length c.args.links.now.items + 1 = ap length c.in_ok-push.ensures.items ∙ length_push c.args.links.now.items _ in
    omega (arith, c.requires.few, ap length c.deref_mut.ensures.value, pushed)

pub enter-requires-clause-latest : goal.enter-requires-clause-latest
enter-requires-clause-latest c =
    let place : c.len-place.result ≡ length c.args.links.now.items = omega (arith, c.len-place.ensures, c.args.links.now.ok) in
    subst (λ n. AreBelow n c.args.latest.now) (sym place) c.requires.chained.below

pub returns-clause-chained : goal.returns-clause-chained
returns-clause-chained c =
    let place : c.len-place.result ≡ length c.args.links.now.items = omega (arith, c.len-place.ensures, c.args.links.now.ok) in
    let long : length c.enter.new.links ≡ c.push.new.self.len = omega (arith, c.enter.ensures.places, ap length c.deref_mut.ensures.value, c.push.new.self.ok) in
    let pushed : length c.push.new.self.items ≡ length c.args.links.now.items + 1 = ap length c.in_ok-push.ensures.items ∙ length_push c.args.links.now.items _ in
    let more : c.len-place.result + 1 ≡ length c.enter.new.links =
    omega (arith, c.enter.ensures.places, ap length c.deref_mut.ensures.value, pushed, place) in
    subst (AreChained c.enter.new.latest) (sym (written c.push.new.self.len c.enter.new.links c.push.new.self.items long))
    (record { below = subst (λ n. AreBelow n c.enter.new.latest) more c.enter.ensures.latest; back = c.enter.ensures.links })

pub returns-clause-slots : goal.returns-clause-slots
returns-clause-slots c = c.enter.ensures.slots

pub returns-clause-more : goal.returns-clause-more
returns-clause-more c =
    let long : length c.enter.new.links ≡ c.push.new.self.len = omega (arith, c.enter.ensures.places, ap length c.deref_mut.ensures.value, c.push.new.self.ok) in
    ap length (written c.push.new.self.len c.enter.new.links c.push.new.self.items long) ∙ c.enter.ensures.places ∙ ap length c.deref_mut.ensures.value
    ∙ ap length c.in_ok-push.ensures.items ∙ length_push c.args.links.now.items _
