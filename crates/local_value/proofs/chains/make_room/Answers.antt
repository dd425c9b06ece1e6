use Rattle.std.proofs.Common.{◌++◌, ◌∙◌, length, take, drop, arith, ap, sym, subst}
use Rattle.local_value.specs.inner.Chains.{AreChained}
use Rattle.local_value.proofs.ChainLemmas.{written}
use Rattle.local_value.proofs.chains.make_room.Goals as goal

pub returns-then-len-clause-chained : goal.returns-then-len-clause-chained
returns-then-len-clause-chained c = c.requires.chained

pub returns-then-len-clause-slots : goal.returns-then-len-clause-slots
returns-then-len-clause-slots c = omega (arith, c.if-len.true, c.len-2.ensures, c.args.latest.now.ok)

pub returns-in_err-latest-clause-chained : goal.returns-in_err-latest-clause-chained
returns-in_err-latest-clause-chained c = c.requires.chained

pub returns-clause-chained : goal.returns-clause-chained
returns-clause-chained c =
    let latest = c.in_ok-latest.field-0 in
    let links = c.args.links.now in
    let same = written latest.len c.enter_all.new.latest latest.items (omega (arith, c.enter_all.ensures.slots, ap length c.deref_mut.ensures.value, latest.ok)) in
    let same' = written links.len c.enter_all.new.links links.items (omega (arith, c.enter_all.ensures.places, ap length c.deref_mut-2.ensures.value, links.ok)) in
    subst (λ l. AreChained l (take links.len (c.enter_all.new.links ++ drop (length c.enter_all.new.links) links.items))) (sym same)
    (subst (AreChained c.enter_all.new.latest) (sym same') (record { below = c.enter_all.ensures.chained; back = c.enter_all.ensures.links }))

pub returns-clause-places : goal.returns-clause-places
returns-clause-places c =
    let links = c.args.links.now in
    ap length (written links.len c.enter_all.new.links links.items (omega (arith, c.enter_all.ensures.places, ap length c.deref_mut-2.ensures.value, links.ok)))
    ∙ c.enter_all.ensures.places ∙ ap length c.deref_mut-2.ensures.value
