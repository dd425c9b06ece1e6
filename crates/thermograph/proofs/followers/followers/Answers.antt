use Rattle.std.proofs.Common.{◌<◌, ◌≤◌, ◌+◌, ◌∙◌, ◌++◌, take, drop, false, sym, ◌-◌, length, arith, ap, refl, true, set, subst, List, Bool}
use Rattle.std.proofs.Math.Seq.{take-append_seam}
use Rattle.std.proofs.lemmas.List.{get_or_default}
use Rattle.thermograph.specs.inner.Flags.{AreAdded, IsInnerId, AreFollowers}
use Rattle.thermograph.proofs.FlagLaws.{following-start, following-step}
use Rattle.thermograph.proofs.followers.followers.Goals as goal

pub overflow_add-count : goal.overflow_add-count
overflow_add-count c = omega (arith, c.requires, c.len-count.ensures.count)

pub flagging-init : goal.flagging-init
flagging-init c =
    let made = c.in_ok-flags.ensures.items_if_clones_equal (λ y e. e) in
    let f = following-start c.args.store.now c.args.id (c.args.id + 1) _ refl (ap (λ xs. set xs c.args.id true) made) in
    (omega (arith, f.size), f)

pub flagging-preserved-then-index : goal.flagging-preserved-then-index
flagging-preserved-then-index c =
    let short : c.flagging.place - 1 < length c.flagging.flags.items = omega (arith, c.flagging-test.true, c.flagging.invariant.0) in
    let added = subst (λ (xs : List Bool). AreAdded (IsInnerId c.args.store.now (c.flagging.place - 1)) xs c.flag_options.new.flags) c.deref_mut.ensures.value c.flag_options.ensures in
    let after = drop (length c.flag_options.new.flags) c.flagging.flags.items in
    let whole = ap (λ m. take m (c.flag_options.new.flags ++ after)) (c.flagging.flags.ok.0 ∙ sym added.size) ∙ take-append_seam c.flag_options.new.flags after in
    let f = following-step c.args.store.now c.args.id c.flagging.place (c.flagging.place - 1) c.flagging.flags.items c.flag_options.new.flags c.flagging.invariant.1 (omega (arith, c.flagging-test.true)) c.flagging.invariant.0
    (get_or_default c.flagging.flags.items (c.flagging.place - 1) false c.index.result.now short ∙ sym c.index.ensures ∙ c.if-index.true) added in
    subst (λ (xs : List Bool). (c.flagging.place - 1 ≤ length xs) × AreFollowers c.args.store.now c.args.id (c.flagging.place - 1) xs) (sym whole) (omega (arith, short, added.size), f)
