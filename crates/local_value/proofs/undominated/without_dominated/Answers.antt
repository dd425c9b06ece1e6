use Rattle.std.proofs.Common.{◌+◌, get_or, sym, subst}
use Rattle.local_value.specs.inner.Options.{IsLed}
use Rattle.local_value.proofs.UndominatedLemmas.{AreKept, kept-none, kept-skip, kept-push, kept-enough}
use Rattle.local_value.proofs.undominated.without_dominated.Goals as goal

pub loop-option-init : goal.loop-option-init
loop-option-init c = subst (AreKept c.args.store.now c.args.options.now c.leader.result c.leader-2.result 0) (sym (c.in_ok-kept.ensures {u = tt}).items)
    (kept-none c.args.store.now c.args.options.now c.leader.result c.leader-2.result)

pub loop-option-preserved-then-is_dominated : goal.loop-option-preserved-then-is_dominated
loop-option-preserved-then-is_dominated c =
    let Ts = c.args.store.now in
    let os = c.args.options.now in
    let k = c.loop-option.option-index in
    kept-skip Ts os c.leader.result c.leader-2.result k c.loop-option.kept.items c.loop-option.invariant c.loop-option-test.true
    c.player_of-player.result c.player_of-player.ensures
    (subst (λ m. IsLed c.player_of-player.result Ts m (get_or os k 0)) c.of.ensures (c.is_dominated.ensures c.if-is_dominated.true))

pub loop-option-preserved : goal.loop-option-preserved
loop-option-preserved c =
    let Ts = c.args.store.now in
    let os = c.args.options.now in
    let k = c.loop-option.option-index in
    subst (AreKept Ts os c.leader.result c.leader-2.result (k + 1)) (sym (c.in_ok-push.ensures {u = tt}).items)
    (kept-push Ts os c.leader.result c.leader-2.result k c.loop-option.kept.items c.loop-option.invariant c.loop-option-test.true c.requires.once)

pub returns-clause-enough : goal.returns-clause-enough
returns-clause-enough c = kept-enough c.args.store.now c.args.options.now c.leader.result c.leader-2.result c.loop-option.option-index c.loop-option.kept.items
    c.loop-option.invariant c.loop-option-test.false c.leader.ensures c.leader-2.ensures
