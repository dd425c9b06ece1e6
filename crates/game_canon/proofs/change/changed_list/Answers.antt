use Rattle.std.proofs.Common.{sym, ◌∙◌, get_or, arith}
use Rattle.game_canon.specs.inner.Changes.{noted}
use Rattle.game_canon.proofs.ChangedIdLaws.{not-none, mapping-start, mapping-push, mapping-end}
use Rattle.game_canon.proofs.change.changed_list.Goals as goal

pub loop-id-init : goal.loop-id-init
loop-id-init c = mapping-start (noted c.args.changed.now.ids.now c.args.changed.now.afters.now) c.args.ids.now c.new-found.result.items c.new-found.ensures.items

pub unreachable-requires : goal.unreachable-requires
unreachable-requires c = let r = c.requires.known c.loop-id.id-index c.loop-id-test.true in
    not-none r.0 (noted c.args.changed.now.ids.now c.args.changed.now.afters.now (get_or c.args.ids.now c.loop-id.id-index 0)) r.1 (sym c.after_of.ensures ∙ c.in-None.is)

pub loop-id-preserved : goal.loop-id-preserved
loop-id-preserved c = mapping-push (noted c.args.changed.now.ids.now c.args.changed.now.afters.now) c.args.ids.now c.loop-id.found.items c.push.new.self.items c.loop-id.id-index c.in-Some.after c.loop-id.invariant c.loop-id-test.true
    (sym c.after_of.ensures ∙ c.in-Some.is) c.in_ok-push-in-Some.ensures.ok

pub returns : goal.returns
returns c = mapping-end (noted c.args.changed.now.ids.now c.args.changed.now.afters.now) c.args.ids.now c.loop-id.found.items c.arrange.new.ids.items c.loop-id.id-index c.loop-id.invariant (omega (arith, c.loop-id-test.false)) c.arrange.ensures
