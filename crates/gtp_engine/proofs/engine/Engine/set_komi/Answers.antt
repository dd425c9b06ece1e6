use Rattle.std.proofs.Common.{ap, arith, of_z, to_z, w64, ◌∙◌}
use Rattle.std.proofs.lemmas.Int.{ints, to_z-of_z}
use Rattle.gtp_engine.specs.inner.Doing.{with_table}
use Rattle.gtp_engine.proofs.OrderLemmas.{komi_refused, komi_taken}
use Rattle.gtp_engine.proofs.engine.Engine.set_komi.Goals as goal

pub set_komi-requires : goal.set_komi-requires
set_komi-requires c = omega (arith, ints, c.requires.0, c.requires.1)

pub returns-then-is_running-clause-set : goal.returns-then-is_running-clause-set
returns-then-is_running-clause-set c = komi_refused c.args.self.now c.args.halves c.args.id.now c.in_ok-reply.reply (c.is_running.ensures.running c.if-is_running.true) c.in_ok-reply.ensures

pub returns-clause-set : goal.returns-clause-set
returns-clause-set c =
    let inside = c.self.inside in let kept = to_z w64 (of_z w64 c.args.halves) in
    komi_taken c.args.self.now _ c.args.halves kept c.args.id.now c.in_ok-reply-2.reply (c.is_running.ensures.fresh c.if-is_running.false) (to_z-of_z w64 c.args.halves c.ranges.halves)
    (ap (λ s. record { limits = inside.limits; table = record { setup = s; game = inside.game }; loads = inside.loads }) c.set_komi.ensures
    ∙ ap (λ a. with_table a (record { setup = record a.table.setup { komi_halves = kept }; game = a.table.game })) c.self.view_is) c.in_ok-reply-2.ensures
