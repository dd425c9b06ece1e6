use Rattle.std.proofs.Common.{sym, ◌∙◌, get_or}
use Rattle.game_calc.specs.inner.Table.{noted, beside}
use Rattle.game_calc.proofs.TableSteps.{adds-start, adds-step, not-none}
use Rattle.game_calc.proofs.pair.add_sums.Goals as goal

pub adding-init : goal.adding-init
adding-init c = adds-start (beside (noted c.args.sums.now) c.args.summand c.args.other) c.args.ids.now c.args.found.now.items

pub unreachable-requires : goal.unreachable-requires
unreachable-requires c = let r = c.requires c.adding.id-index c.adding-test.true in not-none r.0 (beside (noted c.args.sums.now) c.args.summand c.args.other (get_or c.args.ids.now c.adding.id-index 0)) r.1 (sym c.noted_sum.ensures ∙ c.in-None.is)

pub adding-preserved : goal.adding-preserved
adding-preserved c = adds-step (beside (noted c.args.sums.now) c.args.summand c.args.other) c.args.ids.now c.args.found.now.items c.adding.found.items c.push.new.self.items c.adding.id-index c.in-Some.sum c.adding.invariant c.adding-test.true
    (sym c.noted_sum.ensures ∙ c.in-Some.is) c.in_ok-push-in-Some.ensures.items
