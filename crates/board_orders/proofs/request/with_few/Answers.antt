use Rattle.std.specs.Prelude.{IfNone, IfSome}
use Rattle.std.proofs.Common.{subst}
use Rattle.board_orders.specs.Orders.{BoardOrder, FitsFew}
use Rattle.board_orders.specs.Viewed.{order_of}
use Rattle.board_orders.proofs.ArgumentLemmas.{none_of, one_of, too_many, three_of, two_of}
use Rattle.board_orders.proofs.request.with_few.Goals as goal

pub returns-in-empty-clause-some : goal.returns-in-empty-clause-some
returns-in-empty-clause-some c = subst (λ words. IfSome c.alone.result (λ request. FitsFew c.args.command words (order_of request))) (none_of (λ w. w.now) c.args.arguments.now c.in-empty.len_below) c.alone.ensures.some

pub returns-in-empty-clause-none : goal.returns-in-empty-clause-none
returns-in-empty-clause-none c = subst (λ words. IfNone c.alone.result ((order : BoardOrder) → ¬ FitsFew c.args.command words order)) (none_of (λ w. w.now) c.args.arguments.now c.in-empty.len_below) c.alone.ensures.none

pub returns-in-len1-clause-some : goal.returns-in-len1-clause-some
returns-in-len1-clause-some c = subst (λ words. IfSome c.with_one.result (λ request. FitsFew c.args.command words (order_of request))) (one_of (λ w. w.now) c.args.arguments.now _ c.in-len1.len_at_least c.in-len1.len_below) c.with_one.ensures.some

pub returns-in-len1-clause-none : goal.returns-in-len1-clause-none
returns-in-len1-clause-none c = subst (λ words. IfNone c.with_one.result ((order : BoardOrder) → ¬ FitsFew c.args.command words order)) (one_of (λ w. w.now) c.args.arguments.now _ c.in-len1.len_at_least c.in-len1.len_below) c.with_one.ensures.none

pub returns-in-len2-clause-some : goal.returns-in-len2-clause-some
returns-in-len2-clause-some c = subst (λ words. IfSome c.with_two.result (λ request. FitsFew c.args.command words (order_of request))) (two_of (λ w. w.now) c.args.arguments.now _ _ c.in-len2.len_at_least c.in-len2.len_below) c.with_two.ensures.some

pub returns-in-len2-clause-none : goal.returns-in-len2-clause-none
returns-in-len2-clause-none c = subst (λ words. IfNone c.with_two.result ((order : BoardOrder) → ¬ FitsFew c.args.command words order)) (two_of (λ w. w.now) c.args.arguments.now _ _ c.in-len2.len_at_least c.in-len2.len_below) c.with_two.ensures.none

pub returns-in-len3-clause-some : goal.returns-in-len3-clause-some
returns-in-len3-clause-some c = subst (λ words. IfSome c.with_three.result (λ request. FitsFew c.args.command words (order_of request))) (three_of (λ w. w.now) c.args.arguments.now _ _ _ c.in-len3.len_at_least c.in-len3.len_below) c.with_three.ensures.some

pub returns-in-len3-clause-none : goal.returns-in-len3-clause-none
returns-in-len3-clause-none c = subst (λ words. IfNone c.with_three.result ((order : BoardOrder) → ¬ FitsFew c.args.command words order)) (three_of (λ w. w.now) c.args.arguments.now _ _ _ c.in-len3.len_at_least c.in-len3.len_below) c.with_three.ensures.none

pub returns-in_default-clause-some : goal.returns-in_default-clause-some
returns-in_default-clause-some c = tt

pub returns-in_default-clause-none : goal.returns-in_default-clause-none
returns-in_default-clause-none c order fits = too_many (λ w. w.now) c.args.command c.args.arguments.now order c.in_default.len_at_least fits
