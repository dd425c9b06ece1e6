use Rattle.std.proofs.Common.{refl, sym, ◌∙◌}
use Rattle.std.proofs.lemmas.Bool.{false≢true}
use Rattle.game_store.proofs.StoreLaws.{at_most}
use Rattle.game_canon.proofs.SumBoundLaws.{ceilings-hold, floors-hold, numbers-hold}
use Rattle.game_canon.proofs.sums_at_most.by_bounds.Goals as goal

pub returns-then-le-clause-some : goal.returns-then-le-clause-some
returns-then-le-clause-some c = (λ _. ceilings-hold c.args.store.now c.args.pair _ _ c.ceiling_sum-high.ensures c.floor_sum-other_low.ensures ((at_most _ _ _ c.le.ensures).0 c.if-le.true), λ _. refl)

pub returns-then-le-2-clause-none : goal.returns-then-le-2-clause-none
returns-then-le-2-clause-none c n = false≢true (sym c.if-le.false ∙ (at_most _ _ _ c.le.ensures).1 (
    numbers-hold c.args.store.now c.args.pair _ _ _ _ n c.floor_sum-low.ensures c.ceiling_sum-high.ensures c.floor_sum-other_low.ensures c.ceiling_sum-other_high.ensures ((at_most _ _ _ c.le-2.ensures).0 c.if-le-2.true)
    ))

pub returns-clause-some : goal.returns-clause-some
returns-clause-some c = (
  λ e. absurd (false≢true e),
  λ y. absurd (false≢true (sym c.if-le-2.false ∙ (at_most _ _ _ c.le-2.ensures).1 (floors-hold c.args.store.now c.args.pair _ _ c.floor_sum-low.ensures c.ceiling_sum-other_high.ensures y))),
)
