use Rattle.std.proofs.Common.{[], arith, sym, subst}
use Rattle.local_value.specs.inner.OptionSets.{IsOptionSet}
use Rattle.local_value.proofs.OptionSetLemmas.{set-none}
use Rattle.local_value.proofs.option_set.OptionSet.new.Goals as goal

pub invariant_of-result : goal.invariant_of-result
invariant_of-result c = subst (λ os. IsOptionSet os c.new-2.result.items 1) (sym c.new.ensures.items)
    (subst (λ ms. IsOptionSet [] ms 1) (sym c.new-2.ensures.items) (set-none [] 1 (omega arith) (λ n. omega arith)))
