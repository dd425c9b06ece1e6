use Rattle.std.proofs.Common.{sym, subst}
use Rattle.local_value.specs.inner.OptionSets.{IsOptionSet}
use Rattle.local_value.proofs.OptionSetLemmas.{set-none}
use Rattle.local_value.proofs.option_set.OptionSet.clear.Goals as goal

pub invariant_of-self : goal.invariant_of-self
invariant_of-self c =
    let turn = c.next_turn-self-inside in
    subst (λ os. IsOptionSet os turn.new.marks.items turn.result) (sym c.clear.ensures.items) (set-none turn.new.marks.items turn.result turn.ensures.begun turn.ensures.past)
