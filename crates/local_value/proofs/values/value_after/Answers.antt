use Rattle.std.proofs.Common.{ap, ◌∙◌, sym, subst, to_z, of_z, w32}
use Rattle.local_value.specs.Remembered.{stones_units}
use Rattle.local_value.specs.inner.Valuing.{IsAfter}
use Rattle.local_value.proofs.OptionsLaws.{never-refused, value-untaken, value-summed, held}
use Rattle.local_value.proofs.values.value_after.Goals as goal

pub returns-then-edge-eq0-clause-value : goal.returns-then-edge-eq0-clause-value
returns-then-edge-eq0-clause-value c = subst (IsAfter c.args.store.now c.args.store.now c.args.ids.now c.args.edge.now) (sym c.from-before.ensures)
    (value-untaken c.args.store.now c.args.ids.now c.args.edge.now c.if-edge-eq0.true c.requires.noted.1 c.len-count.ensures.canonical)

pub unreachable-requires-in-Err-Bounds : goal.unreachable-requires-in-Err-Bounds
unreachable-requires-in-Err-Bounds c =
    never-refused c.args.store.now c.args.ids.now c.args.edge.now (stones_units (to_z w32 (of_z w32 c.credit-taken.result)))
    (ap stones_units (held c.credit-taken.result c.credit-taken.ensures.small ∙ c.credit-taken.ensures.credit)) c.len-count.ensures.forms c.len-count.ensures.canonical c.requires.noted.1 c.requires.small
    (rw (c.in-Err-Bounds.field-0-is, c.from-before.ensures) at c.in-Err-Bounds.ensures.refusal)

pub returns-in-Ok-clause-value : goal.returns-in-Ok-clause-value
returns-in-Ok-clause-value c = value-summed c.args.store.now c.with_stones.new.store c.args.ids.now c.args.edge.now (to_z w32 (of_z w32 c.credit-taken.result)) c.in-Ok.id
    (held c.credit-taken.result c.credit-taken.ensures.small ∙ c.credit-taken.ensures.credit) c.with_stones.ensures.kept c.requires.noted.1 (rw c.from-before.ensures at c.in-Ok.ensures.sum)
