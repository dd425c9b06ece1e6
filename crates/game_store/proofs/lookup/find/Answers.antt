use Rattle.std.proofs.Common.{ap, sym, ◌∙◌}
use Rattle.std.proofs.lemmas.Bool.{false≢true}
use Rattle.game_store.specs.declared.Slot.{Slot}
use Rattle.game_store.proofs.EntryLaws.{at-within, at-next, at-smaller, at-end, entry-at, within-at}
use Rattle.game_store.proofs.lookup.find.Goals as goal

pub read_slot-slot-requires : goal.read_slot-slot-requires
read_slot-slot-requires c = at-within c.loop-at.invariant c.in-Some.is

pub loop-at-smaller : goal.loop-at-smaller
loop-at-smaller c = at-smaller c.loop-at.invariant c.in-Some.is c.requires.befores (ap (λ (s : Slot). s.before) c.read_slot-slot.ensures)

pub loop-at-preserved : goal.loop-at-preserved
loop-at-preserved c = at-next c.loop-at.invariant c.in-Some.is c.requires.befores (ap (λ (s : Slot). s.before) c.read_slot-slot.ensures)
    (λ f. false≢true (sym c.if-holds.false ∙ c.holds.ensures.1 (rw (c.read_slot-slot.ensures, ← entry-at c.args.slots.now c.in-Some.id) f)))

pub returns-then-holds-clause-found : goal.returns-then-holds-clause-found
returns-then-holds-clause-found c = (at-within c.loop-at.invariant c.in-Some.is, rw (entry-at c.args.slots.now c.in-Some.id, ← c.read_slot-slot.ensures) (c.holds.ensures.0 c.if-holds.true))

pub returns-clause-absent : goal.returns-clause-absent
returns-clause-absent c = at-end c.loop-at.invariant c.in_default.is

pub holds-requires : goal.holds-requires
holds-requires c = rw c.read_slot-slot.ensures (within-at c.args.pool.now.lists c.args.slots.now c.in-Some.id c.requires.within (at-within c.loop-at.invariant c.in-Some.is))
