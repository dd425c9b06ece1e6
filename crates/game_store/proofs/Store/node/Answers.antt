use Rattle.std.proofs.Common.{◌∙◌, ap}
use Rattle.game_store.specs.inner.Meaning.{held}
use Rattle.game_store.specs.Forms.{wanted}
use Rattle.game_store.proofs.EntryLaws.{entry-at}
use Rattle.game_store.proofs.StoreLaws.{holds, in_range, means}
use Rattle.game_store.proofs.Store.node.Goals as goal

pub read_slot-requires : goal.read_slot-requires
read_slot-requires c = rw c.deref.ensures.value (in_range (holds c.self.invariant c.self.view_is) c.args.id c.requires)

pub returns-clause-form : goal.returns-clause-form
returns-clause-form c =
    let here = holds c.self.invariant c.self.view_is in
    means here c.args.id (in_range here c.args.id c.requires) (wanted c.lend.result)
    (ap (held c.self.inside.pool.lists) (entry-at c.self.inside.slots.items c.args.id) ∙ rw (c.read_slot.ensures, c.deref.ensures.value) at c.lend.ensures)
