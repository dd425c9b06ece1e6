use Rattle.std.proofs.Common.{get_or, subst}
use Rattle.cycle_solver.specs.inner.Shared.{IsNoted}
use Rattle.cycle_solver.proofs.NoteLaws.{noted-on, noted_more}
use Rattle.cycle_solver.proofs.negatives.note_layer.Goals as goal

pub ids-preserved : goal.ids-preserved
ids-preserved c =
    let ids = c.args.ids.now in
    let n = c.in_ok-note.ensures in
    noted_more (λ known i. IsNoted known (get_or ids i 0)) c.args.known.now c.args.store.now c.ids.known c.note.new.known c.ids.store c.note.new.store c.ids.id-index
    (λ i. noted-on c.ids.known c.note.new.known (get_or ids i 0) n.keeps) c.ids.invariant (subst (IsNoted c.note.new.known) c.from.ensures n.noted) n.keeps n.right n.long n.kept
