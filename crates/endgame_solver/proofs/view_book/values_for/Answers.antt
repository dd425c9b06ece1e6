use Rattle.std.proofs.Common.{sym, subst}
use Rattle.endgame_solver.specs.inner.Held.{ids_at}
use Rattle.endgame_solver.specs.inner.Sharing.{AreTurnedValues}
use Rattle.endgame_solver.proofs.SharingLaws.{same_values}
use Rattle.endgame_solver.proofs.view_book.values_for.Goals as goal

pub returns-clause-turned : goal.returns-clause-turned
returns-clause-turned c =
    let ids = ids_at c.args.values.now.items c.args.place in
    subst (λ b. AreTurnedValues b c.args.store.now ids ids) (sym c.if-exchanged.false) (same_values c.args.store.now ids c.requires.ids c.len-count.ensures.canonical)
