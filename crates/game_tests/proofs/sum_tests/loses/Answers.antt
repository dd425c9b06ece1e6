use Rattle.std.proofs.lemmas.Int.{to_z-of_z}
use Rattle.sum_outcome.proofs.ExampleLaws.{small-bounded, small-ids}
use Rattle.game_tests.proofs.sum_tests.loses.Goals as goal

pub loses-requires-clause-bounds : goal.loses-requires-clause-bounds
loses-requires-clause-bounds c =
    let f = rw (to_z-of_z _ c.args.halves c.ranges.halves) at c.in_ok-number.ensures in
    small-bounded c.args.store.now c.args.sum.now c.in_ok-number.number c.args.halves c.requires.games c.requires.few c.requires.halves f

pub loses-requires-clause-ids : goal.loses-requires-clause-ids
loses-requires-clause-ids c = small-ids c.args.store.now c.args.sum.now c.requires.games
