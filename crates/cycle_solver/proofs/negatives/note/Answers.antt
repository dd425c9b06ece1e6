use Rattle.std.proofs.Common.{◌<◌, arith, length}
use Rattle.endgame_solver.proofs.SharingLaws.{negated, negatives_later, negatives_more}
use Rattle.cycle_solver.proofs.negatives.note.Goals as goal

pub returns-clause-right : goal.returns-clause-right
returns-clause-right c =
    let n = c.in_ok-negative.ensures in
    let lt : c.args.id < length c.negate.new.store = omega (arith, c.requires.id, n.kept.longer) in
    negatives_more c.negate.new.store c.args.known.now c.args.id c.in_ok-negative.negative lt c.requires.place
    (negatives_later c.args.store.now c.negate.new.store c.args.known.now n.kept c.requires.right)
    (negated c.args.store.now c.negate.new.store c.args.id c.in_ok-negative.negative c.requires.id n.kept n.value n.parts n.sizes)
