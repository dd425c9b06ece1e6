use Rattle.std.proofs.Common.{arith, refl, ◌<◌, ◌+ℤ◌, length}
use mir.Val.{to_z}
use mir.Syntax.{w128}
use Rattle.std.proofs.lemmas.Int.{to_z-of_z}
use Rattle.sum_outcome.proofs.StopLoopLaws.{small_fits}
use Rattle.sum_outcome.proofs.KeyLaws.{split_start, split_fits, split_number, split_game, split_end}
use Rattle.sum_outcome.proofs.key.key_of.Goals as goal
use Rattle.sum_outcome.proofs.key.key_of.Goals.{in-Number, in-Options+in-Ok}

pub splitting-init : goal.splitting-init
splitting-init c =
    let e = c.units-total.ensures in
    rw (c.new-games.ensures.items, to_z-of_z w128 c.units-total.result (small_fits c.units-total.result (rw e.count e.bounds)), e.count) (split_start c.args.store.now c.args.sum.now c.args.number c.requires.bounds)

pub splitting-preserved : goal.splitting-preserved
splitting-preserved c =
    let y = to_z w128 c.splitting.total-bits in
    let games = c.splitting.games.items in
    let lt : c.splitting.id-index < length c.args.sum.now = omega (arith, c.splitting-test.true) in
    elim c.match-node.branch [
      | in-Number w ↦
          let u = w.units-total-in-Number in
          let x = w.in-Number.x in
          rw (w.games-is, w.total-is, to_z-of_z w128 u.result (small_fits u.result (rw u.ensures.count u.ensures.bounds)), u.ensures.count)
          (rw (to_z-of_z w128 (y +ℤ x) (split_fits c.args.store.now c.args.sum.now c.args.number y games c.splitting.id-index c.splitting.invariant lt x w.in-Number.ensures.form))
          (split_number c.args.store.now c.args.sum.now c.args.number y games c.splitting.id-index c.splitting.invariant lt x w.in-Number.ensures.form))
      | in-Options+in-Ok w ↦ rw (w.games-is, w.total-is, (w.in-Ok.ensures {u = tt}).items) (split_game c.args.store.now c.args.sum.now c.args.number y games c.splitting.id-index c.splitting.invariant lt c.requires.ids)
    ]

pub returns : goal.returns
returns c = split_end c.args.store.now c.args.sum.now c.args.number (to_z w128 c.splitting.total-bits) c.args.side c.splitting.games.items c.splitting.id-index _ c.splitting.invariant (omega (arith, c.splitting-test.false)) c.sort_unstable.ensures.permutation refl c.is_black.ensures
