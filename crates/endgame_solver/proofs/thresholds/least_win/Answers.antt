use Rattle.std.proofs.Common.{arith, refl, subst}
use Rattle.short_games.specs.Sum.{total}
use Rattle.game_store.specs.Meaning.{pick}
use Rattle.endgame_solver.specs.Thresholds.{IsLeastWin}
use Rattle.endgame_solver.proofs.MarginLaws.{between_end, between_start, halves_back, least_small}
use Rattle.endgame_solver.proofs.thresholds.least_win.Goals as goal

pub halving-init : goal.halving-init
halving-init c = (
  refl,
  c.requires.fits,
  between_start (total (pick c.args.store.now c.args.sum.now)) c.args.first c.stops_of-stops.result c.stops_of-stops.ensures,
)

pub returns-clause-least : goal.returns-clause-least
returns-clause-least c =
    let G = total (pick c.args.store.now c.args.sum.now) in
    let w = c.halving.invariant.2 in
    subst (IsLeastWin c.args.first G) (halves_back c.above_least-2.result (least_small c.halving.won c.above_least-2.result w.most c.above_least-2.ensures))
    (between_end G c.args.first c.halving.lost c.halving.won c.above_least-2.result w (omega (arith, c.halving-test.false, w.order)) c.above_least-2.ensures)
