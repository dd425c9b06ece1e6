use Rattle.std.proofs.Common.{◌<◌, ◌*◌, subst, sym}
use Rattle.report.proofs.safety.lowest_of.Goals as goal

pub returns-clause-on_board : goal.returns-clause-on_board
returns-clause-on_board c =
    subst (λ r. c.index.result.now < r.columns * r.rows) c.region.view_is
    (c.region.invariant.on_board c.index.result.now (0, c.region.invariant.some, sym c.index.ensures))
