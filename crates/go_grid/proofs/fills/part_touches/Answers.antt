use Rattle.go_grid.specs.Marks.{IsMarked}
use Rattle.go_grid.proofs.WalkLemmas.{joined_end}
use Rattle.go_grid.proofs.fills.part_touches.Goals as goal

pub adjoin-requires-clause-points : goal.adjoin-requires-clause-points
adjoin-requires-clause-points c p m =
    c.requires.within p (joined_end c.args.size.columns (IsMarked c.args.within.now) c.args.start p ((c.fill.ensures p).0 m))

pub returns-else-touches : goal.returns-else-touches
returns-else-touches c = (
  λ r. let h = c.adjoin.ensures.0 r in (h.0, (c.fill.ensures h.0).0 h.1, h.2),
  λ t. c.adjoin.ensures.1 (t.0, (c.fill.ensures t.0).1 t.1, t.2),
)
