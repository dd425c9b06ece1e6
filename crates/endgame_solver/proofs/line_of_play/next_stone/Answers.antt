use Rattle.std.proofs.Common.{◌∙◌, None, Some, ap, arith, length, sym, subst}
use Rattle.endgame_solver.specs.inner.Views.{IsSeen}
use Rattle.std.proofs.lemmas.Bool.{both_ways}
use Rattle.endgame_solver.proofs.NextStoneLaws.{next_found, next_none, none_keeps_more, tells_back}
use Rattle.endgame_solver.proofs.line_of_play.next_stone.Goals as goal

pub keeps_threshold-requires-clause-seen : goal.keeps_threshold-requires-clause-seen
keeps_threshold-requires-clause-seen c = subst (IsSeen c.args.present.now) (sym c.points.invariant.0) c.requires.seen

pub returns-then-keeps_threshold-clause-next : goal.returns-then-keeps_threshold-clause-next
returns-then-keeps_threshold-clause-next c =
    tells_back c.args.beyond (Some c.points.number) c.ranges.beyond (next_found c.keeps_threshold.ensures.keeps c.if-keeps_threshold.true c.points.invariant.2)

pub returns-then-keeps_threshold-clause-same : goal.returns-then-keeps_threshold-clause-same
returns-then-keeps_threshold-clause-same c = c.keeps_threshold.ensures.same ∙ c.points.invariant.0

pub points-preserved : goal.points-preserved
points-preserved c = (
  c.keeps_threshold.ensures.same ∙ c.points.invariant.0,
  c.keeps_threshold.ensures.fits,
  none_keeps_more c.keeps_threshold.ensures.keeps (λ h. both_ways c.keeps_threshold.result c.if-keeps_threshold.false h) c.points.invariant.2,
)

pub returns-clause-next : goal.returns-clause-next
returns-clause-next c = tells_back c.args.beyond None c.ranges.beyond (next_none c.points.number
    (omega (arith, c.points-test.false, c.area-area.ensures, c.size.ensures, ap (λ b. length b.cells) c.board.ensures)) c.points.invariant.2)

pub returns-clause-same : goal.returns-clause-same
returns-clause-same c = c.points.invariant.0
