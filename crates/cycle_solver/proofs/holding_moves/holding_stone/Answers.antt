use Rattle.std.proofs.Common.{◌∙◌, ap, arith, below_more, length, subst, sym}
use Rattle.std.proofs.lemmas.Bool.{both_ways}
use Rattle.go_grid.specs.Board.{other}
use Rattle.whole_rules.specs.declared.states.Move.TheVariants.{Stone}
use Rattle.whole_budgets.specs.EnginePlay.{HoldsOff}
use Rattle.cycle_solver.specs.Held.{IsSeenFor, enough}
use Rattle.cycle_solver.proofs.KeepingLaws.{no_stone_of}
use Rattle.cycle_solver.proofs.holding_moves.holding_stone.Goals as goal

pub move_holds-requires-clause-seen : goal.move_holds-requires-clause-seen
move_holds-requires-clause-seen c =
    subst (IsSeenFor c.args.present.now (other c.args.present.now.whole.now.side) enough) (sym c.points.invariant.0) c.requires.seen

pub move_holds-requires-clause-fits : goal.move_holds-requires-clause-fits
move_holds-requires-clause-fits c = c.points.invariant.1

pub returns-then-move_holds-clause-first : goal.returns-then-move_holds-clause-first
returns-then-move_holds-clause-first c =
    (omega (arith, c.points-test.true, c.area-number-end.ensures), c.move_holds.ensures.holds.0 c.if-move_holds.true, c.points.invariant.2)

pub returns-then-move_holds-clause-same : goal.returns-then-move_holds-clause-same
returns-then-move_holds-clause-same c = c.move_holds.ensures.same ∙ c.points.invariant.0

pub points-preserved : goal.points-preserved
points-preserved c = (
  c.move_holds.ensures.same ∙ c.points.invariant.0,
  c.move_holds.ensures.fits,
  below_more (λ q. ¬ HoldsOff c.args.present.now.whole.now (Stone q)) c.points.number c.points.invariant.2
      (λ h. both_ways c.move_holds.result c.if-move_holds.false (c.move_holds.ensures.holds.1 h)),
)

pub returns-clause-first : goal.returns-clause-first
returns-clause-first c =
    no_stone_of c.args.present.now.whole.now (HoldsOff c.args.present.now.whole.now) (λ m h. (h.0, h.1)) c.points.number
    (omega (arith, c.points-test.false, c.area-number-end.ensures, c.size.ensures, ap (λ b. length b.cells) c.board.ensures)) c.points.invariant.2

pub returns-clause-same : goal.returns-clause-same
returns-clause-same c = c.points.invariant.0
