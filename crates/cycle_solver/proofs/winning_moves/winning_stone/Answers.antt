use Rattle.std.proofs.Common.{◌∙◌, ap, arith, below_more, length, sym, subst}
use Rattle.std.proofs.lemmas.Bool.{both_ways}
use Rattle.whole_rules.specs.declared.states.Move.TheVariants.{Stone}
use Rattle.whole_rules.specs.FirstWinningMove.{IsWinning}
use Rattle.endgame_solver.proofs.WinningLaws.{no_stone_end}
use Rattle.cycle_solver.specs.Held.{IsSeenFor, enough}
use Rattle.cycle_solver.proofs.winning_moves.winning_stone.Goals as goal

pub stone_wins-requires-clause-seen : goal.stone_wins-requires-clause-seen
stone_wins-requires-clause-seen c =
    subst (IsSeenFor c.args.present.now c.args.present.now.whole.now.side enough) (sym c.points.invariant.0) c.requires.seen

pub returns-then-stone_wins-clause-first : goal.returns-then-stone_wins-clause-first
returns-then-stone_wins-clause-first c = (omega (arith, c.points-test.true, c.area-number-end.ensures), c.stone_wins.ensures.wins.0 c.if-stone_wins.true, c.points.invariant.2)

pub returns-then-stone_wins-clause-same : goal.returns-then-stone_wins-clause-same
returns-then-stone_wins-clause-same c = c.stone_wins.ensures.same ∙ c.points.invariant.0

pub points-preserved : goal.points-preserved
points-preserved c = (
  c.stone_wins.ensures.same ∙ c.points.invariant.0,
  c.stone_wins.ensures.fits,
  below_more (λ q. ¬ IsWinning c.args.present.now.whole.now (Stone q)) c.points.number c.points.invariant.2
      (λ w. both_ways c.stone_wins.result c.if-stone_wins.false (c.stone_wins.ensures.wins.1 w)),
)

pub returns-clause-first : goal.returns-clause-first
returns-clause-first c =
    no_stone_end c.args.present.now.whole.now c.points.number
    (omega (arith, c.points-test.false, c.area-number-end.ensures, c.size.ensures, ap (λ b. length b.cells) c.board.ensures)) c.points.invariant.2

pub returns-clause-same : goal.returns-clause-same
returns-clause-same c = c.points.invariant.0
