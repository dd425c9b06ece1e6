use Rattle.std.proofs.Common.{◌∙◌, ap, arith, below_more, length, subst, sym}
use Rattle.std.proofs.lemmas.Bool.{both_ways}
use Rattle.whole_rules.specs.declared.states.Move.TheVariants.{Stone}
use Rattle.cycle_solver.specs.Held.{AreSummedWith}
use Rattle.cycle_solver.specs.Keeping.{Keeps}
use Rattle.cycle_solver.proofs.KeepingLaws.{no_stone_of}
use Rattle.cycle_solver.proofs.keeping_moves.keeping_stone.Goals as goal

pub move_keeps-requires-clause-summed : goal.move_keeps-requires-clause-summed
move_keeps-requires-clause-summed c =
    let seen = c.args.present.now in
    subst (AreSummedWith seen.games.now seen.places.now seen.whole.now.side c.args.budgets.now) (sym c.points.invariant.0) c.requires.summed

pub move_keeps-requires-clause-fits : goal.move_keeps-requires-clause-fits
move_keeps-requires-clause-fits c = c.points.invariant.1

pub returns-then-move_keeps-clause-first : goal.returns-then-move_keeps-clause-first
returns-then-move_keeps-clause-first c =
    (omega (arith, c.points-test.true, c.area-number-end.ensures), c.move_keeps.ensures.keeps.0 c.if-move_keeps.true, c.points.invariant.2)

pub returns-then-move_keeps-clause-same : goal.returns-then-move_keeps-clause-same
returns-then-move_keeps-clause-same c = c.move_keeps.ensures.same ∙ c.points.invariant.0

pub points-preserved : goal.points-preserved
points-preserved c =
    let seen = c.args.present.now in (
      c.move_keeps.ensures.same ∙ c.points.invariant.0,
      c.move_keeps.ensures.fits,
      below_more (λ q. ¬ Keeps seen.regions.now seen.whole.now c.args.budgets.now (Stone q)) c.points.number c.points.invariant.2
          (λ k. both_ways c.move_keeps.result c.if-move_keeps.false (c.move_keeps.ensures.keeps.1 k)),
    )

pub returns-clause-first : goal.returns-clause-first
returns-clause-first c =
    let seen = c.args.present.now in
    no_stone_of seen.whole.now (Keeps seen.regions.now seen.whole.now c.args.budgets.now) (λ m k. (k.0, k.2.moved)) c.points.number
    (omega (arith, c.points-test.false, c.area-number-end.ensures, c.size.ensures, ap (λ b. length b.cells) c.board.ensures)) c.points.invariant.2

pub returns-clause-same : goal.returns-clause-same
returns-clause-same c = c.points.invariant.0
