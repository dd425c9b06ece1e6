use Rattle.std.proofs.Common.{subst, sym}
use Rattle.go_grid.specs.Board.{other}
use Rattle.cycle_solver.specs.Held.{IsKept}
use Rattle.cycle_solver.specs.inner.Asked.{AreAnswers}
use Rattle.cycle_solver.proofs.TurnLaws.{kept_out}
use Rattle.cycle_solver.proofs.cycle_game.CycleGame.take_out.Goals as goal

pub invariant_of-self : goal.invariant_of-self
invariant_of-self c =
    let inside = c.self.inside in let (kept, fits, below, above) = c.self.invariant in (
      subst (IsKept inside.regions.items inside.games inside.places.items inside.low.items inside.high.items inside.store) (sym c.take_out.ensures)
          (kept_out kept c.args.colour c.args.points),
      fits,
      subst (λ t. AreAnswers inside.store inside.low.items (other t.side) inside.low_asked.items) (sym c.take_out.ensures) below,
      subst (λ t. AreAnswers inside.store inside.high.items (other t.side) inside.high_asked.items) (sym c.take_out.ensures) above,
    )
