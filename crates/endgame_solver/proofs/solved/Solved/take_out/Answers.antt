use Rattle.std.proofs.Common.{subst, sym}
use Rattle.go_grid.specs.Board.{other}
use Rattle.endgame_solver.specs.inner.Asked.{AreAnswers}
use Rattle.endgame_solver.specs.inner.Views.{IsHeldInBook}
use Rattle.endgame_solver.proofs.HeldLaws.{kept_out}
use Rattle.endgame_solver.proofs.WinningLaws.{held_as}
use Rattle.endgame_solver.proofs.solved.Solved.take_out.Goals as goal

pub invariant_of-self : goal.invariant_of-self
invariant_of-self c =
    let inside = c.self.inside in let (held, fits, answers) = c.self.invariant in (
      subst (IsHeldInBook inside.regions.items inside.book inside.places.items inside.sum.items inside.store) (sym c.take_out.ensures) (held_as held (kept_out held.kept c.args.colour c.args.points)),
      fits,
      subst (λ t. AreAnswers inside.store inside.sum.items (other t.side) inside.asked.items) (sym c.take_out.ensures) answers,
    )
