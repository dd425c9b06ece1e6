use Rattle.std.proofs.Common.{refl, subst}
use Rattle.endgame_solver.specs.Solved.{Chooses}
use Rattle.board_session.specs.Generating.{PayFor}
use Rattle.board_session.proofs.advice.tell.Goals as goal

pub returns-in-Some : goal.returns-in-Some
returns-in-Some c = (
  subst (λ w. PayFor c.args.passes w.purses) c.whole.ensures ((c.if-not-pay.ensures {u = tt}).0 refl),
  subst (λ v. Chooses v.state c.in-Some.chosen) c.take_passes.ensures (c.in-Some.ensures {u = tt}).choice,
)
