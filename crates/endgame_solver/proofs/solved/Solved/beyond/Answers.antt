use mir.Val.{of_z, to_z}
use mir.Syntax.{w64}
use Rattle.std.proofs.Common.{[], refl, subst}
use Rattle.endgame_solver.specs.inner.Line.{HasFewStones}
use Rattle.endgame_solver.specs.inner.Thresholds.{IsMargin}
use Rattle.endgame_solver.proofs.HeldLaws.{held_few}
use Rattle.endgame_solver.proofs.MarginLaws.{halves_back}
use Rattle.endgame_solver.proofs.LentLaws.{answers_lent, returned}
use Rattle.endgame_solver.proofs.WinningLaws.{held_lent}
use Rattle.endgame_solver.proofs.solved.Solved.beyond.Goals as goal

pub returns-clause-beyond : goal.returns-clause-beyond
returns-clause-beyond c =
    let back = halves_back c.margin.result c.margin.ensures.small in
    subst (λ v. IsMargin v.state v.state.side [] (to_z w64 (of_z w64 c.margin.result))) c.self.view_is
    (subst (λ T. T) (λ i. IsMargin c.self.inside.whole (c.side-side.ensures i) [] (back i)) c.margin.ensures.margin)

pub returns-clause-few : goal.returns-clause-few
returns-clause-few c = subst (λ v. HasFewStones v.state) c.self.view_is (held_few c.self.invariant.0.kept)

pub margin-requires-clause-seen : goal.margin-requires-clause-seen
margin-requires-clause-seen c = held_lent c.self.invariant.0 c.deref.ensures.value c.deref-2.ensures.value c.deref_mut.ensures.value

pub margin-requires-clause-fits : goal.margin-requires-clause-fits
margin-requires-clause-fits c = c.self.invariant.1

pub invariant_of-self : goal.invariant_of-self
invariant_of-self c =
    let inv = c.self.invariant in
    let back = returned c.deref_mut.ensures.value c.deref_mut.ensures.len c.margin.ensures.same in
    (held_lent inv.0 refl refl back, c.margin.ensures.fits, answers_lent inv.2 back refl)

pub returns-clause-same : goal.returns-clause-same
returns-clause-same c = c.self.view_is
