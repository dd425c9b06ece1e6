use mir.Val.{of_z, to_z}
use mir.Syntax.{w64}
use Rattle.std.proofs.Common.{[], refl, subst}
use Rattle.endgame_solver.specs.Thresholds.{IsThresholdFrom}
use Rattle.endgame_solver.proofs.MarginLaws.{raised_back, threshold_from}
use Rattle.endgame_solver.proofs.LentLaws.{answers_lent, returned}
use Rattle.endgame_solver.proofs.WinningLaws.{held_lent}
use Rattle.endgame_solver.proofs.solved.Solved.threshold.Goals as goal

pub returns-clause-threshold : goal.returns-clause-threshold
returns-clause-threshold c = subst (λ v. IsThresholdFrom v.state c.args.komi_halves c.args.first [] (to_z w64 (of_z w64 c.raised.result))) c.self.view_is
    (threshold_from c.self.invariant.0.kept c.args.first [] c.args.komi_halves c.margin-beyond.result _ c.margin-beyond.ensures.small
    (raised_back c.args.komi_halves c.margin-beyond.result c.raised.result c.ranges.komi_halves c.margin-beyond.ensures.small c.raised.ensures) c.margin-beyond.ensures.margin)

pub margin-beyond-requires-clause-seen : goal.margin-beyond-requires-clause-seen
margin-beyond-requires-clause-seen c = held_lent c.self.invariant.0 c.deref.ensures.value c.deref-2.ensures.value c.deref_mut.ensures.value

pub margin-beyond-requires-clause-fits : goal.margin-beyond-requires-clause-fits
margin-beyond-requires-clause-fits c = c.self.invariant.1

pub invariant_of-self : goal.invariant_of-self
invariant_of-self c =
    let inv = c.self.invariant in
    let back = returned c.deref_mut.ensures.value c.deref_mut.ensures.len c.margin-beyond.ensures.same in
    (held_lent inv.0 refl refl back, c.margin-beyond.ensures.fits, answers_lent inv.2 back refl)

pub returns-clause-same : goal.returns-clause-same
returns-clause-same c = c.self.view_is
