use Rattle.std.proofs.Common.{inl, inr, arith}
use Rattle.go_grid.specs.Marks.{IsMarked}
use Rattle.go_grid.proofs.PointsLemmas.{chosen_start, chosen_next}
use Rattle.go_grid.proofs.points.Points.chosen.Goals as goal

pub loop-at-init : goal.loop-at-init
loop-at-init g c = chosen_start _ _ c.new-points.ensures

pub loop-at-preserved : goal.loop-at-preserved
loop-at-preserved g c =
    chosen_next _ _ c.loop-at.points c.put.new.self c.test.result c.loop-at.invariant c.test.ensures
    (λ q. let is = c.put.ensures q in (
      λ m. elim (is.0 m) [ inl o ↦ inl o.0 | inr k ↦ inr k ],
      λ h. elim h as (λ _. IsMarked c.put.new.self q) [
        | inl o ↦ is.1 (inl (o, λ e. absurd (omega (arith, c.loop-at.invariant.within q o, e))))
        | inr k ↦ is.1 (inr k)
      ],
    ))
