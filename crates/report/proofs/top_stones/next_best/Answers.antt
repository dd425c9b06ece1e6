use mir.Syntax.{w64}
use Rattle.std.proofs.Common.{◌≡◌, ◌∙◌, ap, arith, length, subst}
use Rattle.std.proofs.lemmas.Int.{to_z-of_z}
use Rattle.report.specs.TopStones.{IsBestBelow}
use Rattle.report.proofs.top_stones.next_best.Goals as goal

pub returns-clause-best : goal.returns-clause-best
returns-clause-best c =
    let s = c.args.solved.now.state in
    let board = c.board.ensures ∙ ap (λ w. w.board) c.whole.ensures in
    let all : c.points.number ≡ length s.board.cells =
    omega (arith, c.points-test.false, c.points.auto.number-end, c.area-number-end.ensures.value, c.size.ensures.area, ap (λ g. length g.cells) board) in
    let komi = to_z-of_z w64 c.args.komi_halves c.ranges.komi_halves in
    subst (λ T. T) (λ i. IsBestBelow s (komi i) c.args.last.now (all i) c.points.best) c.points.invariant.0
