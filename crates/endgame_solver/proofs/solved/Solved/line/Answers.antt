use mir.Val.{of_z, to_z}
use mir.Syntax.{w64}
use Rattle.std.proofs.Common.{ap, arith, length, subst, sym, Some, None, ◌∙◌, ◌≤◌, ◌^◌}
use Rattle.whole_rules.specs.declared.states.Move.TheVariants.{Stone}
use Rattle.whole_rules.specs.WholeGame.{IsMove}
use Rattle.endgame_solver.specs.inner.Line.{TellsNext}
use Rattle.endgame_solver.proofs.MarginLaws.{halves_back}
use Rattle.endgame_solver.proofs.NextStoneLaws.{LineSoFar, line_end, line_next, line_start}
use Rattle.endgame_solver.proofs.solved.Solved.line.Goals as goal

pub stones-init : goal.stones-init
stones-init c =
    let same = c.beyond-beyond.ensures.same in
    let back = halves_back c.beyond-beyond.result c.beyond-beyond.ensures.small in
    let start = line_start {regions = c.args.self.now.regions} c.beyond-beyond.ensures.beyond c.beyond-beyond.ensures.small c.beyond-beyond.ensures.few in (
      subst (λ T. T)
          (λ i. LineSoFar c.args.self.now.regions c.args.self.now.state (sym same i).state (sym c.new-line.ensures.items i) (back i)) start,
      ap (λ v. v.regions) same,
      ap (λ v. v.trees) same,
    )

pub stones-preserved : goal.stones-preserved
stones-preserved c =
    let (so_far, regions, trees) = c.stones.invariant in
    let n = to_z w64 (of_z w64 c.beyond-beyond.result) in
    let same = c.next_stone.ensures.same in
    let next = subst (λ rs. TellsNext rs c.stones.self.state n (Some c.in-Some.point)) regions c.in-Some.ensures.next in
    let move = subst (λ v. IsMove v.state (Stone c.in-Some.point) c.put.new.self.state) same c.put.ensures.moved in (
      subst (λ xs. LineSoFar c.args.self.now.regions c.args.self.now.state c.put.new.self.state xs n) (sym c.in_ok-push.ensures.items) (line_next so_far next move),
      c.put.ensures.regions ∙ ap (λ v. v.regions) same ∙ regions,
      c.put.ensures.trees ∙ ap (λ v. v.trees) same ∙ trees,
    )

pub stones-smaller : goal.stones-smaller
stones-smaller c =
    let so_far = (stones-preserved c).0 in
    let most : length c.push.new.self.items ≤ 2 ^ 41 = so_far.few c.push.new.self.items c.put.new.self.state so_far.plays in
    omega (arith, most, c.in_ok-push.ensures.len, c.in_ok-push.ensures.items)

pub returns-clause-line : goal.returns-clause-line
returns-clause-line c =
    let (so_far, regions, trees) = c.stones.invariant in
    let n = to_z w64 (of_z w64 c.beyond-beyond.result) in
    line_end so_far (subst (λ rs. TellsNext rs c.stones.self.state n None) regions c.in_default.ensures.next)
