use Rattle.std.proofs.Common.{◌<◌, ◌≡◌, ◌∙◌, length, sym, subst, ap, get_or, arith}
use Rattle.std.proofs.lemmas.List.{get_or_default}
use Rattle.go_grid.specs.declared.grid.Colour.TheVariants.{Black, White}
use Rattle.local_graph.proofs.BuildLemmas.{all_positions}
use Rattle.region_cut.specs.Cut.{lowest}
use Rattle.endgame_solver.specs.Regions.{region_at, no_region}
use Rattle.endgame_solver.specs.Solved.{IsNumberOfPositions}
use Rattle.cycle_solver.specs.declared.cycle_game.CycleReport.{CycleReport}
use Rattle.cycle_solver.specs.Begun.{IsReport, IsSteadyId}
use Rattle.cycle_solver.proofs.BeginLaws.{few_points, lowest_on_board, opening_id, opening_value}
use Rattle.cycle_solver.proofs.cycle_game.CycleGame.region_report.Goals as goal

pub overflow_cast-result : goal.overflow_cast-result
overflow_cast-result c =
    let i = c.self.inside in
    let n = c.args.i in
    let held = c.self.invariant.0.held in
    let lt = subst (λ v. n < length v.regions) (sym c.self.view_is) c.requires in
    let points = c.behind-self.inside.points in
    let shape : region_at i.regions.items n ≡ c.index.result.now = get_or_default i.regions.items n no_region c.index.result.now lt ∙ sym c.index.ensures in
    let count : length points.items ≡ length (region_at i.regions.items n).points = ap (λ z. length z.points) (c.behind-self.view_is ∙ sym shape) in
    let few = few_points held.solved lt in
    omega (arith, c.len.ensures, points.ok, count, few)

pub positions-requires : goal.positions-requires
positions-requires c =
    let lt = subst (λ v. c.args.i < length v.regions) (sym c.self.view_is) c.requires in
    omega (arith, lt, c.self.invariant.0.held.solved.many)

pub value_with-requires-clause-number : goal.value_with-requires-clause-number
value_with-requires-clause-number c =
    let lt = subst (λ v. c.args.i < length v.regions) (sym c.self.view_is) c.requires in
    omega (arith, lt, c.self.invariant.0.held.solved.many)

pub value_with-requires-clause-place : goal.value_with-requires-clause-place
value_with-requires-clause-place c =
    let lt = subst (λ v. c.args.i < length v.regions) (sym c.self.view_is) c.requires in
    opening_value c.self.invariant.0.held.solved lt Black

pub value_with-requires-2-clause-number : goal.value_with-requires-2-clause-number
value_with-requires-2-clause-number c =
    let lt = subst (λ v. c.args.i < length v.regions) (sym c.self.view_is) c.requires in
    omega (arith, lt, c.self.invariant.0.held.solved.many)

pub value_with-requires-2-clause-place : goal.value_with-requires-2-clause-place
value_with-requires-2-clause-place c =
    let lt = subst (λ v. c.args.i < length v.regions) (sym c.self.view_is) c.requires in
    opening_value c.self.invariant.0.held.solved lt White

pub returns-clause-report : goal.returns-clause-report
returns-clause-report c =
    let i = c.self.inside in
    let n = c.args.i in
    let held = c.self.invariant.0.held in
    let lt = subst (λ v. n < length v.regions) (sym c.self.view_is) c.requires in
    let r = region_at i.regions.items n in
    let positions = all_positions r.touch r.cells _ _ (held.solved.each n lt).graph.graph in
    let points = c.behind-self.inside.points in
    let shape : r ≡ c.index.result.now = get_or_default i.regions.items n no_region c.index.result.now lt ∙ sym c.index.ensures in
    let view = c.behind-self.view_is ∙ sym shape in
    let count : c.len.result ≡ length points.items = omega (arith, c.len.ensures, points.ok) in
    let report : CycleReport =
    record { lowest = c.index-2.result.now; points = c.len.result; positions = c.positions.result; low = c.value_with.result; high = c.value_with-2.result } in
    subst (λ v. IsReport v.trees (region_at v.regions n) report) c.self.view_is record {
      lowest_point = c.index-2.ensures ∙ get_or_default points.items 0 c.index-2.result.now 0 c.behind-self.invariant.some ∙ ap (λ z. get_or z.points 0 0) view;
      points = count ∙ ap (λ z. length z.points) view;
      positions = subst (IsNumberOfPositions r) (sym c.positions.ensures) positions;
      low = subst (IsSteadyId i.store r Black) (sym c.value_with.ensures) (opening_id held.solved lt Black);
      high = subst (IsSteadyId i.store r White) (sym c.value_with-2.ensures) (opening_id held.solved lt White);
    }

pub returns-clause-on_board : goal.returns-clause-on_board
returns-clause-on_board c =
    let held = c.self.invariant.0.held in
    let lt = subst (λ v. c.args.i < length v.regions) (sym c.self.view_is) c.requires in
    let low = lowest_on_board held.solved lt held.at in
    let inside = subst (λ v. lowest (region_at v.regions c.args.i) < length v.state.board.cells) c.self.view_is low in
    omega (arith, (returns-clause-report c).lowest_point, inside)
