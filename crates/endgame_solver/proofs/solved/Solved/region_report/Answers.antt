use Rattle.std.proofs.Common.{◌<◌, ◌≡◌, ◌∙◌, length, sym, subst, ap, get_or, arith}
use Rattle.std.proofs.lemmas.List.{get_or_default}
use Rattle.local_graph.proofs.BuildLemmas.{all_positions}
use Rattle.region_cut.specs.Cut.{lowest}
use Rattle.endgame_solver.specs.Regions.{region_at, no_region}
use Rattle.endgame_solver.specs.declared.solved.RegionReport.{RegionReport}
use Rattle.endgame_solver.specs.Solved.{IsReport, IsNumberOfPositions, IsValueId}
use Rattle.endgame_solver.proofs.HeldLaws.{value_is, lowest_on_board}
use Rattle.endgame_solver.proofs.WinningLaws.{has_graph, has_value, ids_seen}
use Rattle.endgame_solver.proofs.solved.Solved.region_report.Goals as goal

pub returns-clause-report : goal.returns-clause-report
returns-clause-report c =
    let i = c.self.inside in
    let n = c.args.i in
    let held = c.self.invariant.0 in
    let lt = subst (λ v. n < length v.regions) (sym c.self.view_is) c.requires in
    let r = region_at i.regions.items n in
    let positions = all_positions r.touch r.cells _ _ (held.kept.solved.cut.each n lt).graph in
    let points = c.behind-self.inside.points in
    let shape : r ≡ c.index.result.now = get_or_default i.regions.items n no_region c.index.result.now lt ∙ sym c.index.ensures in
    let view = c.behind-self.view_is ∙ sym shape in
    let count : c.len.result ≡ length points.items = omega (arith, c.len.ensures, points.ok) in
    let report : RegionReport = record { lowest = c.index-2.result.now; points = c.len.result; positions = c.positions_seen.result; value = c.value_seen.result } in
    subst (λ v. IsReport v.trees (region_at v.regions n) report) c.self.view_is record {
      lowest_point = c.index-2.ensures ∙ get_or_default points.items 0 c.index-2.result.now 0 c.behind-self.invariant.some ∙ ap (λ z. get_or z.points 0 0) view;
      points = count ∙ ap (λ z. length z.points) view;
      positions = subst (IsNumberOfPositions r) ((held.views_are.each n lt).seen.as_many ∙ sym c.positions_seen.ensures) positions;
      value = subst (IsValueId i.store r r.cells) (ap (λ z. get_or z 0 0) (sym (ids_seen held lt)) ∙ sym c.value_seen.ensures)
          (value_is held.kept n lt);
    }

pub positions_seen-requires : goal.positions_seen-requires
positions_seen-requires c = has_graph c.self.invariant.0 (subst (λ v. c.args.i < length v.regions) (sym c.self.view_is) c.requires)

pub value_seen-requires : goal.value_seen-requires
value_seen-requires c =
    let solved = c.self.invariant.0.kept.solved in
    let lt = subst (λ v. c.args.i < length v.regions) (sym c.self.view_is) c.requires in
    has_value c.self.invariant.0 0 lt (omega (arith, (solved.cut.each c.args.i lt).graph.some, (solved.valued c.args.i lt).long))

pub returns-clause-on_board : goal.returns-clause-on_board
returns-clause-on_board c =
    let lt = subst (λ v. c.args.i < length v.regions) (sym c.self.view_is) c.requires in
    let low = lowest_on_board c.self.invariant.0.kept c.args.i lt in
    let inside = subst (λ v. lowest (region_at v.regions c.args.i) < length v.state.board.cells) c.self.view_is low in
    omega (arith, (returns-clause-report c).lowest_point, inside)
