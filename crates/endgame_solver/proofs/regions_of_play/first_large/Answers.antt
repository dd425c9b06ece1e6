use Rattle.std.proofs.Common.{ap, ◌∙◌, arith, length}
use Rattle.std.proofs.lemmas.List.{get_or_default, get_or_read}
use Rattle.local_graph.proofs.BuildLemmas.{few_points}
use Rattle.region_cut.specs.Cut.{lowest}
use Rattle.endgame_solver.specs.Regions.{no_region}
use Rattle.endgame_solver.proofs.regions_of_play.first_large.Goals as goal

pub overflow_cast-result : goal.overflow_cast-result
overflow_cast-result c =
    let s = c.region.inside in
    let most = few_points s.size.columns s.size.rows s.points.items s.cells.items s.touch.items (s.size.columns_in.1) (s.size.rows_in.1) c.region.invariant in
    omega (arith, most, c.len-then-len-gt-MOST_PLACES.ensures, s.points.ok)

pub returns-then-len-gt-MOST_PLACES : goal.returns-then-len-gt-MOST_PLACES
returns-then-len-gt-MOST_PLACES c =
    let points = c.region.inside.points.items in
    let some = c.region.invariant.some in
    let at = c.region.view_is ∙ get_or_read c.args.regions.now c.regions.region-index c.region-item.result c.regions-test.true c.region-item.is no_region in (
      c.regions.region-index,
      c.regions-test.true,
      c.index.ensures ∙ get_or_default points 0 c.index.result.now 0 some ∙ ap lowest at,
      c.len-then-len-gt-MOST_PLACES.ensures ∙ c.region.inside.points.ok.0 ∙ ap (λ r. length r.points) at,
      omega (arith, c.if-len-gt-MOST_PLACES.true, c.len.ensures, c.len-then-len-gt-MOST_PLACES.ensures),
      c.regions.invariant,
    )
