use Rattle.std.proofs.Common.{◌≢◌, [], subst, rules}
use Rattle.go_grid.specs.Marks.{Marks}
use Rattle.sgf_go.specs.Values.{IsInRectangle}
use Rattle.sgf_go.specs.Territory.{Names, NamesNothing}
use Rattle.sgf_go.specs.inner.Reading.{rectangle}
use Rattle.sgf_go.specs.inner.Territory.{Adds}
use Rattle.sgf_go.proofs.MarkLemmas.{adds_area}
use Rattle.sgf_go.proofs.marks.mark_value.Goals as goal

pub returns-in-Some-clause-added : goal.returns-in-Some-clause-added
returns-in-Some-clause-added c =
    let g = c.args.board.now in
    let some : c.trim-text.result.now ≢ [] = search rules in
    subst (λ t. Adds (Names g) (NamesNothing g) t c.args.points.now c.union.result) c.trim-text.ensures
    (adds_area g c.trim-text.result.now c.in-Some.area c.args.points.now c.area_points.result c.union.result some (c.in-Some.ensures {u = tt}).value
    (subst (λ n. Marks c.area_points.result (IsInRectangle n (rectangle c.in-Some.area))) c.size.ensures.columns c.area_points.ensures) c.union.ensures)
