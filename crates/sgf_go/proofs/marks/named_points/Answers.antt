use Rattle.std.proofs.Common.{subst}
use Rattle.std.specs.Prelude.{Any, map}
use Rattle.go_grid.specs.Marks.{Marks}
use Rattle.sgf_tree.specs.Reading.{property_text}
use Rattle.sgf_go.specs.Territory.{HasValue, Names, NamesNothing}
use Rattle.sgf_go.proofs.MarkLemmas.{points_named, all_good, some_bad}
use Rattle.sgf_go.proofs.marks.named_points.Goals as goal

pub returns-then-mark_properties-clause-some : goal.returns-then-mark_properties-clause-some
returns-then-mark_properties-clause-some c =
    let g = c.args.board.now in
    subst (λ name. Marks c.mark_properties.new.points (λ p. Any (HasValue name (Names g p)) (map property_text c.args.properties.now))) c.mark_name.ensures
    (points_named g c.mark_name.result.now c.args.properties.now c.new-points.result c.mark_properties.new.points c.new-points.ensures (c.if-mark_properties.ensures {u = tt}).added)

pub returns-then-mark_properties-clause-good : goal.returns-then-mark_properties-clause-good
returns-then-mark_properties-clause-good c =
    let g = c.args.board.now in
    subst (λ name. ¬ Any (HasValue name (NamesNothing g)) (map property_text c.args.properties.now)) c.mark_name.ensures
    (all_good g c.mark_name.result.now c.args.properties.now c.new-points.result c.mark_properties.new.points (c.if-mark_properties.ensures {u = tt}).added)

pub returns-else-mark_properties-clause-none : goal.returns-else-mark_properties-clause-none
returns-else-mark_properties-clause-none c =
    let g = c.args.board.now in
    subst (λ name. Any (HasValue name (NamesNothing g)) (map property_text c.args.properties.now)) c.mark_name.ensures
    (some_bad g c.mark_name.result.now c.args.properties.now (c.if-mark_properties.ensures {u = tt}).bad)
