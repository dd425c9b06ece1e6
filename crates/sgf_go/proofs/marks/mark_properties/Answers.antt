use Rattle.std.proofs.Common.{get_or, subst}
use Rattle.sgf_tree.specs.Reading.{property_text}
use Rattle.sgf_go.specs.Territory.{HasValue, Names, NamesNothing}
use Rattle.sgf_go.specs.inner.Territory.{Adds}
use Rattle.sgf_go.proofs.MarkLemmas.{adds_through, gathers_bad, gathers_step}
use Rattle.sgf_go.proofs.marks.mark_properties.Goals as goal

pub returns-then-not-mark_property-clause-bad : goal.returns-then-not-mark_property-clause-bad
returns-then-not-mark_property-clause-bad c =
    let g = c.args.board.now in
    let name = c.args.name.now in
    gathers_bad (λ p x. HasValue name (Names g p) (property_text x)) (λ x. HasValue name (NamesNothing g) (property_text x)) c.args.properties.now c.args.points.now c.loop-at.at c.index-properties-at.result c.loop-at.points c.loop-at-test.true c.loop-at.invariant
    (subst (λ x. HasValue name (NamesNothing g) (property_text x)) c.index-properties-at.is (c.if-not-mark_property.ensures {u = tt}).bad)

pub loop-at-preserved : goal.loop-at-preserved
loop-at-preserved c =
    let g = c.args.board.now in
    let name = c.args.name.now in
    gathers_step (λ p x. HasValue name (Names g p) (property_text x)) (λ x. HasValue name (NamesNothing g) (property_text x)) c.args.properties.now c.args.points.now c.loop-at.at c.index-properties-at.result c.loop-at.points c.loop-at-test.true c.loop-at.invariant c.mark_property.new.points
    (adds_through (λ p. HasValue name (Names g p)) (HasValue name (NamesNothing g)) property_text (get_or c.args.properties.now c.loop-at.at c.index-properties-at.result) c.loop-at.points c.mark_property.new.points
    (subst (λ x. Adds (λ p. HasValue name (Names g p)) (HasValue name (NamesNothing g)) (property_text x) c.loop-at.points c.mark_property.new.points) c.index-properties-at.is (c.if-not-mark_property.ensures {u = tt}).added))
