use Rattle.std.proofs.Common.{subst, sym}
use Rattle.std.specs.Prelude.{Any}
use Rattle.sgf_tree.specs.Reading.{property_text}
use Rattle.sgf_go.specs.Values.{trimmed}
use Rattle.sgf_go.specs.Territory.{HasValue, Names, NamesNothing}
use Rattle.sgf_go.specs.inner.Territory.{Adds, AddsAll}
use Rattle.sgf_go.proofs.MarkLemmas.{adds_values, bad_values, on_true, on_false}
use Rattle.sgf_go.proofs.marks.mark_property.Goals as goal

pub returns-clause-added : goal.returns-clause-added
returns-clause-added c =
    let g = c.args.board.now in
    let name = c.args.name.now in
    on_true c.mark_values.result (AddsAll (λ p v. Names g p (trimmed v.items)) (λ v. NamesNothing g (trimmed v.items)) c.deref.result.now c.args.points.now c.mark_values.new.points)
    (Adds (λ p. HasValue name (Names g p)) (HasValue name (NamesNothing g)) (property_text c.args.property.now) c.args.points.now c.mark_values.new.points)
    (λ all. adds_values g name c.args.property.now c.args.points.now c.mark_values.new.points (sym (c.if-not-is_named.ensures {u = tt}))
    (subst (λ xs. AddsAll (λ p v. Names g p (trimmed v.items)) (λ v. NamesNothing g (trimmed v.items)) xs c.args.points.now c.mark_values.new.points) c.deref.ensures.value all))
    c.mark_values.ensures.added

pub returns-clause-bad : goal.returns-clause-bad
returns-clause-bad c =
    let g = c.args.board.now in
    let name = c.args.name.now in
    on_false c.mark_values.result (Any (λ v. NamesNothing g (trimmed v.items)) c.deref.result.now) (HasValue name (NamesNothing g) (property_text c.args.property.now))
    (λ bad. bad_values g name c.args.property.now (sym (c.if-not-is_named.ensures {u = tt})) (subst (λ xs. Any (λ v. NamesNothing g (trimmed v.items)) xs) c.deref.ensures.value bad))
    c.mark_values.ensures.bad
