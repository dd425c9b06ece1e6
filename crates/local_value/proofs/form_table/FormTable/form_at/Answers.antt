use Rattle.std.proofs.Common.{◌<◌, arith, sym, ap, subst, ◌∙◌, length}
use Rattle.std.specs.Prelude.{slice_range, Contains}
use Rattle.std.proofs.lemmas.List.{length-map}
use Rattle.local_value.specs.inner.Tables.{known_form}
use Rattle.local_value.proofs.KnownLemmas.{form_found}
use Rattle.local_value.proofs.form_table.FormTable.form_at.Goals as goal

pub returns-then-are_same : goal.returns-then-are_same
returns-then-are_same c =
    let i = c.self.inside in
    let f = c.index-form.result.now in
    let inside : c.args.place < length i.forms.items = omega (arith, c.requires, ap length c.self.view_is, length-map i.forms.items (known_form i.pool.items)) in
    subst (λ id. Contains c.args.self.now (c.args.options.now, id)) (sym c.from.ensures) (
    form_found i.pool.items c.args.options.now i.forms.items c.args.self.now c.args.place f c.self.view_is inside c.index-form.ensures
    (ap (λ p. slice_range p f.start f.end) (sym c.deref.ensures.value) ∙ c.are_same.ensures c.if-are_same.true))
