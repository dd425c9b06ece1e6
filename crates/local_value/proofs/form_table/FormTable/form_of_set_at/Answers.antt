use Rattle.std.proofs.Common.{◌<◌, arith, refl, sym, ap, subst, length}
use Rattle.std.specs.Prelude.{slice_range}
use Rattle.std.proofs.lemmas.List.{length-map}
use Rattle.local_value.specs.inner.OptionSets.{HasNoRepeats, HaveSameMembers}
use Rattle.local_value.specs.inner.Tables.{known_form, IsFormOfMembers}
use Rattle.local_value.proofs.KnownLemmas.{form_found}
use Rattle.local_value.proofs.form_table.FormTable.form_of_set_at.Goals as goal

pub is_same-requires : goal.is_same-requires
is_same-requires c =
    let i = c.self.inside in
    let f = c.index-form.result.now in
    let inside : c.args.place < length i.forms.items = omega (arith, c.requires, ap length c.self.view_is, length-map i.forms.items (known_form i.pool.items)) in
    subst (λ p. HasNoRepeats (slice_range p f.start f.end)) (sym c.deref.ensures.value)
    (c.self.invariant.once _ f.id (form_found i.pool.items (slice_range i.pool.items f.start f.end) i.forms.items _ c.args.place f refl inside c.index-form.ensures refl))

pub returns-then-is_same : goal.returns-then-is_same
returns-then-is_same c =
    let i = c.self.inside in
    let f = c.index-form.result.now in
    let inside : c.args.place < length i.forms.items = omega (arith, c.requires, ap length c.self.view_is, length-map i.forms.items (known_form i.pool.items)) in
    let os = slice_range i.pool.items f.start f.end in
    subst (IsFormOfMembers c.args.self.now c.args.options.now) (sym c.from.ensures) (
      os,
      form_found i.pool.items os i.forms.items c.args.self.now c.args.place f c.self.view_is inside c.index-form.ensures refl,
      subst (λ p. HaveSameMembers c.args.options.now (slice_range p f.start f.end)) c.deref.ensures.value (c.is_same.ensures c.if-is_same.true),
    )
