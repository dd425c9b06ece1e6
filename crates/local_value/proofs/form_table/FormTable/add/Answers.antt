use Rattle.std.proofs.Common.{arith, refl, ap, ◌∙◌, [], ◌∷◌, ◌++◌}
use Rattle.local_value.specs.declared.form_table.KnownForm.{KnownForm}
use Rattle.local_value.proofs.KnownLemmas.{learns_none, learns_one, table_none, table_one}
use Rattle.local_value.proofs.form_table.FormTable.add.Goals as goal

pub invariant_of-self-in_err-reserve : goal.invariant_of-self-in_err-reserve
invariant_of-self-in_err-reserve c =
    let i = c.self.inside in
    table_none i.pool.items c.args.options.now c.extend_from_slice.new.self.items i.forms.items c.reserve.new.self.items i.chains i.chains c.self.invariant
    c.in_ok-extend_from_slice.ensures.items c.requires refl c.in_err-reserve.ensures.items

pub invariant_of-self-in_err-add : goal.invariant_of-self-in_err-add
invariant_of-self-in_err-add c =
    let i = c.self.inside in
    table_none i.pool.items c.args.options.now c.extend_from_slice.new.self.items i.forms.items c.reserve.new.self.items i.chains c.add.new.self c.self.invariant
    c.in_ok-extend_from_slice.ensures.items c.requires c.in_err-add.ensures.same c.in_ok-reserve.ensures.items

pub invariant_of-self-2 : goal.invariant_of-self-2
invariant_of-self-2 c =
    let i = c.self.inside in
    let f : KnownForm = record { start = c.len-start.result; end = c.len-end.result; id = c.args.id } in
    table_one i.pool.items c.args.options.now c.extend_from_slice.new.self.items i.forms.items c.push_reserved.new.self.items i.chains c.add.new.self c.self.invariant
    c.in_ok-extend_from_slice.ensures.items c.requires c.in_ok-add.ensures.more f
    (c.push_reserved.ensures.items ∙ ap (λ l. l ++ f ∷ []) c.in_ok-reserve.ensures.items)
    (omega (arith, c.len-start.ensures, i.pool.ok)) (omega (arith, c.len-end.ensures, c.extend_from_slice.new.self.ok))

pub returns-in_err-reserve : goal.returns-in_err-reserve
returns-in_err-reserve c =
    let i = c.self.inside in
    learns_none i.pool.items c.args.options.now c.extend_from_slice.new.self.items i.forms.items c.reserve.new.self.items c.args.self.now c.self.invariant.within
    c.in_ok-extend_from_slice.ensures.items c.self.view_is _ c.in_err-reserve.ensures.items

pub returns-in_err-add : goal.returns-in_err-add
returns-in_err-add c =
    let i = c.self.inside in
    learns_none i.pool.items c.args.options.now c.extend_from_slice.new.self.items i.forms.items c.reserve.new.self.items c.args.self.now c.self.invariant.within
    c.in_ok-extend_from_slice.ensures.items c.self.view_is _ c.in_ok-reserve.ensures.items

pub returns : goal.returns
returns c =
    let i = c.self.inside in
    let f : KnownForm = record { start = c.len-start.result; end = c.len-end.result; id = c.args.id } in
    learns_one i.pool.items c.args.options.now c.extend_from_slice.new.self.items i.forms.items c.push_reserved.new.self.items c.args.self.now c.self.invariant.within
    c.in_ok-extend_from_slice.ensures.items c.self.view_is f
    (c.push_reserved.ensures.items ∙ ap (λ l. l ++ f ∷ []) c.in_ok-reserve.ensures.items)
    (omega (arith, c.len-start.ensures, i.pool.ok)) (omega (arith, c.len-end.ensures, c.extend_from_slice.new.self.ok))
