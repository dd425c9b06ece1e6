use Rattle.std.proofs.Common.{subst, sym}
use Rattle.go_grid.specs.declared.grid.Colour.TheVariants.{Black, White}
use Rattle.game_store.specs.Meaning.{listed}
use Rattle.local_value.specs.Remembered.{options_of, IsFormOf}
use Rattle.local_value.specs.inner.Options.{AreEnough}
use Rattle.local_value.proofs.OptionsLaws.{form-learned, form-enough, ids-enough, listed-enough, numbers-known, enough-grown, cause-as, ids-grown}
use Rattle.local_value.proofs.memo.form_in_order.Goals as goal

pub without_dominated-requires-clause-known : goal.without_dominated-requires-clause-known
without_dominated-requires-clause-known c = numbers-known c.args.store.now c.args.options.now c.requires.left c.requires.right

-- the options that are kept are enough
enough : (c : goal.After-deref) → AreEnough c.args.store.now c.args.options.now c.deref.result.now
enough c = subst (AreEnough c.args.store.now c.args.options.now) (sym c.deref.ensures.value) (c.in_ok-kept.ensures {u = tt}).enough

pub known_form-requires-clause-left : goal.known_form-requires-clause-left
known_form-requires-clause-left c = ids-enough c.args.options.now c.deref.result.now c.args.store.now (enough c) Black c.requires.left

pub known_form-requires-clause-right : goal.known_form-requires-clause-right
known_form-requires-clause-right c = ids-enough c.args.options.now c.deref.result.now c.args.store.now (enough c) White c.requires.right

-- the form of the options that are kept is that of all
form : (c : goal.After-drop-kept) → IsFormOf c.known_form.new.store c.args.parts_limit c.args.options.now c.in-Ok.id
form c =
    let os = c.args.options.now in
    let kept = c.deref.result.now in
    let now = subst (AreEnough c.args.store.now os) (sym c.deref.ensures.value) (c.in_ok-kept.ensures {u = tt}).enough in
    form-enough os kept c.known_form.new.store
    (enough-grown c.known_form.ensures.kept os kept (numbers-known c.args.store.now os c.requires.left c.requires.right) now) c.args.parts_limit c.in-Ok.id
    (ids-grown c.known_form.ensures.kept (options_of Black os) c.requires.left) (ids-grown c.known_form.ensures.kept (options_of White os) c.requires.right)
    c.in-Ok.ensures.form

pub returns-in-Ok-clause-form : goal.returns-in-Ok-clause-form
returns-in-Ok-clause-form c = form c

pub returns-in-Ok-clause-forms : goal.returns-in-Ok-clause-forms
returns-in-Ok-clause-forms c = record {
  known = form-learned c.known_form.new.forms.table c.remember_whole.new.table c.args.options.now c.in-Ok.id c.remember_whole.ensures c.known_form.new.store c.args.parts_limit (form c) c.in-Ok.ensures.forms.known;
  comparisons = c.in-Ok.ensures.forms.comparisons;
}

pub returns-clause-refusal : goal.returns-clause-refusal
returns-clause-refusal c =
    let os = c.args.options.now in
    let kept = c.deref.result.now in
    let now = subst (AreEnough c.args.store.now os) (sym c.deref.ensures.value) (c.in_ok-kept.ensures {u = tt}).enough in
    cause-as (listed c.args.store.now (options_of Black kept) (options_of White kept)) (listed c.args.store.now (options_of Black os) (options_of White os))
    c.args.parts_limit c.in-Err.error (listed-enough os kept c.args.store.now now) c.in-Err.ensures.refusal
