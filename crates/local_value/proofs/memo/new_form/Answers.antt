use Rattle.std.proofs.Common.{List, IsPermutation, subst, sym}
use Rattle.std.proofs.lemmas.Result.{IfErr-weaker, IfOk-weaker}
use Rattle.go_grid.specs.declared.grid.Colour.TheVariants.{Black, White}
use Rattle.short_games.specs.Tree.{Tree}
use Rattle.game_store.specs.Meaning.{listed}
use Rattle.local_value.specs.Remembered.{options_of}
use Rattle.local_value.specs.inner.Options.{AreEnough}
use Rattle.local_value.specs.inner.OptionSets.{HasNoRepeats}
use Rattle.local_value.proofs.OptionSetLemmas.{permuted-once, permuted-same}
use Rattle.local_value.proofs.OptionsLaws.{cause-as, form-enough, ids-enough, ids-grown, listed-enough}
use Rattle.local_value.proofs.UndominatedLemmas.{enough-same}
use Rattle.local_value.proofs.memo.new_form.Goals as goal

-- the options in order are enough
enough : (Ts : List Tree) (c : goal.After-deref) → AreEnough Ts c.args.options.now c.deref.result.now
enough Ts c = enough-same Ts c.args.options.now c.deref.result.now
    (permuted-same c.args.options.now c.deref.result.now (subst (IsPermutation c.args.options.now) (sym c.deref.ensures.value) (c.in_ok-sorted.ensures {u = tt})))

pub form_in_order-requires-clause-left : goal.form_in_order-requires-clause-left
form_in_order-requires-clause-left c =
    ids-enough c.args.options.now c.deref.result.now c.args.store.now (enough c.args.store.now c) Black c.requires.left

pub form_in_order-requires-clause-right : goal.form_in_order-requires-clause-right
form_in_order-requires-clause-right c =
    ids-enough c.args.options.now c.deref.result.now c.args.store.now (enough c.args.store.now c) White c.requires.right

pub form_in_order-requires-clause-once : goal.form_in_order-requires-clause-once
form_in_order-requires-clause-once c = subst HasNoRepeats (sym c.deref.ensures.value)
    (permuted-once c.args.options.now c.in_ok-sorted.sorted.items (c.in_ok-sorted.ensures {u = tt}) c.requires.once)

pub returns-clause-form : goal.returns-clause-form
returns-clause-form c =
    let os = c.args.options.now in
    let Us = c.form_in_order.new.store in
    let same = permuted-same os c.deref.result.now (subst (IsPermutation os) (sym c.deref.ensures.value) (c.in_ok-sorted.ensures {u = tt})) in
    IfOk-weaker c.form_in_order.result _ _ (λ id f. form-enough os c.deref.result.now Us (enough-same Us os c.deref.result.now same) c.args.parts_limit id
    (ids-grown c.form_in_order.ensures.kept (options_of Black os) c.requires.left) (ids-grown c.form_in_order.ensures.kept (options_of White os) c.requires.right) f)
    c.form_in_order.ensures.form

pub returns-clause-refusal : goal.returns-clause-refusal
returns-clause-refusal c =
    let Ts = c.args.store.now in
    let os = c.args.options.now in
    let sorted = c.deref.result.now in
    let same = permuted-same os sorted (subst (IsPermutation os) (sym c.deref.ensures.value) (c.in_ok-sorted.ensures {u = tt})) in
    IfErr-weaker c.form_in_order.result _ _ (λ error. cause-as (listed Ts (options_of Black sorted) (options_of White sorted))
    (listed Ts (options_of Black os) (options_of White os)) c.args.parts_limit error (listed-enough os sorted Ts (enough-same Ts os sorted same)))
    c.form_in_order.ensures.refusal
