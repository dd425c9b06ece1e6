use Rattle.std.proofs.lemmas.Result.{IfErr-weaker, IfOk-weaker}
use Rattle.std.proofs.Common.{sym, ◌∙◌}
use Rattle.short_games.specs.Sum.{◌+ᵍ◌}
use Rattle.short_games.specs.Tree.{tree_at}
use Rattle.game_store.specs.Meaning.{listed}
use Rattle.game_canon.specs.Outcomes.{IsCanonicalId, IsCause}
use Rattle.short_games.proofs.SumLaws.{plus-comm}
use Rattle.game_calc.specs.inner.Steps.{IsPairRefusal}
use Rattle.game_calc.specs.inner.Table.{noted}
use Rattle.game_calc.proofs.GroupSteps.{ArePairGroups, pair-groups}
use Rattle.game_calc.proofs.SumSteps.{IsPairForm, pair-form, id-as, refusal-as}
use Rattle.game_calc.proofs.pair.pair_sum.Goals as goal

made : (c : goal.After-deref-2) → IsPairForm c.args.store.now c.args.a c.args.b c.deref.result.now c.deref-2.result.now
made c = pair-form c.args.store.now c.args.parts_limit (noted c.args.sums.now) c.args.a c.args.b c.new.result.items c.new-2.result.items c.add_moves.new.options.left.items c.add_moves.new.options.right.items
    c.add_moves-2.new.options.left.items c.add_moves-2.new.options.right.items _ _ c.requires.right c.len-count.ensures.canonical c.requires.a c.requires.b c.in_default-both_numbers.ensures c.new.ensures.items c.new-2.ensures.items
    c.in_ok-add_moves.ensures c.in_ok-add_moves-2.ensures c.deref.ensures.value c.deref-2.ensures.value

made' : (c : goal.After-drop-options-3) → IsPairForm c.args.store.now c.args.a c.args.b c.deref.result.now c.deref-2.result.now
made' c = pair-form c.args.store.now c.args.parts_limit (noted c.args.sums.now) c.args.a c.args.b c.new.result.items c.new-2.result.items c.add_moves.new.options.left.items c.add_moves.new.options.right.items
    c.add_moves-2.new.options.left.items c.add_moves-2.new.options.right.items _ _ c.requires.right c.len-count.ensures.canonical c.requires.a c.requires.b c.in_default-both_numbers.ensures c.new.ensures.items c.new-2.ensures.items
    c.in_ok-add_moves.ensures c.in_ok-add_moves-2.ensures c.deref.ensures.value c.deref-2.ensures.value

groups : (c : goal.After-deref-2) → ArePairGroups c.args.store.now c.deref.result.now c.deref-2.result.now c.cuts_behind-cuts.result.left c.cuts_behind-cuts.result.right
groups c = pair-groups c.args.store.now c.args.parts_limit (noted c.args.sums.now) c.args.a c.args.b c.new.result.items c.new-2.result.items c.add_moves.new.options.left.items c.add_moves.new.options.right.items
    c.add_moves-2.new.options.left.items c.add_moves-2.new.options.right.items _ _ _ _ c.requires.right c.len-count.ensures.canonical c.requires.a c.requires.b c.new.ensures.items c.new-2.ensures.items
    c.in_ok-add_moves.ensures c.in_ok-add_moves-2.ensures c.deref.ensures.value c.deref-2.ensures.value c.cuts_behind-cuts.ensures.left c.cuts_behind-cuts.ensures.right

pub form_of-requires-clause-left_groups : goal.form_of-requires-clause-left_groups
form_of-requires-clause-left_groups c = (groups c).left_groups

pub form_of-requires-clause-right_groups : goal.form_of-requires-clause-right_groups
form_of-requires-clause-right_groups c = (groups c).right_groups

pub form_of-requires-clause-left : goal.form_of-requires-clause-left
form_of-requires-clause-left c = (made c).left_ids

pub form_of-requires-clause-right : goal.form_of-requires-clause-right
form_of-requires-clause-right c = (made c).right_ids

pub returns-clause-value : goal.returns-clause-value
returns-clause-value c =
    let S = tree_at c.args.store.now c.args.a +ᵍ tree_at c.args.store.now c.args.b in
    let F = listed c.args.store.now c.deref.result.now c.deref-2.result.now in
    IfOk-weaker c.form_of.result (λ id. IsCanonicalId c.form_of.new.store F id) (λ id. IsCanonicalId c.form_of.new.store S id)
    (λ id k. id-as c.form_of.new.store S F id (made' c).equal k) c.form_of.ensures.value

pub returns-clause-refusal : goal.returns-clause-refusal
returns-clause-refusal c =
    let S = tree_at c.args.store.now c.args.a +ᵍ tree_at c.args.store.now c.args.b in
    let F = listed c.args.store.now c.deref.result.now c.deref-2.result.now in
    IfErr-weaker c.form_of.result (λ error. IsCause F c.args.parts_limit error) (λ error. IsPairRefusal S c.args.parts_limit error)
    (λ error k. refusal-as S F c.args.parts_limit error (made' c).equal k) c.form_of.ensures.refusal

pub returns-in-Some-clause-value : goal.returns-in-Some-clause-value
returns-in-Some-clause-value c =
    let G = tree_at c.args.store.now c.args.a in
    let H = tree_at c.args.store.now c.args.b in
    id-as c.args.store.now (G +ᵍ H) (H +ᵍ G) c.in-Some.sum (plus-comm G H, plus-comm H G) (c.requires.right c.args.b c.args.a c.in-Some.sum (sym c.noted_sum.ensures ∙ c.in-Some.is)).sum

pub returns-in-Some-clause-parts : goal.returns-in-Some-clause-parts
returns-in-Some-clause-parts c = (c.requires.right c.args.b c.args.a c.in-Some.sum (sym c.noted_sum.ensures ∙ c.in-Some.is)).few

pub returns-clause-parts : goal.returns-clause-parts
returns-clause-parts c = c.form_of.ensures.parts

pub returns-clause-comparisons : goal.returns-clause-comparisons
returns-clause-comparisons c = c.form_of.ensures.comparisons

pub returns-clause-kept : goal.returns-clause-kept
returns-clause-kept c = c.form_of.ensures.kept

pub returns-in-Some-both_numbers-clause-parts : goal.returns-in-Some-both_numbers-clause-parts
returns-in-Some-both_numbers-clause-parts c = c.number_sum.ensures.parts

pub returns-in-Some-both_numbers-clause-kept : goal.returns-in-Some-both_numbers-clause-kept
returns-in-Some-both_numbers-clause-kept c = c.number_sum.ensures.kept

pub form_of-requires-clause-latest : goal.form_of-requires-clause-latest
form_of-requires-clause-latest c = c.requires.latest

pub form_of-requires-clause-comparisons : goal.form_of-requires-clause-comparisons
form_of-requires-clause-comparisons c = c.requires.comparisons
