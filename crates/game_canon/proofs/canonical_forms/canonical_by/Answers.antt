use Rattle.game_canon.proofs.CanonicalFormLaws.{made-number, number-few, number-near, right-grown}
use Rattle.game_canon.proofs.canonical_forms.canonical_by.Goals as goal

pub returns-in_ok-number-in-Number-clause-value : goal.returns-in_ok-number-in-Number-clause-value
returns-in_ok-number-in-Number-clause-value c = made-number _ _ _ _ c.in-Number.ensures c.in_ok-number-in-Number.ensures.value

pub returns-in_ok-number-in-Number-clause-parts : goal.returns-in_ok-number-in-Number-clause-parts
returns-in_ok-number-in-Number-clause-parts c = number-few _ c.in-Number.x _ c.args.parts_limit c.in_ok-number-in-Number.ensures.value

pub returns-in_ok-number-in-Number-clause-sizes : goal.returns-in_ok-number-in-Number-clause-sizes
returns-in_ok-number-in-Number-clause-sizes c = λ b w. number-near _ c.in-Number.x _ b c.in_ok-number-in-Number.ensures.value (c.in-Number.ensures.3 b w)

pub returns-in_ok-number-in-Number-clause-comparisons : goal.returns-in_ok-number-in-Number-clause-comparisons
returns-in_ok-number-in-Number-clause-comparisons c = right-grown c.args.store.now c.number.new.self _ c.number.ensures.kept
    c.requires.comparisons

pub returns-in_err-number-in-Number-clause-comparisons : goal.returns-in_err-number-in-Number-clause-comparisons
returns-in_err-number-in-Number-clause-comparisons c = right-grown c.args.store.now c.number.new.self _ c.number.ensures.kept
    c.requires.comparisons

pub returns-in-NoNumber-clause-value : goal.returns-in-NoNumber-clause-value
returns-in-NoNumber-clause-value c = c.reduced_form.ensures.value

pub returns-in-NoNumber-clause-parts : goal.returns-in-NoNumber-clause-parts
returns-in-NoNumber-clause-parts c = c.reduced_form.ensures.parts

pub returns-in-NoNumber-clause-refusal : goal.returns-in-NoNumber-clause-refusal
returns-in-NoNumber-clause-refusal c = c.reduced_form.ensures.refusal

pub returns-in-NoNumber-clause-sizes : goal.returns-in-NoNumber-clause-sizes
returns-in-NoNumber-clause-sizes c = c.reduced_form.ensures.sizes

pub returns-in-NoNumber-clause-comparisons : goal.returns-in-NoNumber-clause-comparisons
returns-in-NoNumber-clause-comparisons c = c.reduced_form.ensures.comparisons

pub returns-in-NoNumber-clause-kept : goal.returns-in-NoNumber-clause-kept
returns-in-NoNumber-clause-kept c = c.reduced_form.ensures.kept
