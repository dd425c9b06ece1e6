use Rattle.std.proofs.Common.{rules, ◌∙◌, sym, subst}
use Rattle.gd_words.specs.declared.chosen.Chosen.{Chosen}
use Rattle.gd_words.specs.Viewed.{task_of}
use Rattle.gd_words.specs.Task.{GoesWith}
use Rattle.gd_words.specs.inner.Reading.{IsWith}
use Rattle.gd_words.proofs.OneOptionLemmas.{one_choice}
use Rattle.gd_words.proofs.ListingLemmas.{at_none, read_start, read_two, next_two, next_one}
use Rattle.gd_words.proofs.chosen.read_choices.Goals as goal

pub choosing-init : goal.choosing-init
choosing-init c = read_start _ _ _ c.default-chosen.ensures

pub returns-in_err-choice-clause-none : goal.returns-in_err-choice-clause-none
returns-in_err-choice-clause-none c = at_none _ _ c.from_residual.ensures
    (λ o a. let n = next_two _ _ _ _ _ _ o c.in-len2-up.len_at_least c.choosing.invariant a in c.in_err-choice.ensures.none n.choice n.said)

pub returns-then-not-takes-clause-none : goal.returns-then-not-takes-clause-none
returns-then-not-takes-clause-none c o a =
    let n = next_two _ _ _ _ _ _ o c.in-len2-up.len_at_least c.choosing.invariant a in
    let same = one_choice _ _ _ _ n.said c.in_ok-choice.ensures.some in
    let takes = c.takes.ensures.1 (subst (GoesWith (task_of c.args.command.now)) same n.fits) in
    search rules

pub returns-in_err-chosen-clause-none : goal.returns-in_err-chosen-clause-none
returns-in_err-chosen-clause-none c = at_none _ _ c.from_residual-in_err-chosen.ensures
    (λ o a.
    let n = next_two _ _ _ _ _ _ o c.in-len2-up.len_at_least c.choosing.invariant a in
    let same = one_choice _ _ _ _ n.said c.in_ok-choice.ensures.some in
    n.new (subst (λ x. (p : Chosen) → ¬ IsWith c.choosing.chosen x p) (sym same) c.in_err-chosen.ensures.none))

pub choosing-preserved : goal.choosing-preserved
choosing-preserved c = read_two _ _ c.choosing.left.now _ _ _ _ _ c.in-len2-up.len_at_least c.choosing.invariant c.in_ok-choice.ensures.some (c.takes.ensures.0 (search rules)) c.in_ok-chosen.ensures.some

pub returns-clause-none : goal.returns-clause-none
returns-clause-none c o a = next_one _ _ c.choosing.left.now _ o c.in_default.len_below (sym c.is_empty.ensures ∙ c.if-is_empty.false) c.choosing.invariant a
