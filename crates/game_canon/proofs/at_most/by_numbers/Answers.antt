use Rattle.std.proofs.Common.{refl, sym, ◌∙◌}
use Rattle.std.proofs.lemmas.Bool.{false≢true}
use Rattle.game_store.proofs.StoreLaws.{at_most, is_above}
use Rattle.game_canon.proofs.ComparisonLaws.{number_between, number_under, number_over, first_level, second_level}
use Rattle.game_canon.proofs.at_most.by_numbers.Goals as goal

pub returns-then-le-clause-some : goal.returns-then-le-clause-some
returns-then-le-clause-some c = (λ _. number_between _ _ _ _ c.ceiling-high.ensures c.floor-other_low.ensures ((at_most _ _ _ c.le.ensures).0 c.if-le.true), λ _. refl)

pub returns-then-gt-clause-some : goal.returns-then-gt-clause-some
returns-then-gt-clause-some c = (λ e. absurd (false≢true e), λ y. absurd (number_under _ _ _ _ c.floor-low.ensures c.floor-other_low.ensures ((is_above _ _ _ c.gt.ensures).0 c.if-gt.true) y))

pub returns-then-gt-2-clause-some : goal.returns-then-gt-2-clause-some
returns-then-gt-2-clause-some c = (λ e. absurd (false≢true e), λ y. absurd (number_over _ _ _ _ c.ceiling-high.ensures c.ceiling.ensures ((is_above _ _ _ c.gt-2.ensures).0 c.if-gt-2.true) y))

pub returns-clause-first_form : goal.returns-clause-first_form
returns-clause-first_form c n = false≢true (sym c.if-le.false ∙ (at_most _ _ _ c.le.ensures).1 (first_level _ _ _ _ n c.floor-low.ensures c.ceiling-high.ensures
    (λ l. false≢true (sym c.if-gt.false ∙ (is_above _ _ _ c.gt.ensures).1 l))))

pub returns-clause-second_form : goal.returns-clause-second_form
returns-clause-second_form c n = false≢true (sym c.if-le.false ∙ (at_most _ _ _ c.le.ensures).1 (second_level _ _ _ _ n c.floor-other_low.ensures c.ceiling.ensures
    (λ l. false≢true (sym c.if-gt-2.false ∙ (is_above _ _ _ c.gt-2.ensures).1 l))))
