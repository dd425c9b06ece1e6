use Rattle.short_games.specs.Number.{IsNumber}
use Rattle.short_games.specs.TextOrder.{TextBefore}
use Rattle.short_games.proofs.AvoidanceLaws.{cheap_left, cheap_right, left-avoids, right-avoids}
use Rattle.short_games.proofs.FormLaws.{number_tree, translation}
use Rattle.short_games.proofs.TextOrderLaws.{text-order}
use Rattle.short_games.proofs.ThresholdLaws.{has-simplest, one-simplest, number-fits, simplest-value}
use Rattle.short_games.proofs.number_laws.Goals as goal

pub returns-clause-left : goal.returns-clause-left
returns-clause-left c = left-avoids

pub returns-clause-right : goal.returns-clause-right
returns-clause-right c = right-avoids

pub returns-clause-translation : goal.returns-clause-translation
returns-clause-translation c = λ G e m canonical other.
    let hot : IsNumber G → ⊥ = number_tree TextBefore text-order.irreflexive text-order.transitive G canonical (λ k n is. other (k, n, is)) in
    translation e G m (cheap_left G hot e) (cheap_right G hot e)

pub returns-clause-simplest : goal.returns-clause-simplest
returns-clause-simplest c = simplest-value

pub returns-clause-fitting : goal.returns-clause-fitting
returns-clause-fitting c = λ G X i f. (let s = has-simplest G X i f in (s.0, s.1, λ Z z. one-simplest G s.0 Z s.1 z))

pub returns-clause-fit : goal.returns-clause-fit
returns-clause-fit c = number-fits
