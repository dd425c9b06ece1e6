use Rattle.short_games.specs.Tree.{neg}
use Rattle.short_games.specs.Sum.{◌+ᵍ◌}
use Rattle.short_games.proofs.OrderLaws.{le-trans}
use Rattle.short_games.proofs.SumLaws.{same_order, same-comm, same-plus, plus-assoc, plus-le, plus-cancel, plus-neg, plus-nought, nought-plus, neg-le, neg-neg, neg-plus}
use Rattle.short_games.proofs.group_laws.Goals as goal

pub returns-clause-associate : goal.returns-clause-associate
returns-clause-associate c = plus-assoc

pub returns-clause-commute : goal.returns-clause-commute
returns-clause-commute c = same-comm

pub returns-clause-neutral : goal.returns-clause-neutral
returns-clause-neutral c = λ G. (plus-nought G, nought-plus G)

pub returns-clause-cancel : goal.returns-clause-cancel
returns-clause-cancel c = plus-neg

pub returns-clause-equals : goal.returns-clause-equals
returns-clause-equals c = same-plus

pub returns-clause-order : goal.returns-clause-order
returns-clause-order c = same_order

pub returns-clause-turn : goal.returns-clause-turn
returns-clause-turn c = λ G H. (neg-le G H, λ p. rw (neg-neg G, neg-neg H) at (neg-le (neg H) (neg G) p))

pub returns-clause-negative : goal.returns-clause-negative
returns-clause-negative c = neg-plus

pub returns-clause-twice : goal.returns-clause-twice
returns-clause-twice c = neg-neg

pub returns-clause-difference : goal.returns-clause-difference
returns-clause-difference c = λ G H. (
  λ p. le-trans _ (G +ᵍ neg G) _ (plus-neg G).1 (plus-le G H (neg G) p),
  λ p. plus-cancel G H (neg G) (le-trans _ _ _ (plus-neg G).0 p),
)
