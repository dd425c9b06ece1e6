use Rattle.short_games.proofs.OrderLaws.{le-out, le-in, le-refl, le-trans, not-both, not-le}
use Rattle.short_games.proofs.order_laws.Goals as goal

pub returns-clause-is : goal.returns-clause-is
returns-clause-is c = λ G H. (le-out G H, le-in G H)

pub returns-clause-reflexive : goal.returns-clause-reflexive
returns-clause-reflexive c = le-refl

pub returns-clause-transitive : goal.returns-clause-transitive
returns-clause-transitive c = le-trans

pub returns-clause-confused : goal.returns-clause-confused
returns-clause-confused c = λ G H. (λ q p. not-both H G p q, not-le H G)
