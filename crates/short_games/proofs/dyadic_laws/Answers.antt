use Rattle.short_games.proofs.NumberLaws.{neg-num}
use Rattle.short_games.proofs.ReductionLaws.{number-canonical}
use Rattle.short_games.proofs.DyadicLaws.{numbers-order, numbers-one_tree, numbers-add, numbers-add_once}
use Rattle.short_games.proofs.dyadic_laws.Goals as goal

pub returns-clause-order : goal.returns-clause-order
returns-clause-order c = numbers-order

pub returns-clause-one_tree : goal.returns-clause-one_tree
returns-clause-one_tree c = numbers-one_tree

pub returns-clause-add : goal.returns-clause-add
returns-clause-add c = numbers-add

pub returns-clause-add_once : goal.returns-clause-add_once
returns-clause-add_once c = numbers-add_once

pub returns-clause-turn : goal.returns-clause-turn
returns-clause-turn c = neg-num

pub returns-clause-canonical : goal.returns-clause-canonical
returns-clause-canonical c = number-canonical
