use Rattle.short_games.specs.TextOrder.{TextBefore}
use Rattle.short_games.proofs.OrderLaws.{le-trans}
use Rattle.short_games.proofs.TextOrderLaws.{text-order}
use Rattle.short_games.proofs.CanonicalLaws.{canonical-unique}
use Rattle.short_games.proofs.ExistenceLaws.{canon}
use Rattle.short_games.proofs.SmallestLaws.{options-below, followers-canonical, born-first, fewest-nodes, fewest-parts, more-parts}
use Rattle.short_games.proofs.CountLaws.{parts-exist}
use Rattle.short_games.proofs.canonical_laws.Goals as goal

pub returns-clause-one : goal.returns-clause-one
returns-clause-one c = λ G. (let r = canon TextBefore text-order.total G in (
  r.tree,
  record { canonical = r.canonical; under = r.under; over = r.over },
  λ D d. canonical-unique TextBefore text-order.irreflexive text-order.transitive r.tree D r.canonical d.canonical (le-trans r.tree G D r.over d.under) (le-trans D G r.tree d.over r.under),
))

pub returns-clause-followers : goal.returns-clause-followers
returns-clause-followers c = options-below

pub returns-clause-inherited : goal.returns-clause-inherited
returns-clause-inherited c = followers-canonical

pub returns-clause-nodes : goal.returns-clause-nodes
returns-clause-nodes c = fewest-nodes

pub returns-clause-parts : goal.returns-clause-parts
returns-clause-parts c = fewest-parts

pub returns-clause-counted : goal.returns-clause-counted
returns-clause-counted c = parts-exist

pub returns-clause-no_fewer : goal.returns-clause-no_fewer
returns-clause-no_fewer c = more-parts

pub returns-clause-born : goal.returns-clause-born
returns-clause-born c = born-first
