use Rattle.game_canon.specs.inner.Changes.{noted}
use Rattle.game_canon.proofs.ChangedIdLaws.{IsMapping}
use Rattle.game_canon.proofs.change.changed_list.Given as goal

abbrev pub invariant-loop-id : goal.invariant-loop-id
invariant-loop-id l = IsMapping (noted l.changed.ids.now l.changed.afters.now) l.ids l.found.items l.id-index
