use Rattle.std.proofs.Common.{◌≡◌, length}
use Rattle.game_canon.specs.inner.Changes.{noted}
use Rattle.game_canon.proofs.ChangedIdLaws.{IsChanging}
use Rattle.game_canon.proofs.change.change_all.Given as goal

abbrev pub invariant-loop-id : goal.invariant-loop-id
invariant-loop-id l = IsChanging l.fn.store l.store l.change (noted l.ids l.afters.items) l.ids l.id-index × (length l.afters.items ≡ l.id-index)
