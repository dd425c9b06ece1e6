use Rattle.game_canon.specs.inner.Reachable.{IsJoined}
use Rattle.game_canon.proofs.reachable_forms.add_ids.Given as goal

abbrev pub invariant-loop-id : goal.invariant-loop-id
invariant-loop-id l = IsJoined l.fn.ids.items l.others l.id-index l.ids.items
