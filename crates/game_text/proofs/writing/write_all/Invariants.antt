use Rattle.std.proofs.Common.{nat_eq}
use Rattle.indexmap.specs.IndexMap.{get}
use Rattle.game_text.specs.inner.Written.{AreWritten}
use Rattle.game_text.proofs.writing.write_all.Given as goal

abbrev pub invariant-loop-id : goal.invariant-loop-id
invariant-loop-id l = AreWritten l.store l.ids l.id-index l.texts.bytes.items (get nat_eq l.texts.spans)
