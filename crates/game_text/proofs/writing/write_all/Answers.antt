use Rattle.std.proofs.Common.{nat_eq}
use Rattle.indexmap.specs.IndexMap.{get}
use Rattle.game_text.proofs.WritingSteps.{written-options}
use Rattle.game_text.proofs.writing.write_all.Goals as goal

pub write_form-requires-clause-options : goal.write_form-requires-clause-options
write_form-requires-clause-options c = written-options c.args.store.now c.args.ids.now c.loop-id.id-index c.loop-id.texts.bytes.items (get nat_eq c.loop-id.texts.spans) c.requires.distinct c.requires.closed c.loop-id.invariant c.loop-id-test.true

pub write_form-requires-clause-among : goal.write_form-requires-clause-among
write_form-requires-clause-among c = c.requires.found.among c.loop-id.id-index c.loop-id-test.true c.loop-id-test.true
