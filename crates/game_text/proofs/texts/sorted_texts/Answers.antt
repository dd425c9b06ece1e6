use Rattle.std.proofs.Common.{nat_eq, arith}
use Rattle.indexmap.specs.IndexMap.{get}
use Rattle.game_text.specs.inner.Written.{text_at}
use Rattle.game_text.proofs.SortingLaws.{map-sorted, texts-sorted}
use Rattle.game_text.proofs.texts.sorted_texts.Goals as goal

pub returns-clause-permutation : goal.returns-clause-permutation
returns-clause-permutation c = map-sorted (λ id. text_at c.args.texts.now.bytes.items (get nat_eq c.args.texts.now.spans id)) c.args.ids.now c.loop-id.id-index c.loop-id.found.items c.sort_unstable.new.self.items c.loop-id.invariant (omega (arith, c.loop-id-test.false)) c.sort_unstable.ensures.permutation

pub returns-clause-sorted : goal.returns-clause-sorted
returns-clause-sorted c = texts-sorted c.sort_unstable.new.self.items c.sort_unstable.ensures.sorted
