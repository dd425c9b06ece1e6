use Rattle.std.proofs.Common.{◌≡◌, map, take, nat_eq}
use Rattle.indexmap.specs.IndexMap.{get}
use Rattle.game_text.specs.inner.Written.{text_at}
use Rattle.game_text.proofs.texts.sorted_texts.Given as goal

abbrev pub invariant-loop-id : goal.invariant-loop-id
invariant-loop-id l = map (λ t. t.now) l.found.items ≡ map (λ id. text_at l.texts.bytes.items (get nat_eq l.texts.spans id)) (take l.id-index l.ids)
