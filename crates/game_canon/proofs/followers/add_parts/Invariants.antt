use Rattle.std.proofs.Common.{take}
use Rattle.short_games.specs.Tree.{Has}
use Rattle.game_store.specs.Meaning.{pick}
use Rattle.game_canon.specs.inner.Followers.{IsGrown}
use Rattle.game_canon.proofs.followers.add_parts.Given as goal

abbrev pub invariant-loop-id : goal.invariant-loop-id
invariant-loop-id l = IsGrown l.store (Has (pick l.store (take l.id-index l.ids))) l.fn.found.keys l.found.keys
