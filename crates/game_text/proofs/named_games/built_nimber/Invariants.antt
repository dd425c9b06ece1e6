use Rattle.std.proofs.Common.{◌+◌, ◌-◌, ◌<◌, ◌≤◌, length}
use Rattle.game_store.specs.Meaning.{Extends}
use Rattle.game_text.specs.inner.Written.{AreNimbers}
use Rattle.game_text.proofs.named_games.built_nimber.Given as goal

abbrev pub invariant-building : goal.invariant-building
invariant-building l = record { nimbers : AreNimbers l.store l.nimbers.items; some : 0 < length l.nimbers.items; few : length l.nimbers.items ≤ l.fn.number + 1; kept : Extends l.fn.store l.store }

abbrev pub decreases-building : goal.decreases-building
decreases-building l = l.fn.number + 1 - length l.nimbers.items
