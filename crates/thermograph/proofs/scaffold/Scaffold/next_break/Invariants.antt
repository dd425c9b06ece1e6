use Rattle.std.proofs.Common.{◌<◌, ◌≤◌, ℕ, [], get_or}
use Rattle.thermograph.specs.inner.Scaffolds.{IsClear, picked}
use Rattle.thermograph.proofs.scaffold.Scaffold.next_break.Given as goal

abbrev pub invariant-loop-id : goal.invariant-loop-id
invariant-loop-id l = (l.start < l.next) × (l.next ≤ l.end) × ((j : ℕ) → j < l.id-index → IsClear l.start l.next (get_or (picked l.self.walls.now l.self.ids.now) j []))
