use Rattle.std.proofs.Common.{◌≤◌}
use Rattle.desk_io.proofs.HeldLemmas.{Looked}
use Rattle.desk_io.proofs.lines.LineReader.next_feed.Given as goal

abbrev pub invariant-looking : goal.invariant-looking
invariant-looking g l = Looked l.fn.self l.self (g.S.Source.left l.fn.lines) (g.S.Source.left l.lines) l.at × (g.S.Source.faults l.fn.lines ≤ g.S.Source.faults l.lines)
