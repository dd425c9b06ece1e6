use Rattle.std.proofs.Common.{◌≤◌}
use Rattle.local_value.proofs.form_table.FormTable.find_set.Given as goal

abbrev pub invariant-looking : goal.invariant-looking
invariant-looking l = l.link ≤ l.self-inside.chains

abbrev pub decreases-looking : goal.decreases-looking
decreases-looking l = l.link
