use Rattle.std.proofs.Common.{sym, ◌∙◌}
use Rattle.region_book.proofs.MadeLaws.{at_most_else}
use Rattle.region_book.proofs.images.is_at_most.Goals as goal

pub returns-clause-second : goal.returns-clause-second
returns-clause-second c e = at_most_else c.args.a.now c.args.b.now c.cmp.result c.cmp.ensures (sym c.is_le.ensures ∙ e)
