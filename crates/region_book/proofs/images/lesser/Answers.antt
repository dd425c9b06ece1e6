use Rattle.region_book.proofs.MadeLaws.{at_most_itself}
use Rattle.region_book.proofs.images.lesser.Goals as goal

pub returns-then-is_at_most-clause-first : goal.returns-then-is_at_most-clause-first
returns-then-is_at_most-clause-first c = at_most_itself c.args.a.spots.items

pub returns-clause-second : goal.returns-clause-second
returns-clause-second c = at_most_itself c.args.b.spots.items
