use Rattle.std.proofs.Common.{length}
use Rattle.gd_words.specs.Viewed.{task_of, texts}
use Rattle.gd_words.proofs.ListingLemmas.{IsRead}
use Rattle.gd_words.proofs.chosen.read_choices.Given as goal

abbrev pub invariant-choosing : goal.invariant-choosing
invariant-choosing l = IsRead (task_of l.command) (texts l.words) (texts l.left) l.chosen

abbrev pub decreases-choosing : goal.decreases-choosing
decreases-choosing l = length l.left
