use Rattle.std.proofs.Common.{arith}
use Rattle.std.proofs.lemmas.Bool.{leb-true, leb-false}
use Rattle.game_canon.proofs.NumberPartLaws.{few-stored}
use Rattle.game_canon.proofs.PartLaws.{more-over, more-counted, few-counted}
use Rattle.game_canon.proofs.followers.has_more_parts.Goals as goal

pub returns-in-Some-clause-more : goal.returns-in-Some-clause-more
returns-in-Some-clause-more c = λ e. more-counted c.args.store.now c.args.left.now c.args.right.now c.in-Some.count c.args.limit c.requires.no_number (rw c.in-Some.is at c.in_ok-count.ensures.count) (leb-true c.args.limit c.in-Some.count e)

pub returns-in-Some-clause-few : goal.returns-in-Some-clause-few
returns-in-Some-clause-few c = λ e. few-counted c.args.store.now c.args.left.now c.args.right.now c.in-Some.count c.args.limit (rw c.in-Some.is at c.in_ok-count.ensures.count) (leb-false c.args.limit c.in-Some.count e)

pub returns-in-None-clause-more : goal.returns-in-None-clause-more
returns-in-None-clause-more c = λ _. more-over c.args.store.now c.args.left.now c.args.right.now c.args.limit c.requires.no_number (rw c.in-None.is at c.in_ok-count.ensures.count)

pub returns-then-len-from-clause-few : goal.returns-then-len-from-clause-few
returns-then-len-from-clause-few c = λ _. few-stored c.args.store.now c.args.left.now c.args.right.now c.args.limit c.len.ensures.forms c.requires.left c.requires.right (omega arith)
