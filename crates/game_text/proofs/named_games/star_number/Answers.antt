use Rattle.std.proofs.Common.{refl}
use Rattle.game_text.proofs.NameReadingLaws.{one-star, number-star, bad-star}
use Rattle.game_text.proofs.ReadingExitLaws.{at-none, at-some}
use Rattle.game_text.proofs.named_games.star_number.Goals as goal

pub returns-then-end-start-clause-number : goal.returns-then-end-start-clause-number
returns-then-end-start-clause-number c = one-star c.args.text.now c.args.start c.args.end c.requires c.if-end-start.true

pub returns-in-Some-clause-number : goal.returns-in-Some-clause-number
returns-in-Some-clause-number c = number-star c.args.text.now c.args.start c.args.end c.in-Some.number c.requires (at-some c.in_ok-number.field-0 c.in-Some.number _ _ c.in-Some.is c.in_ok-number.ensures)

pub returns-in-None-clause-refusal : goal.returns-in-None-clause-refusal
returns-in-None-clause-refusal c l = (refl, bad-star c.args.text.now c.args.start c.args.end c.requires c.if-end-start.false (at-none c.in_ok-number.field-0 _ _ c.in-None.is c.in_ok-number.ensures))
