use Rattle.std.proofs.Common.{arith, ap}
use Rattle.game_text.proofs.NimberIdLaws.{star-written}
use Rattle.game_text.proofs.names.nimber_text.Goals as goal

pub returns : goal.returns
returns c = star-written c.args.number _ _ _ (omega (arith, c.if-number-lt2.false)) c.ranges.number.fits c.new-text.ensures.bytes c.in_ok-write-2.ensures.bytes (ap (λ v. v.items) c.into_bytes-2.ensures.value)
