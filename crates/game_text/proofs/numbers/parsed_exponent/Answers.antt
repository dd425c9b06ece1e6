use Rattle.std.proofs.Common.{ℕ, ◌^◌, ap}
use Rattle.std.specs.Prelude.{Some}
use Rattle.game_text.proofs.ParsingLaws.{not-none, some-is, power-fits, power-some, exponent-is}
use Rattle.game_text.proofs.numbers.parsed_exponent.Goals as goal

pub returns-in_err-power : goal.returns-in_err-power
returns-in_err-power c n h e = absurd (not-none (2 ^ n) c.parsed_count.result (c.parsed_count.ensures (2 ^ n) (power-fits n h) e) c.in_err-power.was)

pub returns-then-power-eq0 : goal.returns-then-power-eq0
returns-then-power-eq0 c n h e = absurd (power-some n c.in_ok-power.power (some-is c.in_ok-power.power (2 ^ n) c.parsed_count.result c.in_ok-power.was (c.parsed_count.ensures (2 ^ n) (power-fits n h) e)) c.if-power-eq0.true)

pub returns : goal.returns
returns c n h e = ap (λ (x : ℕ). Some x) (exponent-is n c.in_ok-power.power c.ilog2.result (some-is c.in_ok-power.power (2 ^ n) c.parsed_count.result c.in_ok-power.was (c.parsed_count.ensures (2 ^ n) (power-fits n h) e)) c.ilog2.ensures.power_le c.ilog2.ensures.next_power_gt)
