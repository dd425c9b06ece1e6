use Rattle.std.proofs.Common.{arith}
use Rattle.game_text.proofs.NimberPartLaws.{nimber-cause}
use Rattle.game_text.proofs.NameReadingLaws.{nimber-taken}
use Rattle.game_text.proofs.named_games.taken_nimber.Goals as goal

pub returns-then-number-from-clause-refusal : goal.returns-then-number-from-clause-refusal
returns-then-number-from-clause-refusal c = nimber-cause c.args.number c.args.parts_limit c.requires (omega (arith, c.if-number-from.true, c.from.ensures))

pub returns-clause-taken : goal.returns-clause-taken
returns-clause-taken c = nimber-taken c.built_nimber.new.store c.args.parts_limit c.args.number c.in_ok-id.id c.requires (omega (arith, c.if-number-from.false, c.from.ensures)) c.in_ok-id.ensures.value

pub returns-clause-kept : goal.returns-clause-kept
returns-clause-kept c = c.built_nimber.ensures.kept

pub returns-in_err-id-clause-kept : goal.returns-in_err-id-clause-kept
returns-in_err-id-clause-kept c = c.built_nimber.ensures.kept
