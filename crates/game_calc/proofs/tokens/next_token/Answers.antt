use Rattle.std.proofs.Common.{◌∙◌, refl}
use Rattle.std.specs.Prelude.{slice_range}
use Rattle.game_calc.proofs.TokenSteps.{some-bytes}
use Rattle.game_calc.proofs.tokens.next_token.Goals as goal

pub returns-clause-some : goal.returns-clause-some
returns-clause-some c = λ other. some-bytes (slice_range c.args.text.now c.token_start-start.result c.token_end-end.result) c.token_start-start.result c.token_end-end.result c.args.text.now refl (λ e. other (c.kind_of-kind.ensures ∙ e))
