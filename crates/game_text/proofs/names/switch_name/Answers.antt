use Rattle.std.proofs.Common.{sym}
use Rattle.std.proofs.lemmas.Bool.{true≢false}
use Rattle.game_text.proofs.NimberIdLaws.{not-opposite}
use Rattle.game_text.proofs.names.switch_name.Goals as goal

pub returns-then-not-are_opposite : goal.returns-then-not-are_opposite
returns-then-not-are_opposite c = not-opposite _ _ c.in-Some.x c.in-Some-number_at.y c.in-Some.ensures c.in-Some-number_at.ensures (λ h. true≢false (sym (c.if-not-are_opposite.ensures.1 h)))
