use Rattle.game_canon.proofs.ChangedIdLaws.{changed-number}
use Rattle.game_canon.proofs.change.changed_number.Goals as goal

pub returns-clause-value : goal.returns-clause-value
returns-clause-value c = changed-number c.number.new.self c.args.change c.args.y c.in-Some.z c.in_ok-number.field-0 c.in_ok-number.ensures.value c.in-Some.ensures
