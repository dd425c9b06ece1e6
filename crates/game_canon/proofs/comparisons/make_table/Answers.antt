use Rattle.game_canon.proofs.TableLaws.{all-forgotten}
use Rattle.game_canon.proofs.comparisons.make_table.Goals as goal

pub returns-in-Ok : goal.returns-in-Ok
returns-in-Ok c = all-forgotten _ record { near = c.in-Ok.table; far = c.clear.new.self } _ c.in-Ok.ensures.items (λ v h. h)
    c.clear.ensures.empty
