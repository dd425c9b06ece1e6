use Rattle.std.proofs.Common.{refl}
use Rattle.go_grid.proofs.FillLemmas.{idle_filled}
use Rattle.go_grid.proofs.fills.idle.Goals as goal

pub returns-clause-filled : goal.returns-clause-filled
returns-clause-filled c columns within = idle_filled columns within _ c.new.ensures refl
