use Rattle.std.proofs.Common.{ℕ, ◌<◌, get_or}
use Rattle.go_grid.specs.Board.{HasStone, other}
use Rattle.benson_attack.specs.declared.captures.Run.{Run}
use Rattle.benson_attack.proofs.campaign.Campaign.taking.Given as goal

abbrev pub invariant-looking : goal.invariant-looking
invariant-looking l = (i : ℕ) (d : Run) → i < l.i → HasStone (get_or l.self.runs.items i d).board (other l.self.by) l.stone
