use Rattle.std.proofs.Common.{ℕ, ◌<◌, ◌≤◌, length}
use Rattle.endgame_solver.specs.Regions.{region_at}
use Rattle.endgame_solver.proofs.regions_of_play.first_large.Given as goal

abbrev pub invariant-regions : goal.invariant-regions
invariant-regions l = (j : ℕ) → j < l.region-index → length (region_at l.regions j).points ≤ 32
