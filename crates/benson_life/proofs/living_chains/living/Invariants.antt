use Rattle.std.specs.List.{count_by}
use Rattle.benson_life.proofs.StrikingLemmas.{MayBeAlive}
use Rattle.benson_life.proofs.living_chains.living.Given as goal

abbrev pub invariant-striking : goal.invariant-striking
invariant-striking l = MayBeAlive l.board l.colour l.kept

abbrev pub decreases-striking : goal.decreases-striking
decreases-striking l = count_by (λ m. m) l.kept
