use Rattle.region_cut.proofs.CutLemmas.{CutBelow}
use Rattle.region_cut.proofs.cuts.cut_sets.Given as goal

abbrev pub invariant-cutting : goal.invariant-cutting
invariant-cutting l = CutBelow l.board l.parts l.regions.items l.number
