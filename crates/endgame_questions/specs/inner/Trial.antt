-- Where a trial ended for want of memory.
use Rattle.endgame_solver.specs.declared.faults.SolveError.{SolveError}
use Rattle.endgame_solver.specs.declared.faults.SolveError.TheVariants.{Memory}

-- the fault is want of memory
abbrev pub IsWantOfMemory : SolveError → Type 0
IsWantOfMemory (Memory e) = Unit {0}
IsWantOfMemory fault = ⊥
