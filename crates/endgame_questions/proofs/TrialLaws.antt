-- What keeps the board of a number from being solved.
use Rattle.std.proofs.Common.{◌≤◌, ℕ, inl, inr, arith, List, Err, false}
use Rattle.std.proofs.lemmas.List.Elements.{Contains-get_or}
use Rattle.go_grid.specs.declared.grid.Cell.{Cell}
use Rattle.go_grid.specs.declared.region.Touch.{Touch}
use Rattle.go_play.specs.Setup.{Setup}
use Rattle.local_graph.specs.LocalGraph.{MoreThan}
use Rattle.board_gen.specs.Short.{HasShortRegions}
use Rattle.endgame_solver.specs.declared.faults.SolveError.{SolveError}
use Rattle.endgame_solver.specs.declared.faults.SolveError.TheVariants.{Points, Positions, Cycle, Form, Memory}
use Rattle.endgame_solver.specs.Regions.{no_region}
use Rattle.endgame_solver.specs.Solved.{Begun}
use Rattle.endgame_questions.specs.Trial.{trial_limits}
use Rattle.endgame_questions.specs.inner.Trial.{IsWantOfMemory}

fewer_positions : (touch : List Touch) (cells : List Cell) (m n : ℕ) → m ≤ n → MoreThan touch cells n → MoreThan touch cells m
fewer_positions touch cells m n le h = record { found = h.found; different = h.different; reachable = h.reachable; many = omega (arith, le, h.many) }

-- nothing but want of memory keeps short regions from being solved
pub only_memory : (setup : Setup) (fault : SolveError) → HasShortRegions setup.board → Begun setup false trial_limits (Err fault) → IsWantOfMemory fault
only_memory setup (Memory e) short b = tt
only_memory setup (Points p n) short (regions, are, (k, lt, low, many, large, before)) =
    let s = short regions are _ (Contains-get_or regions k no_region lt) in absurd (omega (arith, s.points, many, large))
only_memory setup (Positions p) short (regions, are, (small, (k, lt, (low, more), before))) =
    let s = short regions are _ (Contains-get_or regions k no_region lt) in absurd (s.positions (fewer_positions _ _ 27 100000 (omega arith) more))
only_memory setup (Cycle p names back) short (regions, are, (small, (k, lt, (low, few, (moves, cycle, different, named)), before))) =
    let s = short regions are _ (Contains-get_or regions k no_region lt) in absurd (s.no_cycle moves back cycle)
only_memory setup (Form p) short (regions, are, (small, (k, lt, (low, few, ends, (cells, reached, (V, value, inl more))), before))) =
    let s = short regions are _ (Contains-get_or regions k no_region lt) in absurd (s.parts cells V reached value more)
only_memory setup (Form p) short (regions, are, (small, (k, lt, (low, few, ends, (cells, reached, (V, value, inr past))), before))) =
    let s = short regions are _ (Contains-get_or regions k no_region lt) in absurd (s.bounds cells V reached value past)
