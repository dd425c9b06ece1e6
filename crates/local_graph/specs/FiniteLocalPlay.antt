-- Local play without a cycle is short.
use Rattle.std.specs.Prelude.{◌≢◌, ℕ, ◌^◌, ◌<◌, ◌≤◌, List, length, Contains}
use Rattle.std.specs.List.{AllPairs}
use Rattle.go_grid.specs.declared.grid.Cell.{Cell}
use Rattle.go_grid.specs.declared.region.Touch.{Touch}
use Rattle.local_graph.specs.declared.cycle.CycleMove.{CycleMove}
use Rattle.local_graph.specs.LocalGraph.{Plays, IsReachable, IsCycle}

-- a list of different reachable positions has at most 3 to the number of places
abbrev pub FewPositions : List Touch → List Cell → Type 0
FewPositions touch opening = (found : List (List Cell)) → AllPairs (λ a b. a ≢ b) found
    → ((cells : List Cell) → Contains found cells → IsReachable touch opening cells) → length found ≤ 3 ^ length opening

-- no list of moves from the opening ends in a position that it had before
abbrev pub HasNoCycle : List Touch → List Cell → Type 0
HasNoCycle touch opening = (ms : List CycleMove) (back : ℕ) → ¬ IsCycle touch opening ms back

-- where there is no cycle, each list of moves is shorter than a list that has every reachable position
abbrev pub ShortPlay : List Touch → List Cell → Type 0
ShortPlay touch opening = HasNoCycle touch opening → (found : List (List Cell))
    → ((cells : List Cell) → IsReachable touch opening cells → Contains found cells)
    → (ms : List CycleMove) (end : List Cell) → Plays touch opening ms end → length ms < length found
