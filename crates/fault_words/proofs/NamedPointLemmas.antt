-- The points that faults of regions name are points of the board.
use Rattle.std.proofs.Common.{ℕ, zero, suc, ◌<◌, ◌++◌, List, [], ◌∷◌, length, map, take, drop, get_or, sym, subst, arith, Bool, Err}
use Rattle.std.specs.List.{All, Contains}
use Rattle.std.proofs.lemmas.List.{take-append-drop}
use Rattle.std.proofs.lemmas.List.Elements.{All-map, Contains-get_or}
use Rattle.go_grid.proofs.PlayLemmas.{long_after}
use Rattle.go_grid.proofs.WalkLemmas.{joined_end}
use Rattle.go_grid.specs.declared.grid.Cell.{Cell}
use Rattle.go_grid.specs.declared.region.Touch.{Touch}
use Rattle.go_grid.specs.Board.{Board}
use Rattle.go_grid.specs.Region.{Region}
use Rattle.benson_life.specs.Region.{IsContested}
use Rattle.region_cut.specs.Cut.{lowest, AreRegionsOfPlay}
use Rattle.go_play.specs.Setup.{Setup}
use Rattle.local_graph.specs.declared.cycle.CycleMove.{CycleMove}
use Rattle.local_graph.specs.LocalGraph.{IsCycle, Plays}
use Rattle.endgame_solver.specs.Limits.{Limits}
use Rattle.endgame_solver.specs.declared.faults.SolveError.{SolveError}
use Rattle.endgame_solver.specs.declared.faults.SolveError.TheVariants.{Points, Positions, Cycle, Form, Memory}
use Rattle.endgame_solver.specs.Faults.{named}
use Rattle.endgame_solver.specs.Regions.{region_at, no_region}
use Rattle.endgame_solver.specs.Solved.{Begun}
use Rattle.fault_words.specs.NamedPoints.{NamesPoints}

plays_join : (touch : List Touch) (from mid to : List Cell) (ms ns : List CycleMove) → Plays touch from ms mid → Plays touch mid ns to → Plays touch from (ms ++ ns) to
plays_join touch from mid to [] ns p q = subst (λ x. Plays touch x ns to) (sym p) q
plays_join touch from mid to (m ∷ ms) ns p q = (p.0, p.1, plays_join touch p.0 mid to ms ns p.2 q)

-- the places of moves that can be played are those of cells
plays_inside : (touch : List Touch) (from to : List Cell) (ms : List CycleMove) → Plays touch from ms to → All (λ m. m.place < length from) ms
plays_inside touch from to [] p k d lt = absurd (omega arith)
plays_inside touch from to (m ∷ ms) p zero d lt = p.1.place
plays_inside touch from to (m ∷ ms) p (suc k) d lt = let rest = plays_inside touch p.0 to ms p.2 k d (omega arith) in omega (arith, rest, long_after p.1)

cycle_inside : (touch : List Touch) (opening : List Cell) (ms : List CycleMove) (back : ℕ) → IsCycle touch opening ms back → All (λ m. m.place < length opening) ms
cycle_inside touch opening ms back c =
    let whole = plays_join touch opening c.returns_to c.returns_to (take back ms) (drop back ms) c.there c.again in
    plays_inside touch opening c.returns_to ms (subst (λ l. Plays touch opening l c.returns_to) (take-append-drop back ms) whole)

module _ (g : Board) (regions : List Region) (are : AreRegionsOfPlay g regions) (k : ℕ) (lt : k < length regions) where
  here : Contains regions (region_at regions k)
  here = Contains-get_or regions k no_region lt

  -- the points of a region are points of the board
  on_board : (p : ℕ) → Contains (region_at regions k).points p → p < length g.cells
  on_board p h = (joined_end g.columns (IsContested g) (lowest (region_at regions k)) p (((are.each (region_at regions k) here).points p).0 h)).0

  pub lowest_on_board : lowest (region_at regions k) < length g.cells
  lowest_on_board = on_board _ (Contains-get_or (region_at regions k).points 0 0 (are.each (region_at regions k) here).proper.some)

  pub cycle_on_board : (ms : List CycleMove) (back : ℕ) → IsCycle (region_at regions k).touch (region_at regions k).cells ms back
      → All (λ m. m.1 < length g.cells) (map (named (region_at regions k)) ms)
  cycle_on_board ms back c =
      let r = region_at regions k in
      All-map (λ m. m.1 < length g.cells) (named r) ms
      (λ j d below. let inside = cycle_inside r.touch r.cells ms back c j d below in
      on_board _ (Contains-get_or r.points (get_or ms j d).place 0 (omega (arith, inside, (are.each r here).proper.full))))

-- the points that a fault names are points of the board
pub names_points : (setup : Setup) (tax : Bool) (limits : Limits) (fault : SolveError) → Begun setup tax limits (Err fault) → NamesPoints (length setup.board.cells) fault
names_points setup tax limits (Points p n) (regions, are, first) = subst (λ q. q < length setup.board.cells) (sym first.2) (lowest_on_board setup.board regions are first.0 first.1)
names_points setup tax limits (Positions p) (regions, are, (small, first)) =
    subst (λ q. q < length setup.board.cells) (sym first.2.0) (lowest_on_board setup.board regions are first.0 first.1)
names_points setup tax limits (Cycle p names back) (regions, are, (small, first)) = let c = first.2.2 in (
  subst (λ q. q < length setup.board.cells) (sym first.2.0) (lowest_on_board setup.board regions are first.0 first.1),
  subst (All (λ m. m.1 < length setup.board.cells)) (sym c.3) (cycle_on_board setup.board regions are first.0 first.1 c.0 back c.1),
)
names_points setup tax limits (Form p) (regions, are, (small, first)) =
    subst (λ q. q < length setup.board.cells) (sym first.2.0) (lowest_on_board setup.board regions are first.0 first.1)
names_points setup tax limits (Memory e) b = tt
