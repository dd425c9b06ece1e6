-- The regions of play of a trial board: at most three points each, beside alive stones of one colour.
use Rattle.std.proofs.Common.{◌≡◌, ◌∙◌, ℕ, List, ◌+◌, ◌-◌, ◌*◌, ◌/◌, ◌%◌, ◌^◌, ◌≤◌, inl, inr, refl, sym, ap, subst, arith, length, get_or}
use Rattle.std.specs.List.{Contains}
use Rattle.std.proofs.Math.Nat.{pow-le-pow_right}
use Rattle.std.proofs.lemmas.Bool.{cases_lt}
use Rattle.std.proofs.lemmas.List.Elements.{Contains-get_or}
use Rattle.std.proofs.lemmas.Nat.{div-add-mod'}
use Rattle.go_grid.specs.declared.grid.Cell.{Cell}
use Rattle.go_grid.specs.declared.grid.Cell.TheVariants as cell
use Rattle.go_grid.specs.declared.grid.Colour.{Colour}
use Rattle.go_grid.specs.declared.grid.Colour.TheVariants as colour
use Rattle.go_grid.specs.Board.{Board, NextTo, IsEmpty, cell_at}
use Rattle.go_grid.specs.Region.{Region, IsBeside as IsBesideTouch, touch_at}
use Rattle.go_grid.specs.Walk.{Joined}
use Rattle.go_grid.proofs.NearLemmas.{next_up}
use Rattle.go_grid.proofs.WalkLemmas.{carried, joined_end}
use Rattle.benson_life.specs.Region.{IsContested}
use Rattle.region_cut.specs.Cut.{IsRegionOfPlay, lowest}
use Rattle.local_play.specs.LocalPlay.{IsBeside}
use Rattle.local_graph.specs.FiniteLocalPlay.{HasNoCycle}
use Rattle.local_graph.specs.LocalGraph.{IsReachable}
use Rattle.local_graph.proofs.FiniteLemmas.{few_positions}
use Rattle.board_gen.specs.Short.{HasShortRegions, IsShort}
use Rattle.board_gen.specs.Trial.{IsTrialBoard}
use Rattle.board_gen.proofs.AliveLemmas.{all_alive}
use Rattle.board_gen.proofs.GapLemmas.{IsGap, IsInGap, few_in_gap, gap_of, next_in_gap}
use Rattle.board_gen.proofs.FormLemmas.{few_parts, small_numbers}
use Rattle.board_gen.proofs.ReturnLemmas.{AreWalled, no_cycle, plays_long}

-- the two ways to say that an alive stone is next to a place
beside_same : (c : Colour) (r : Region) (i : ℕ) → IsBesideTouch c (touch_at r.touch i) → IsBeside r.touch c i
beside_same colour.Black r i h = h
beside_same colour.White r i h = h

module _ (number : ℕ) (g : Board) (board : IsTrialBoard number g) where
  contested_empty : (p : ℕ) → IsContested g p → IsEmpty g p
  contested_empty p (inside, black, white, _, _) = (inside, at (cell_at g p) refl)
    where
      at : (held : Cell) → cell_at g p ≡ held → cell_at g p ≡ cell.Empty
      at cell.Empty e = e
      at cell.Black e = absurd (black (all_alive number g board colour.Black p (inside, e)))
      at cell.White e = absurd (white (all_alive number g board colour.White p (inside, e)))

  module _ (r : Region) (is : IsRegionOfPlay g r) where
    first_empty : IsEmpty g (lowest r)
    first_empty =
        let here = (is.points (lowest r)).0 (Contains-get_or r.points 0 0 is.proper.some) in
        contested_empty (lowest r) (joined_end g.columns (IsContested g) (lowest r) (lowest r) here)

    -- all points of the region are in the gap of its lowest
    in_gap : (c : Colour) (row first end : ℕ) → IsGap g c row first end → IsInGap row first end (lowest r) → (p : ℕ) → Contains r.points p
        → IsInGap row first end p
    in_gap c row first end gap i p h =
        carried 25 (IsContested g) (IsInGap row first end)
        (λ a b here next contested. next_in_gap g c row first end a b gap here next (contested_empty b contested)) (lowest r) p i
        (subst (λ w. Joined w (IsContested g) (lowest r) p) board.columns ((is.points p).0 h))

    few : length r.points ≤ 3
    few = elim (cases_lt 3 (length r.points)) [
      | inr le ↦ le
      | inl more ↦ absurd (gap_of number g board (lowest r) first_empty (λ (c, (row, (first, (end, (gap, i))))).
          omega (arith, more, few_in_gap row first end r.points gap.narrow is.proper.ascending (in_gap c row first end gap i))))
    ]

    -- the stones above the points are alive
    walled : (c : Colour) (row first end : ℕ) → IsGap g c row first end → IsInGap row first end (lowest r) → AreWalled r.touch (length r.points) c
    walled c row first end gap i k lt =
        let p = get_or r.points k 0 in
        let there = in_gap c row first end gap i p (Contains-get_or r.points k 0 lt) in
        let rows : p / 25 * 25 ≡ row * 25 = ap (λ z. z * 25) there.row_is in
        let up : p - 25 ≡ (row - 1) * 25 + p % 25 = omega (arith, rows, gap.above, div-add-mod' p 25) in
        let stone = gap.stones_above (p % 25) there.from there.below in
        let next : NextTo 25 p (p - 25) = next_up 25 p (omega arith) (omega (arith, rows, gap.above, div-add-mod' p 25)) in
        beside_same c r k ((is.walls k c lt).1 (
          (row - 1) * 25 + p % 25,
          subst (λ w. NextTo w p ((row - 1) * 25 + p % 25)) (sym board.columns) (subst (NextTo 25 p) up next),
          all_alive number g board c ((row - 1) * 25 + p % 25) stone,
        ))

    ends : HasNoCycle r.touch r.cells
    ends ms back cycle = gap_of number g board (lowest r) first_empty (λ (c, (row, (first, (end, (gap, i))))).
        no_cycle r.touch (length r.points) c (walled c row first end gap i) r.cells is.proper.full ms back cycle)

    short : IsShort r
    short = record {
      points = few;
      positions = λ more.
          let most = few_positions r.touch r.cells more.found more.different more.reachable in
          let small : length r.cells ≤ 3 = omega (arith, few, is.proper.full) in
          let third : 3 ^ length r.cells ≤ 3 ^ 3 = pow-le-pow_right {n = 3} (omega arith) small in
          omega (arith, more.many, most, third);
      no_cycle = ends;
      parts = λ cells V reached value more. gap_of number g board (lowest r) first_empty (λ (c, (row, (first, (end, (gap, i))))).
          few_parts r.touch (length r.points) c (walled c row first end gap i) few cells V (long_reached cells reached) value more);
      bounds = λ cells V reached value past. gap_of number g board (lowest r) first_empty (λ (c, (row, (first, (end, (gap, i))))).
          small_numbers r.touch (length r.points) c (walled c row first end gap i) few cells V (long_reached cells reached) value past);
    }
      where
        long_reached : (cells : List Cell) → IsReachable r.touch r.cells cells → length cells ≡ length r.points
        long_reached cells reached = plays_long r.touch reached.0 r.cells cells reached.1 ∙ is.proper.full

  pub short_regions : HasShortRegions g
  short_regions regions are r here = short r (are.each r here)
