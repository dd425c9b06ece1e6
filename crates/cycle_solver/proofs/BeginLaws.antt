-- What a game with cycles keeps at the opening.
use Rattle.std.proofs.Common.{ℕ, ℤ, ◌≡◌, ◌^◌, ◌-◌, ◌<◌, ◌≤◌, arith, refl, sym, ap, ◌∙◌, subst, List, [], length, get_or, min, replicate, Bool, Err}
use Rattle.std.proofs.lemmas.List.{get_or-replicate, get_or_default, length-replicate}
use Rattle.std.proofs.lemmas.List.Elements.{Contains-get_or}
use Rattle.go_grid.specs.declared.grid.Colour.{Colour}
use Rattle.go_grid.specs.Board.{Board}
use Rattle.go_grid.specs.Chain.{IsSettled}
use Rattle.go_grid.specs.Region.{Region}
use Rattle.region_cut.specs.Cut.{AreRegionsOfPlay, lowest}
use Rattle.region_cut.specs.LocalBoard.{HoldsPosition}
use Rattle.region_cut.proofs.LocalBoardLemmas.{holds_start, point_contested}
use Rattle.whole_rules.specs.Opening.{IsOpening}
use Rattle.whole_rules.specs.Purses.{purse}
use Rattle.whole_rules.specs.WholeGame.{Whole}
use Rattle.whole_rules.proofs.WallLaws.{keeps_start}
use Rattle.local_value.specs.BudgetValues.{plain_graph}
use Rattle.local_trees.specs.GraphPlaces.{IsPlaceOf}
use Rattle.short_games.specs.Tree.{Tree}
use Rattle.endgame_solver.specs.Regions.{no_region, region_at}
use Rattle.endgame_solver.specs.Limits.{Limits}
use Rattle.endgame_solver.specs.Solved.{OpensAs}
use Rattle.endgame_solver.proofs.BeginLaws.{purse_few}
use Rattle.go_play.specs.Setup.{IsFit, Setup}
use Rattle.cycle_solver.specs.Begun.{Begun, IsSteadyId}
use Rattle.cycle_solver.specs.CycleFaults.{AreRefused, AreSteadyWithin, IsSteadyWithin}
use Rattle.cycle_solver.specs.declared.faults.CycleError.{CycleError}
use Rattle.cycle_solver.specs.declared.faults.CycleError.TheVariants.{Captures, Form, Memory, Points, Positions}
use Rattle.cycle_solver.specs.declared.region_game.RegionGame.{RegionGame}
use Rattle.cycle_solver.specs.Games.{AreSolvedBelow}
use Rattle.cycle_solver.specs.GameLists.{game_at, layers_for}
use Rattle.cycle_solver.specs.Held.{AreSolved, HaveOpenings, IsAt, IsHeld, enough, ids_with, place_at}

module _ {limits : Limits} {most : ℕ} {regions : List Region} {games : List RegionGame} {Ts : List Tree}
    (done : AreSolvedBelow limits most regions games Ts (length regions)) where
  pub are_steady : AreSteadyWithin limits most regions
  are_steady r (k, lt, at) = subst (IsSteadyWithin limits most) (get_or_default regions k no_region r lt ∙ at) (done.each k lt).sound

  pub have_openings : HaveOpenings games
  have_openings c budget k lt =
      let game = (done.each k (omega (arith, lt, done.many))).holds in
      omega (arith, ((game.layers c).values budget).long, game.graph.graph.some)

  module _ {g : Board} (settled : IsSettled g) (are : AreRegionsOfPlay g regions) (few : length regions ≤ 625) {black white : ℕ} {komi : ℤ}
      {side : Colour} {tax : Bool} {s : Whole} (opening : IsOpening g black white komi side tax s) {places : List ℕ}
      (first : places ≡ replicate (length games) 0) where
    solved : AreSolved g regions games Ts
    solved = record { settled = settled; cut = are; few = few; many = done.many; each = λ k lt. (done.each k lt).holds }

    many_places : length places ≡ length regions
    many_places = ap length first ∙ length-replicate (length games) 0 ∙ done.many

    at_start : IsAt g regions games places s
    at_start = record {
      many = many_places;
      walls = (keeps_start g black white komi side tax s opening).walls;
      contested = opening.contested;
      shown = λ k lt.
          let r = region_at regions k in
          let of = (done.each k lt).holds.graph.graph in
          let play = are.each r (Contains-get_or regions k no_region lt) in
          let zero : place_at places k ≡ 0 = ap (λ xs. place_at xs k) first ∙ get_or-replicate (length games) k 0 0 (omega (arith, lt, done.many)) in
          let at : IsPlaceOf r (plain_graph (game_at games k).graph) 0 r.cells = record { inside = of.some; reachable = ([], refl); packed = of.first } in (
            r.cells,
            subst (λ i. IsPlaceOf r (plain_graph (game_at games k).graph) i r.cells) (sym zero) at,
            subst (HoldsPosition g r r.cells) (sym opening.board) (holds_start g r play play.proper.full),
          );
    }

    pub held_start : ((c : Colour) → purse c s.purses ≤ 2 ^ 41) → IsHeld regions games places Ts s
    held_start small = record { board = g; solved = solved; at = at_start; modest = small }

-- a refusal of the regions is one of the position, whatever list of its regions is meant
pub refusal_begun : (setup : Setup) (tax : Bool) (limits : Limits) (most : ℕ) {regions lent : List Region} → AreRegionsOfPlay setup.board regions
    → lent ≡ regions → (e : CycleError) → AreRefused limits most lent e → Begun setup tax limits most (Err e)
refusal_begun setup tax limits most {regions} are is e h = at e (subst (λ rs. AreRefused limits most rs e) is h)
  where
    at : (e : CycleError) → AreRefused limits most regions e → Begun setup tax limits most (Err e)
    at (Points p n) h = (regions, are, h)
    at (Positions p) h = (regions, are, h)
    at (Form p) h = (regions, are, h)
    at (Captures p) h = (regions, are, h)
    at (Memory e) h = tt

-- at the opening the purses are small
pub purses_small : {setup : Setup} {tax : Bool} {s : Whole} → IsFit setup → length setup.board.cells ≤ 625 → OpensAs setup tax s
    → (c : Colour) → purse c s.purses ≤ 2 ^ 41
purses_small {setup} {tax} {s} fit few opens c =
    let bound = purse_few setup.board setup.black_prisoners setup.white_prisoners setup.komi_halves setup.side tax s few opens fit.black fit.white fit.komi c in
    omega (arith, bound)

-- What is told of a region's opening.
module _ {g : Board} {regions : List Region} {games : List RegionGame} {Ts : List Tree} (are : AreSolved g regions games Ts) {k : ℕ} (lt : k < length regions) where
  full : length (region_at regions k).cells ≡ length (region_at regions k).points
  full = (are.cut.each (region_at regions k) (Contains-get_or regions k no_region lt)).proper.full

  pub few_points : length (region_at regions k).points ≤ 32
  few_points = omega (arith, full, (are.each k lt).graph.few)

  pub opening_value : (c : Colour) → 0 < length (ids_with (game_at games k) c enough)
  opening_value c =
      let game = are.each k lt in
      omega (arith, ((game.layers c).values enough).long, game.graph.graph.some)

  -- the last layer has its value
  pub opening_id : (c : Colour) → IsSteadyId Ts (region_at regions k) c (get_or (ids_with (game_at games k) c enough) 0 0)
  opening_id c =
      let r = region_at regions k in
      let game = are.each k lt in
      let w = game.layers c in
      let of = game.graph.graph in
      let has : IsPlaceOf r (plain_graph (game_at games k).graph) 0 r.cells = record { inside = of.some; reachable = ([], refl); packed = of.first } in
      let layer : (j : ℕ) → w.budget ≤ j → min j (length (layers_for (game_at games k) c) - 1) ≡ w.budget = λ j more. omega (arith, more, w.many) in
      let last : ids_with (game_at games k) c w.budget ≡ ids_with (game_at games k) c enough =
      ap (λ z. get_or (layers_for (game_at games k) c) z []) (layer w.budget (omega arith) ∙ sym (layer enough (omega (arith, w.few)))) in
      let values = w.values w.budget in
      subst (λ ids. IsSteadyId Ts r c (get_or ids 0 0)) last
      (values.known 0 (omega (arith, values.long, of.some)), (w.budget, w.least, values.each 0 r.cells has))

  -- the lowest point is on the board
  pub lowest_on_board : {s : Whole} {places : List ℕ} → IsAt g regions games places s → lowest (region_at regions k) < length s.board.cells
  lowest_on_board at =
      let r = region_at regions k in
      let here = Contains-get_or regions k no_region lt in
      let play = are.cut.each r here in
      let contested = point_contested g r play (lowest r) (Contains-get_or r.points 0 0 play.proper.some) in
      omega (arith, contested.0, at.walls.long)
