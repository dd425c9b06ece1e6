use Rattle.std.proofs.lemmas.Result.{err_from_is_err_and}
use Rattle.short_games.specs.Parts.IsFollower.{itself}
use Rattle.std.proofs.Common.{◌≡◌, sym, ◌∙◌, ap, subst, List}
use Rattle.short_games.specs.Tree.{tree_at}
use Rattle.thermograph.specs.declared.breaks.Break.{Break}
use Rattle.thermograph.specs.Breaks.{wall_at}
use Rattle.thermograph.specs.Drawings.{DrawWalls, DrawOnGrids, IsTemperature, AreBreaks, end_of}
use Rattle.thermograph.specs.Thermographs.{breaks, IsFromZero}
use Rattle.thermograph.specs.inner.Thermographs.{AreInBounds}
use Rattle.thermograph.proofs.BoundLaws.{none-past_bounds, past-bounds_of}
use Rattle.thermograph.proofs.WallLaws.{draw-all, draw-grids, points-in_bounds, breaks-points, points-from_zero}
use Rattle.thermograph.proofs.thermographs.draw.Goals as goal
use Rattle.thermograph.proofs.thermographs.draw.Goals.{After-drop-flags-2}

pub wall_with-requires : goal.wall_with-requires
wall_with-requires c = let d = c.in_ok-drawing.ensures.drawn in
    subst AreInBounds (sym c.deref-2.ensures.value) (points-in_bounds c.in_ok-drawing.drawing.left.items (end_of c.in_ok-drawing.drawing.temperature) d.left_breaks d.drawn.left_level d.end)

pub wall_with-requires-2 : goal.wall_with-requires-2
wall_with-requires-2 c = let d = c.in_ok-drawing.ensures.drawn in
    subst AreInBounds (sym c.deref-3.ensures.value) (points-in_bounds c.in_ok-drawing.drawing.right.items (end_of c.in_ok-drawing.drawing.temperature) d.right_breaks d.drawn.right_level d.end)

left_is : (c : After-drop-flags-2) → breaks c.in_ok-left.left ≡ c.in_ok-drawing.drawing.left.items
left_is c = ap breaks (c.in_ok-left.ensures {u = tt}) ∙ breaks-points c.deref-2.result.now ∙ c.deref-2.ensures.value

right_is : (c : After-drop-flags-2) → breaks c.in_ok-right.right ≡ c.in_ok-drawing.drawing.right.items
right_is c = ap breaks (c.in_ok-right.ensures {u = tt}) ∙ breaks-points c.deref-3.result.now ∙ c.deref-3.ensures.value

-- what holds of the two lists of the drawing holds of those that are told
of_lists : (c : After-drop-flags-2) (Holds : List Break → List Break → Type 0)
    → Holds c.in_ok-drawing.drawing.left.items c.in_ok-drawing.drawing.right.items → Holds (breaks c.in_ok-left.left) (breaks c.in_ok-right.right)
of_lists c Holds h = subst (λ (l : List Break). Holds l (breaks c.in_ok-right.right)) (sym (left_is c))
    (subst (Holds c.in_ok-drawing.drawing.left.items) (sym (right_is c)) h)

pub returns-clause-walls : goal.returns-clause-walls
returns-clause-walls c = let d = c.in_ok-drawing.ensures.drawn in let G = tree_at c.args.store.now c.args.id in
    of_lists c (DrawWalls G) (draw-all G _ _ d.left_breaks.path d.right_breaks.path d.drawn.walls)

pub returns-clause-grids : goal.returns-clause-grids
returns-clause-grids c = let d = c.in_ok-drawing.ensures.drawn in let G = tree_at c.args.store.now c.args.id in
    of_lists c (DrawOnGrids G) (draw-grids G _ _ d.left_breaks.path d.right_breaks.path d.drawn.walls)

pub returns-clause-temperature : goal.returns-clause-temperature
returns-clause-temperature c =
    of_lists c (λ l r. IsTemperature (tree_at c.args.store.now c.args.id) (wall_at l) (wall_at r) c.in_ok-drawing.drawing.temperature
    c.in_ok-drawing.drawing.mean) c.in_ok-drawing.ensures.drawn.temperature

pub returns-clause-left_breaks : goal.returns-clause-left_breaks
returns-clause-left_breaks c = (
  subst IsFromZero (sym (c.in_ok-left.ensures {u = tt})) (points-from_zero c.deref-2.result.now),
  subst (λ (l : List Break). AreBreaks l (end_of c.in_ok-drawing.drawing.temperature)) (sym (left_is c)) c.in_ok-drawing.ensures.drawn.left_breaks,
)

pub returns-clause-right_breaks : goal.returns-clause-right_breaks
returns-clause-right_breaks c = (
  subst IsFromZero (sym (c.in_ok-right.ensures {u = tt})) (points-from_zero c.deref-3.result.now),
  subst (λ (r : List Break). AreBreaks r (end_of c.in_ok-drawing.drawing.temperature)) (sym (right_is c)) c.in_ok-drawing.ensures.drawn.right_breaks,
)

pub returns-clause-within : goal.returns-clause-within
returns-clause-within c =
    none-past_bounds c.args.store.now c.len-count.ensures.forms c.args.id c.requires _ _ c.in_ok-drawing.ensures.drawn.drawn.walls

pub returns-in_err-drawing-clause-bounds : goal.returns-in_err-drawing-clause-bounds
returns-in_err-drawing-clause-bounds c =
    let p = err_from_is_err_and c.from_residual-in_err-drawing.result c.from_residual-in_err-drawing.ensures.1 in
    let G = tree_at c.args.store.now c.args.id in
    rw (p.1, p.2) (λ e. past-bounds_of G G (itself G) (c.in_err-drawing.ensures.bounds e))
