-- Scaffolds over lists of walls.
use Rattle.std.specs.declared.alloc.Global.{Global}
use Rattle.std.specs.Prelude.{length, map, ◌↔◌, ℕ, suc, ◌-◌, Bool, cond, ◌≡◌, ◌⊎◌, ◌<◌, ◌≤◌, ◌+◌, ℤ, pos, neg_ℤ, ◌+ℤ◌, ◌-ℤ◌, ◌≤ℤ◌, ◌<ℤ◌, List, [], ◌∷◌, Vec}
use Rattle.std.specs.Int.{int_max}
use Rattle.std.specs.List.{slice_index_or}
use Rattle.thermograph.specs.declared.breaks.Break.{Break}
use Rattle.game_store.specs.Meaning.{AreBelow}
use Rattle.thermograph.specs.declared.scaffold.Scaffold.{Scaffold}
use Rattle.thermograph.specs.declared.side.Side.{Side}
use Rattle.thermograph.specs.declared.side.Side.TheVariants as side
use Rattle.short_games.specs.inner.Lines.{Rises}
use Rattle.thermograph.specs.Breaks.{wall_at, toward, IsPath, IsBreakAt}
use Rattle.thermograph.specs.inner.Breaks.{IsLevel}
use Rattle.short_games.specs.WallGrids.{Bends}

-- the wall of an id
abbrev pub wall_of : List (Vec Break Global) → ℕ → List Break
wall_of ws i = slice_index_or (map (λ w. w.items) ws) i []

-- the walls of a list of ids
abbrev pub picked : List (Vec Break Global) → List ℕ → List (List Break)
picked ws is = map (wall_of ws) is

-- `Is` holds of each wall of the list
abbrev pub EachWall : (List Break → Type 0) → List (List Break) → Type 0
EachWall Is ws = (j : ℕ) → j < length ws → Is (slice_index_or ws j [])

-- a number as it stands on the left side, and turned over on the right
abbrev pub turned : Side → ℤ → ℤ
turned side.Left x = x
turned side.Right x = neg_ℤ x

-- the value of a wall at t, and on the right that turned over
abbrev pub turned_wall : Side → ℕ → List Break → ℤ
turned_wall s t w = turned s (wall_at w t)

-- the greatest of what f gives for the walls of the list
unfoldable pub greatest : (List Break → ℤ) → List (List Break) → ℤ
greatest f [] = pos 0
greatest f (w ∷ []) = f w
greatest f (w ∷ v ∷ ws) = int_max (f w) (greatest f (v ∷ ws))

-- the greatest right wall, or the least left one turned over
abbrev pub rise_at : Side → List (List Break) → ℕ → ℤ
rise_at s ws t = greatest (turned_wall s t) ws

-- the scaffold: the greatest right wall less t, or the least left wall and t
abbrev pub scaffold_at : Side → List (List Break) → ℕ → ℤ
scaffold_at s ws t = turned s (rise_at s ws t -ℤ pos t)

-- the rise of a scaffold: the greatest right wall of its options, or the least left one turned over
abbrev pub rise : Scaffold → ℕ → ℤ
rise s = rise_at s.side (picked s.walls.now s.ids.now)

-- the line of a scaffold: the greatest right wall of its options less t, or the least left wall and t
abbrev pub line : Scaffold → ℕ → ℤ
line s = scaffold_at s.side (picked s.walls.now s.ids.now)

-- no wall is past the bounds anywhere
abbrev pub AreLevel : List (List Break) → Type 0
AreLevel = EachWall IsLevel

-- a wall of an option, turned over on the right, rises by 0 or 1 a step
pub record IsSteadyLine (s : Side) (w : List Break) : Type 0 where
  pub path : IsPath w
  pub rises : Rises (λ t. turned_wall s t w)

-- each wall of the list, turned over on the right, rises by 0 or 1 a step
abbrev pub AreSteady : Side → List (List Break) → Type 0
AreSteady s = EachWall (IsSteadyLine s)

-- what is known of a scaffold: the walls of its options are nowhere past the bounds and, turned over on the right, rise by 0 or
-- 1 a step, as the rise of the scaffold does
pub record IsKnown (s : Scaffold) : Type 0 where
  pub ids : AreBelow (length s.walls.now) s.ids.now
  pub level : AreLevel (picked s.walls.now s.ids.now)
  pub steady : AreSteady s.side (picked s.walls.now s.ids.now)
  pub rises : Rises (rise s)

-- no break point of the list is strictly between u and v
abbrev pub IsClear : ℕ → ℕ → List Break → Type 0
IsClear u v w = (j : ℕ) → j < length w → ((slice_index_or w j (record { at = 0; value = pos 0 })).at ≤ u) ⊎ (v ≤ (slice_index_or w j (record { at = 0; value = pos 0 })).at)

-- once the left line isn't greater than the right one, it isn't a step later
abbrev pub Stays : (L R : ℕ → ℤ) → Type 0
Stays L R = ((t : ℕ) → L t ≤ℤ R t → L (suc t) ≤ℤ R (suc t))

-- the left line is greater than the right one at each place below u
abbrev pub AreApart : (L R : ℕ → ℤ) → ℕ → Type 0
AreApart L R u = ((v : ℕ) → v < u → R v <ℤ L v)

-- from `place` on the left line is greater than the right one at each place below m, and at m it isn't
pub record IsCrossing (L R : ℕ → ℤ) (place m : ℕ) : Type 0 where
  pub met : L m ≤ℤ R m
  pub apart : (v : ℕ) → place ≤ v → v < m → R v <ℤ L v

-- from u to v a line that rises stays, or rises all the way
abbrev pub IsAlong : (ℕ → ℤ) → Bool → ℕ → ℕ → Type 0
IsAlong f rising u v = f v ≡ f u +ℤ pos (cond rising (v - u) 0)

-- from u to v the line goes straight to its value at v
abbrev pub IsStraight : (ℕ → ℤ) → ℕ → ℕ → Type 0
IsStraight f u v = ((t : ℕ) → u ≤ t → t ≤ v → f t ≡ toward (f u) (f v) (t - u))

-- the list draws the line from 0 to the end, and its last value from there on; between the two ends it has a break
-- point exactly where the slope changes
pub record IsTraced (f : ℕ → ℤ) (end : ℕ) (bs : List Break) : Type 0 where
  pub first_at : (slice_index_or bs 0 (record { at = 1; value = pos 0 })).at ≡ 0
  pub last_at : (slice_index_or bs (length bs - 1) (record { at = end + 1; value = pos 0 })).at ≡ end
  pub path : IsPath bs
  pub agrees : (t : ℕ) → t ≤ end → wall_at bs t ≡ f t
  pub after : (t : ℕ) → end ≤ t → wall_at bs t ≡ f end
  pub bends : (t : ℕ) → 0 < t → t < end → IsBreakAt bs t ↔ Bends f t
