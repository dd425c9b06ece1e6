-- What is drawn of a game: its walls, their break points, its temperature and its mean, in parts of 2 ^ -60.
use Rattle.std.specs.Prelude.{ℕ, ◌+◌, ◌-◌, ◌*◌, ◌^◌, ◌≡◌, ◌<◌, ◌↔◌, length, map, ℤ, pos, unsigned_abs, ◌*ℤ◌, List, Option, Some, None}
use Rattle.std.specs.List.{slice_index_or}
use Rattle.dyadic_num.specs.declared.TheConstants.{EXPONENT}
use Rattle.short_games.specs.Tree.{Tree}
use Rattle.short_games.specs.Number.{IsNumberTree, number_tree}
use Rattle.thermograph.specs.declared.breaks.Break.{Break}
use Rattle.short_games.specs.Walls.{IsLeftWall, IsRightWall}
use Rattle.short_games.specs.WallGrids.{HasWalls, IsMeeting, Bends}
use Rattle.thermograph.specs.Breaks.{wall_at, IsPath, IsBreakAt}

-- the break points of a wall up to its end: the first is at 0, the last at the end, and between the two there is one
-- exactly where the slope changes; from each the wall goes straight to the next
pub record AreBreaks (bs : List Break) (end : ℕ) : Type 0 where
  pub first_at : (slice_index_or bs 0 (record { at = 1; value = pos 0 })).at ≡ 0
  pub last_at : (slice_index_or bs (length bs - 1) (record { at = end + 1; value = pos 0 })).at ≡ end
  pub path : IsPath bs
  pub bends : (t : ℕ) → 0 < t → t < end → IsBreakAt bs t ↔ Bends (wall_at bs) t

-- break points with numbers in parts of 2 ^ -60, told in parts of 2 ^ -(60 + j)
abbrev pub in_parts : ℕ → List Break → List Break
in_parts j bs = map (λ b. record { at = b.at * 2 ^ j; value = b.value *ℤ pos (2 ^ j) }) bs

-- the lists of break points draw the walls of G: at each t that is a fraction, as t / 2 ^ (60 + j)
abbrev pub DrawWalls : Tree → List Break → List Break → Type 0
DrawWalls G l r = (j t : ℕ) → IsLeftWall G (EXPONENT + j) t (wall_at (in_parts j l) t) × IsRightWall G (EXPONENT + j) t (wall_at (in_parts j r) t)

-- the lists of break points draw the walls of G on each grid of multiples of 2 ^ -(60 + j)
abbrev pub DrawOnGrids : Tree → List Break → List Break → Type 0
DrawOnGrids G l r = (j : ℕ) → HasWalls (EXPONENT + j) G (wall_at (in_parts j l)) (wall_at (in_parts j r))

-- where l and r are the walls: a number has no temperature, and its mean is the number; the temperature of another game
-- is where the walls meet, and its mean is where they meet
abbrev pub IsTemperature : Tree → (l r : ℕ → ℤ) → Option ℤ → ℤ → Type 0
IsTemperature G l r None mean = G ≡ number_tree mean
IsTemperature G l r (Some t) mean = (IsNumberTree G → ⊥) × ((u : ℕ) × (t ≡ pos u) × IsMeeting l r u mean)

-- where walls end: at the temperature, or at 0
abbrev pub end_of : Option ℤ → ℕ
end_of None = 0
end_of (Some t) = unsigned_abs t
