-- The laws of stops.
use Rattle.std.specs.Prelude.{ℕ, ◌+◌, ◌≤◌, ◌^◌, ℤ, pos, ◌+ℤ◌, ◌-ℤ◌, ◌*ℤ◌, ◌<ℤ◌, ◌≤ℤ◌}
use Rattle.short_games.specs.Tree.{Tree}
use Rattle.short_games.specs.Order.{◌≤ᵍ◌}
use Rattle.short_games.specs.Number.{num}
use Rattle.short_games.specs.Stops.{IsLeftStop, IsRightStop}
use Rattle.short_games.specs.TextOrder.{IsCanonicalTree}

-- A canonical tree is at most its left stop and any y above 0. Here y is over 2 ^ (d + e), and the stop x, over 2 ^ e, is
-- x * 2 ^ d over 2 ^ (d + e)
abbrev pub IsUnderLeftStop : Type 0
IsUnderLeftStop = (e : ℕ) (G : Tree) (x : ℤ) → IsCanonicalTree G → IsLeftStop e G x → (d : ℕ) (y : ℤ) → pos 0 <ℤ y → G ≤ᵍ num (d + e) ((x *ℤ pos (2 ^ d)) +ℤ y)

-- a canonical tree is at least its right stop less any y above 0
abbrev pub IsOverRightStop : Type 0
IsOverRightStop = (e : ℕ) (G : Tree) (x : ℤ) → IsCanonicalTree G → IsRightStop e G x → (d : ℕ) (y : ℤ) → pos 0 <ℤ y → num (d + e) ((x *ℤ pos (2 ^ d)) -ℤ y) ≤ᵍ G

-- the right stop of a canonical tree is at most its left stop
abbrev pub StopsAreOrdered : Type 0
StopsAreOrdered = (e : ℕ) (G : Tree) (l r : ℤ) → IsCanonicalTree G → IsLeftStop e G l → IsRightStop e G r → r ≤ℤ l

-- a canonical tree has both stops on each grid that is fine enough
abbrev pub StopsExist : Type 0
StopsExist = (G : Tree) → IsCanonicalTree G → (e : ℕ) × ((k : ℕ) → e ≤ k → (l r : ℤ) × IsLeftStop k G l × IsRightStop k G r)
