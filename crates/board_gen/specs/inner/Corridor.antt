-- Corridors as the program holds them.
use Rattle.std.specs.Prelude.{◌≡◌, ℕ, suc, ◌/◌, ◌%◌, ◌<◌, ◌≤◌, ◌↔◌, List, length, slice_index_or}
use Rattle.board_gen.specs.declared.corridors.Corridor.{Corridor}
use Rattle.board_gen.specs.Trial.{draw, IsInCorridor}

-- the point is one of the corridor's
pub record Covers (corridor : Corridor) (p : ℕ) : Type 0 where
  pub row : p / 25 ≡ corridor.row
  pub first : corridor.start ≤ p % 25
  pub last : p % 25 < corridor.end

-- the corridor has exactly the points of corridor `j`, for which `x` was drawn
abbrev pub IsCorridor : ℕ → ℕ → Corridor → Type 0
IsCorridor x j corridor = (p : ℕ) → Covers corridor p ↔ IsInCorridor x j p

-- a corridor without points
abbrev pub no_corridor : Corridor
no_corridor = record { row = 0; start = 0; end = 0 }

-- the first `n` of the number's corridors
pub record AreCorridors (number n : ℕ) (corridors : List Corridor) : Type 0 where
  pub long : length corridors ≡ n
  pub each : (i : ℕ) → i < n → IsCorridor (draw number (suc i)) (suc i) (slice_index_or corridors i no_corridor)
