-- What one line takes from the bytes that are left.
use Rattle.std.specs.Prelude.{◌≡◌, ◌≢◌, ◌⊎◌, ℕ, ◌<◌, List, length, slice_index, Option, Some, None}
use Rattle.desk_io.specs.Outside.{ended}

-- the place of the first line feed, where one is held; else the most bytes of a line are held, or the source is at its end
abbrev pub IsFeed : ℕ → List ℕ → Option (List ℕ) → Option ℕ → Type 0
IsFeed most held left (Some at) = (at < length held) × (slice_index held at ≡ 10) × ((k : ℕ) → k < at → slice_index held k ≢ 10)
IsFeed most held left None = ((k : ℕ) → k < length held → slice_index held k ≢ 10) × ((length held ≡ most) ⊎ (left ≡ ended left))
