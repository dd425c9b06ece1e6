-- By what places are sorted into an order.
use Rattle.std.specs.Prelude.{◌≡◌, ℕ, ◌+◌, ◌*◌, ◌<◌, ◌≤◌, ◌⊎◌, List, [], length, slice_index, slice_index_or, Contains, count_by}
use Rattle.std.specs.Ordering.{nat_cmp, on, then_cmp}
use Rattle.std.specs.declared.cmp.Ordering.{Ordering}
use Rattle.go_grid.specs.declared.grid.Cell.{Cell}
use Rattle.go_grid.specs.declared.grid.Colour.{Colour}
use Rattle.go_grid.specs.Board.{other}
use Rattle.go_grid.specs.Stones.{is_of}
use Rattle.local_play.specs.Packed.{pack}
use Rattle.local_play.specs.declared.places.TheConstants.{MOST_PLACES}
use Rattle.local_graph.specs.declared.graph.Edge.{Edge}
use Rattle.local_graph.specs.declared.return_orders.Rank.{Rank}
use Rattle.local_graph.specs.declared.return_orders.TheConstants.{MOST_WEIGHT}

-- how many stones of the colour there are
abbrev pub stones_of : Colour → List Cell → ℕ
stones_of c cells = count_by (is_of c) cells

-- a number that rises with each move but the captures of a colour: the other colour's stones count most, and then its own
abbrev pub weight : Colour → List Cell → ℕ
weight c cells = stones_of (other c) cells * (MOST_PLACES + 1) + stones_of c cells

-- the rank of the place of a position: its component, and how much less than the most it weighs
pub record IsRank (c : Colour) (position component place : ℕ) (r : Rank) : Type 0 where
  pub component_is : r.component ≡ component
  pub place_is : r.place ≡ place
  pub lack_is : (cells : List Cell) → length cells ≤ MOST_PLACES → position ≡ pack cells → r.lack + weight c cells ≡ MOST_WEIGHT

-- each place has its rank
pub record AreRanks (c : Colour) (positions components : List ℕ) (ranks : List Rank) : Type 0 where
  pub long : length ranks ≡ length positions
  pub each : (i : ℕ) (r : Rank) → i < length positions → slice_index_or ranks i r ≡ r
      → IsRank c (slice_index positions i) (slice_index components i) i r

-- how the sort compares ranks
abbrev pub rank_cmp : Rank → Rank → Ordering
rank_cmp = then_cmp (on (λ r. r.component) nat_cmp) (then_cmp (on (λ r. r.lack) nat_cmp) (on (λ r. r.place) nat_cmp))

-- the edge leads to a lower component, or in its own to a position that weighs more, where it isn't a capture by the colour
pub record FallsOrRises (c : Colour) (positions components : List ℕ) (i : ℕ) (e : Edge) : Type 0 where
  pub inside : e.next < length positions
  pub down : slice_index components e.next ≤ slice_index components i
  pub from : List Cell
  pub to : List Cell
  pub few : length from ≤ MOST_PLACES
  pub few_after : length to ≤ MOST_PLACES
  pub is_from : slice_index positions i ≡ pack from
  pub is_to : slice_index positions e.next ≡ pack to
  pub rises : ((e.colour ≡ c) × (0 < e.taken)) ⊎ (weight c from < weight c to)

-- each edge does
pub record AllFallOrRise (c : Colour) (positions components : List ℕ) (edges : List (List Edge)) : Type 0 where
  pub beside : length edges ≡ length positions
  pub each : (i : ℕ) (e : Edge) → i < length positions → Contains (slice_index_or edges i []) e → FallsOrRises c positions components i e
