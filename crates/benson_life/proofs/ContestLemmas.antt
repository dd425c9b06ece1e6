-- Alive stones, counted points and contested points.
use Rattle.std.proofs.Common.{◌↔◌, ℕ, ◌<◌, ◌⊎◌, inl, inr, List, Bool, length, get_or}
use Rattle.std.specs.List.{Contains}
use Rattle.std.proofs.lemmas.List.Elements.{Contains-get_or}
use Rattle.go_grid.specs.declared.grid.Colour.{Colour}
use Rattle.go_grid.specs.declared.grid.Colour.TheVariants.{Black, White}
use Rattle.go_grid.specs.Board.{Board}
use Rattle.go_grid.specs.Marks.{IsMarked, Lists, Marks}
use Rattle.benson_life.specs.Life.{IsAlive, IsCounted, IsLargestHealthy}
use Rattle.benson_life.specs.Region.{IsContested}
use Rattle.benson_life.proofs.WallLemmas.{counted_inside}

pub alive_short : (g : Board) (c : Colour) (xs : List ℕ) → IsLargestHealthy g c xs → (k d : ℕ) → k < length xs → get_or xs k d < length g.cells
alive_short g c xs h k d lt = (h.healthy.stones _ (Contains-get_or xs k d lt)).0

pub counted_short : (g : Board) (c : Colour) (xs : List ℕ) → Lists xs (IsCounted g c) → (k d : ℕ) → k < length xs → get_or xs k d < length g.cells
counted_short g c xs h k d lt = counted_inside g c _ ((h.exact _).0 (Contains-get_or xs k d lt))

pub alive_is : (g : Board) (c : Colour) (xs : List ℕ) → IsLargestHealthy g c xs → (p : ℕ) → Contains xs p ↔ IsAlive g c p
alive_is g c xs h p = (λ i. (xs, h.healthy, i), λ a. h.largest a.0 a.1 p a.2)

-- a point of the board that is in none of the sets of alive stones and counted points
pub contested_is : (g : Board) (ba wa bc wc alive counted all rest : List Bool) → Marks ba (IsAlive g Black) → Marks wa (IsAlive g White)
    → Marks bc (IsCounted g Black) → Marks wc (IsCounted g White) → Marks alive (λ p. IsMarked ba p ⊎ IsMarked wa p)
    → Marks counted (λ p. IsMarked bc p ⊎ IsMarked wc p) → Marks all (λ p. IsMarked alive p ⊎ IsMarked counted p)
    → Marks rest (λ p. (p < length g.cells) × ¬ IsMarked all p) → Marks rest (IsContested g)
contested_is g ba wa bc wc alive counted all rest a b c d isa isc isw isr p = (
  λ m.
      let h = (isr p).0 m in (
        h.0,
        λ x. h.1 ((isw p).1 (inl ((isa p).1 (inl ((a p).1 x))))),
        λ x. h.1 ((isw p).1 (inl ((isa p).1 (inr ((b p).1 x))))),
        λ x. h.1 ((isw p).1 (inr ((isc p).1 (inl ((c p).1 x))))),
        λ x. h.1 ((isw p).1 (inr ((isc p).1 (inr ((d p).1 x))))),
      ),
  λ h. (isr p).1 (
    h.0,
    λ m. elim ((isw p).0 m) [
      | inl x ↦ elim ((isa p).0 x) [ inl y ↦ h.1 ((a p).0 y) | inr y ↦ h.2 ((b p).0 y) ]
      | inr x ↦ elim ((isc p).0 x) [ inl y ↦ h.3 ((c p).0 y) | inr y ↦ h.4 ((d p).0 y) ]
    ],
  ),
)
