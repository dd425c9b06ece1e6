-- A corridor of two points, turned round and with its colours exchanged, by the definitions.
use Rattle.std.proofs.Common.{◌≡◌, ℕ, ◌<◌, ◌↔◌, zero, suc, refl, arith, List, [], ◌∷◌, true, false, None, Some, subst}
use Rattle.go_grid.specs.declared.grid.Cell.{Cell}
use Rattle.go_grid.specs.declared.grid.Cell.TheVariants as cell
use Rattle.go_grid.specs.declared.grid.Colour.{Colour}
use Rattle.go_grid.specs.declared.grid.Colour.TheVariants.{Black, White}
use Rattle.go_grid.specs.declared.region.Touch.{Touch}
use Rattle.go_grid.specs.Region.{touch_at}
use Rattle.local_play.specs.LocalPlay.{held_at, is_beside}
use Rattle.region_book.specs.Shape.{Direction, up, left, right, down, turned, link, Carries, HaveOneShape, IsPartner, cell_after, colour_after}
use Rattle.region_book.specs.declared.symmetry.Symmetry.{Symmetry}

-- a black stone at the end next to black, and white next to the other end
abbrev touch : List Touch
touch =
    record { black = true; white = false; up = None; left = None; right = Some 1; down = None }
    ∷ record { black = false; white = true; up = None; left = Some 0; right = None; down = None } ∷ []

abbrev cells : List Cell
cells = cell.Black ∷ cell.Empty ∷ []

-- the same from right to left, with white for black
abbrev touch' : List Touch
touch' =
    record { black = true; white = false; up = None; left = None; right = Some 1; down = None }
    ∷ record { black = false; white = true; up = None; left = Some 0; right = None; down = None } ∷ []

abbrev cells' : List Cell
cells' = cell.Empty ∷ cell.White ∷ []

abbrev round : Symmetry
round = record { exchange = false; columns = true; rows = false }

data Pair : ℕ → ℕ → Type 0 where
  first : Pair 0 1
  second : Pair 1 0

pair : (i j : ℕ) → IsPartner (1 ∷ 0 ∷ []) i j → Pair i j
pair zero j p = subst (Pair 0) p.1 first
pair (suc zero) j p = subst (Pair 1) p.1 second
pair (suc (suc i)) j p = absurd (omega (arith, p.0))

abbrev Same : ℕ → ℕ → ℕ → ℕ → Type 0
Same i j k l = (d : Direction) → (link (touch_at touch i) d ≡ Some k) ↔ (link (touch_at touch' j) (turned round d) ≡ Some l)

links : (i j k l : ℕ) → Pair i j → Pair k l → Same i j k l
links _ _ _ _ first first up = (λ e. cc, λ e. cc)
links _ _ _ _ first first left = (λ e. cc, λ e. cc)
links _ _ _ _ first first right = (λ e. cc, λ e. cc)
links _ _ _ _ first first down = (λ e. cc, λ e. cc)
links _ _ _ _ first second up = (λ e. cc, λ e. cc)
links _ _ _ _ first second left = (λ e. cc, λ e. cc)
links _ _ _ _ first second right = (λ e. refl, λ e. refl)
links _ _ _ _ first second down = (λ e. cc, λ e. cc)
links _ _ _ _ second first up = (λ e. cc, λ e. cc)
links _ _ _ _ second first left = (λ e. refl, λ e. refl)
links _ _ _ _ second first right = (λ e. cc, λ e. cc)
links _ _ _ _ second first down = (λ e. cc, λ e. cc)
links _ _ _ _ second second up = (λ e. cc, λ e. cc)
links _ _ _ _ second second left = (λ e. cc, λ e. cc)
links _ _ _ _ second second right = (λ e. cc, λ e. cc)
links _ _ _ _ second second down = (λ e. cc, λ e. cc)

carried : Carries touch cells touch' cells' (IsPartner (1 ∷ 0 ∷ [])) round true
carried = record {
  inside = λ i j p. inside i j (pair i j p);
  first = first_partner;
  second = second_partner;
  one = λ i j k l p q. one i j k l (pair i j p) (pair k l q);
  links = λ i j k l p q. links i j k l (pair i j p) (pair k l q);
  held = λ i j p. held i j (pair i j p);
  beside = λ i j p. beside i j (pair i j p);
}
  where
    inside : (i j : ℕ) → Pair i j → (i < 2) × (j < 2)
    inside _ _ first = (omega arith, omega arith)
    inside _ _ second = (omega arith, omega arith)

    first_partner : (i : ℕ) → i < 2 → (j : ℕ) × IsPartner (1 ∷ 0 ∷ []) i j
    first_partner zero lt = (1, (omega arith, refl))
    first_partner (suc zero) lt = (0, (omega arith, refl))
    first_partner (suc (suc i)) lt = absurd (omega (arith, lt))

    second_partner : (j : ℕ) → j < 2 → (i : ℕ) × IsPartner (1 ∷ 0 ∷ []) i j
    second_partner zero lt = (1, (omega arith, refl))
    second_partner (suc zero) lt = (0, (omega arith, refl))
    second_partner (suc (suc i)) lt = absurd (omega (arith, lt))

    one : (i j k l : ℕ) → Pair i j → Pair k l → (i ≡ k) ↔ (j ≡ l)
    one _ _ _ _ first first = (λ e. refl, λ e. refl)
    one _ _ _ _ first second = (λ e. omega (arith, e), λ e. omega (arith, e))
    one _ _ _ _ second first = (λ e. omega (arith, e), λ e. omega (arith, e))
    one _ _ _ _ second second = (λ e. refl, λ e. refl)

    held : (i j : ℕ) → Pair i j → held_at cells' j ≡ cell_after true (held_at cells i)
    held _ _ first = refl
    held _ _ second = refl

    beside : (i j : ℕ) → Pair i j → (c : Colour) → is_beside (touch_at touch' j) (colour_after true c) ≡ is_beside (touch_at touch i) c
    beside _ _ first Black = refl
    beside _ _ first White = refl
    beside _ _ second Black = refl
    beside _ _ second White = refl

have_one_shape : HaveOneShape touch cells touch' cells'
have_one_shape = (1 ∷ 0 ∷ [], round, true, carried)
