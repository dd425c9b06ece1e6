-- Links of the places of a region.
use Rattle.std.proofs.Common.{◌≡◌, ℕ, ◌*◌, ◌/◌, ◌%◌, ◌<◌, inl, inr, ap, subst, List, length, get_or, arith, Option, Some, None}
use Rattle.std.specs.List.Sorted.{IsStrictlyIncreasing}
use Rattle.std.proofs.lemmas.Bool.{cases_lt}
use Rattle.std.proofs.lemmas.List.Elements.{Contains-get_or}
use Rattle.std.proofs.lemmas.List.Kept.{AllPairs-from_increasing}
use Rattle.std.proofs.lemmas.Nat.{div-add-mod'}
use Rattle.go_grid.specs.Region.{IsLink}

-- a point is its row and column
pub same_point : (c p q : ℕ) → p / c ≡ q / c → p % c ≡ q % c → p ≡ q
same_point c p q row column =
    let r : p / c * c ≡ q / c * c = ap (λ n. n * c) row in
    omega (arith, div-add-mod' p c, div-add-mod' q c)

-- ascending points have one place each
pub one_place : (points : List ℕ) (i j : ℕ) → IsStrictlyIncreasing points → i < length points → j < length points
    → get_or points i 0 ≡ get_or points j 0 → i ≡ j
one_place points i j rising li lj e =
    let less = AllPairs-from_increasing points rising in
    elim (cases_lt i j) as (λ _. i ≡ j) [
      | inl lt ↦ absurd (omega (arith, less i j 0 lt lj, e))
      | inr le ↦ elim (cases_lt j i) as (λ _. i ≡ j) [
        | inl lt ↦ absurd (omega (arith, less j i 0 lt li, e))
        | inr le' ↦ omega arith
      ]
    ]

-- the link is the place of the one point that is near
pub linked_to : (points : List ℕ) (Near : ℕ → Type 0) (o : Option ℕ) (j : ℕ) → IsStrictlyIncreasing points → IsLink points Near o
    → ((q s : ℕ) → Near q → Near s → q ≡ s) → j < length points → Near (get_or points j 0) → o ≡ Some j
linked_to points Near None j rising link one lt near = absurd (link (get_or points j 0) (Contains-get_or points j 0 lt) near)
linked_to points Near (Some k) j rising link one lt near =
    ap (λ n. Some n) (one_place points k j rising link.0 lt (one (get_or points k 0) (get_or points j 0) link.1 near))

pub link_at : (points : List ℕ) (Near : ℕ → Type 0) (o : Option ℕ) (j : ℕ) → IsLink points Near o → o ≡ Some j
    → (j < length points) × Near (get_or points j 0)
link_at points Near o j link e = subst (IsLink points Near) e link
