-- How many points sets have.
use Rattle.std.proofs.Common.{◌≡◌, ℕ, zero, suc, ◌+◌, ◌<◌, ◌≤◌, refl, cond, List, [], ◌∷◌, Bool, true, false, arith}
use Rattle.std.specs.List.{count_by}
use Rattle.std.proofs.lemmas.List.Sums.{sum_by-cons}
use Rattle.go_grid.specs.Marks.{IsMarked}
use Rattle.go_grid.proofs.PointsLemmas.{no_mark}

no_less : (x y : Bool) → (x ≡ true → y ≡ true) → cond x 1 0 ≤ cond y 1 0
no_less false y h = omega arith
no_less true y h = rw (h refl) (omega arith)

counted : (x : Bool) (xs : List Bool) → count_by (λ m. m) (x ∷ xs) ≡ cond x 1 0 + count_by (λ m. m) xs
counted x xs = sum_by-cons (λ m. cond m 1 0) x xs

-- a set within another has no more points
no_more : (a b : List Bool) → ((p : ℕ) → IsMarked a p → IsMarked b p) → count_by (λ m. m) a ≤ count_by (λ m. m) b
no_more [] b sub = omega arith
no_more (x ∷ xs) [] sub = omega (arith, no_mark (x ∷ xs) (λ q m. let e = sub q m in cc))
no_more (x ∷ xs) (y ∷ ys) sub =
    omega (arith, no_more xs ys (λ p. sub (suc p)), no_less x y (sub 0), counted x xs, counted y ys)

-- and fewer where it lacks one
pub fewer : (a b : List Bool) (p : ℕ) → ((q : ℕ) → IsMarked a q → IsMarked b q) → IsMarked b p → ¬ IsMarked a p
    → count_by (λ m. m) a < count_by (λ m. m) b
fewer a [] p sub on off = cc
fewer [] (true ∷ ys) zero sub on off = omega (arith, counted true ys)
fewer [] (false ∷ ys) zero sub on off = cc
fewer [] (y ∷ ys) (suc p) sub on off = omega (arith, fewer [] ys p (λ q m. sub (suc q) m) on off, counted y ys)
fewer (true ∷ xs) (y ∷ ys) zero sub on off = absurd (off refl)
fewer (false ∷ xs) (false ∷ ys) zero sub on off = cc
fewer (false ∷ xs) (true ∷ ys) zero sub on off =
    omega (arith, no_more xs ys (λ q. sub (suc q)), counted false xs, counted true ys)
fewer (x ∷ xs) (y ∷ ys) (suc p) sub on off =
    omega (arith, fewer xs ys p (λ q. sub (suc q)) on off, no_less x y (sub 0), counted x xs, counted y ys)
