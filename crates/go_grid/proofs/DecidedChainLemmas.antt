-- What is decided on a board: stones, chains, and lists of the points for which a decided condition holds.
use Rattle.std.proofs.Common.{◌≡◌, ℕ, zero, suc, ◌<◌, ◌⊎◌, ◌↔◌, inl, inr, List, [], ◌∷◌, length, refl, sym, arith, subst, ◌+◌, ◌/◌, ◌%◌}
use Rattle.std.specs.List.{Contains}
use Rattle.std.proofs.lemmas.Bool.{cases_eq, cases_lt}
use Rattle.go_grid.specs.declared.grid.Colour.{Colour}
use Rattle.go_grid.specs.Board.{Board, DifferByOne, NextTo, HasStone, cell_at, stone}
use Rattle.go_grid.specs.Chain.{InChain}
use Rattle.go_grid.proofs.BoardLemmas.{same_or_not}
use Rattle.go_grid.proofs.DecidedLemmas.{Decided, alike, both, either, leads_or_not, some_below}

pub in_first : (x : ℕ) (xs : List ℕ) → Contains (x ∷ xs) x
in_first x xs = (0, omega arith, refl)

pub in_more : (x : ℕ) (xs : List ℕ) (q : ℕ) → Contains xs q → Contains (x ∷ xs) q
in_more x xs q at = (suc at.0, omega (arith, at.1), at.2)

pub in_either : (x : ℕ) (xs : List ℕ) (q : ℕ) → Contains (x ∷ xs) q → (q ≡ x) ⊎ Contains xs q
in_either x xs q (zero, lt, e) = inl (sym e)
in_either x xs q (suc i, lt, e) = inr (i, omega (arith, lt), e)

pub lt_or_not : (p n : ℕ) → Decided (p < n)
lt_or_not p n = elim (cases_lt p n) [ inl l ↦ inl l | inr g ↦ inr (λ l. absurd (omega (arith, g, l))) ]

-- what holds of some point and of points of the board alone holds of one of them, or of none
pub some_or_not : (n : ℕ) (P : ℕ → Type 0) → ((p : ℕ) → P p → p < n) → ((p : ℕ) → Decided (P p)) → Decided ((p : ℕ) × P p)
some_or_not n P below d =
    alike ((p : ℕ) × (p < n) × P p) ((p : ℕ) × P p) (λ w. (w.0, w.2)) (λ w. (w.0, below w.0 w.1, w.1)) (some_below n P d)

-- the list of those points
pub points_of : (P : ℕ → Type 0) → ((p : ℕ) → Decided (P p)) → (n : ℕ) → (points : List ℕ) × ((p : ℕ) → Contains points p ↔ ((p < n) × P p))
points_of P d zero = ([], λ p. (λ at. absurd (omega (arith, at.1)), λ w. absurd (omega (arith, w.0))))
points_of P d (suc n) =
    let (points, each) = points_of P d n in
    elim (d n) as (λ _. (points : List ℕ) × ((p : ℕ) → Contains points p ↔ ((p < suc n) × P p))) [
      | inl yes' ↦ (
        n ∷ points,
        λ p. (
          λ at. elim (in_either n points p at) as (λ _. (p < suc n) × P p) [
            | inl e ↦ (omega (arith, e), subst P (sym e) yes')
            | inr more ↦ let w = (each p).0 more in (omega (arith, w.0), w.1)
          ],
          λ w. elim (cases_eq p n) as (λ _. Contains (n ∷ points) p) [
            | inl e ↦ subst (Contains (n ∷ points)) (sym e) (in_first n points)
            | inr ne ↦ in_more n points p ((each p).1 (omega (arith, ne, w.0), w.1))
          ],
        ),
      )
      | inr not ↦ (
        points,
        λ p. (
          λ at. let w = (each p).0 at in (omega (arith, w.0), w.1),
          λ w. elim (cases_eq p n) as (λ _. Contains points p) [
            | inl e ↦ absurd (not (subst P e w.1))
            | inr ne ↦ (each p).1 (omega (arith, ne, w.0), w.1)
          ],
        ),
      )
    ]

differ_or_not : (a b : ℕ) → Decided (DifferByOne a b)
differ_or_not a b = either _ _ (cases_eq (a + 1) b) (cases_eq (b + 1) a)

pub next_or_not : (c p q : ℕ) → Decided (NextTo c p q)
next_or_not c p q =
    either _ _ (both _ _ (cases_eq (p / c) (q / c)) (differ_or_not (p % c) (q % c)))
    (both _ _ (cases_eq (p % c) (q % c)) (differ_or_not (p / c) (q / c)))

pub has_or_not : (g : Board) (c : Colour) (p : ℕ) → Decided (HasStone g c p)
has_or_not g c p = both _ _ (lt_or_not p (length g.cells)) (same_or_not (cell_at g p) (stone c))

pub chain_or_not : (g : Board) (c : Colour) (s q : ℕ) → Decided (InChain g c s q)
chain_or_not g c = leads_or_not (NextTo g.columns) (HasStone g c) (length g.cells) (λ i h. h.0) (next_or_not g.columns) (has_or_not g c)
