-- Where a region begins, as far as its places were looked at.
use Rattle.std.proofs.Common.{◌≡◌, ℕ, ◌+◌, ◌<◌, ◌≤◌, ◌⊎◌, inl, inr, sym, ◌∙◌, arith, below_more}
use Rattle.go_grid.specs.Region.{Region}
use Rattle.region_book.specs.Image.{column_of, row_of}
use Rattle.region_book.specs.declared.symmetry.Symmetry.{Symmetry}

pub record Beginning (r : Region) (s : Symmetry) (n west north : ℕ) : Type 0 where
  pub columns : (i : ℕ) → i < n → west ≤ column_of r s i
  pub some_column : (i : ℕ) × (i < n) × (column_of r s i ≡ west)
  pub rows : (i : ℕ) → i < n → north ≤ row_of r s i
  pub some_row : (i : ℕ) × (i < n) × (row_of r s i ≡ north)

pub beginning_more : (r : Region) (s : Symmetry) (n west north column row west' north' : ℕ) → Beginning r s n west north
    → column ≡ column_of r s n → row ≡ row_of r s n → (west' ≡ west) ⊎ (west' ≡ column) → west' ≤ west → west' ≤ column
    → (north' ≡ north) ⊎ (north' ≡ row) → north' ≤ north → north' ≤ row → Beginning r s (n + 1) west' north'
beginning_more r s n west north column row west' north' b c e one first second one' first' second' = record {
  columns = below_more (λ i. west' ≤ column_of r s i) n (λ i lt. omega (arith, b.columns i lt, first)) (omega (arith, second, c));
  some_column = elim one [
    | inl same ↦ let (i, lt, is) = b.some_column in (i, omega (arith, lt), is ∙ sym same)
    | inr same ↦ (n, omega arith, sym c ∙ sym same)
  ];
  rows = below_more (λ i. north' ≤ row_of r s i) n (λ i lt. omega (arith, b.rows i lt, first')) (omega (arith, second', e));
  some_row = elim one' [
    | inl same ↦ let (i, lt, is) = b.some_row in (i, omega (arith, lt), is ∙ sym same)
    | inr same ↦ (n, omega arith, sym e ∙ sym same)
  ];
}

pub beginning_first : (r : Region) (s : Symmetry) (column row : ℕ) → column ≡ column_of r s 0 → row ≡ row_of r s 0
    → Beginning r s 1 column row
beginning_first r s column row c e = record {
  columns = below_more (λ i. column ≤ column_of r s i) 0 (λ i lt. absurd (omega (arith, lt))) (omega (arith, c));
  some_column = (0, omega arith, sym c);
  rows = below_more (λ i. row ≤ row_of r s i) 0 (λ i lt. absurd (omega (arith, lt))) (omega (arith, e));
  some_row = (0, omega arith, sym e);
}
