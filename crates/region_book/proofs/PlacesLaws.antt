-- The places of an image, as far as they were looked up.
use Rattle.std.proofs.Common.{◌≡◌, ◌≢◌, ℕ, ◌+◌, ◌<◌, ◌≤◌, ap, ◌∙◌, arith, List, Bool, length, get_or, set, replicate, below_more}
use Rattle.std.proofs.lemmas.List.{get_or-replicate, get_or-set_other, get_or-set_same, length-replicate, length-set}
use Rattle.go_grid.specs.declared.grid.Cell.{Cell}
use Rattle.go_grid.specs.Region.{Region}
use Rattle.region_book.specs.Image.{spot_of}
use Rattle.region_book.specs.declared.spots.Spot.{Spot}
use Rattle.region_book.specs.declared.symmetry.Symmetry.{Symmetry}

pub record Placing (r : Region) (cells : List Cell) (s : Symmetry) (c : Bool) (west north : ℕ) (image : List Spot) (n : ℕ) (places : List ℕ) : Type 0 where
  pub long : length places ≡ 32
  pub placed : (i : ℕ) → i < n → (get_or places i 0 < length image) × ((d : Spot) → get_or image (get_or places i 0) d ≡ spot_of r cells s c west north i)
  pub past : (i : ℕ) → n ≤ i → i < 32 → get_or places i 0 ≡ 0

pub placing_more : (r : Region) (cells : List Cell) (s : Symmetry) (c : Bool) (west north : ℕ) (image : List Spot) (n : ℕ) (places : List ℕ) (x : ℕ)
    → Placing r cells s c west north image n places → n < 32 → x < length image → ((d : Spot) → get_or image x d ≡ spot_of r cells s c west north n)
    → Placing r cells s c west north image (n + 1) (set places n x)
placing_more r cells s c west north image n places x p few lt is = record {
  long = length-set places n x ∙ p.long;
  placed = below_more (λ i. (get_or (set places n x) i 0 < length image) × ((d : Spot) → get_or image (get_or (set places n x) i 0) d ≡ spot_of r cells s c west north i)) n
      (λ i less. let apart : i ≢ n = omega (arith, less) in rw (get_or-set_other places n i x 0 apart) (p.placed i less))
      (rw (get_or-set_same places n x 0 (omega (arith, few, p.long))) (lt, is));
  past = λ i le less. let apart : i ≢ n = omega (arith, le) in get_or-set_other places n i x 0 apart ∙ p.past i (omega (arith, le)) less;
}

pub placing_none : (r : Region) (cells : List Cell) (s : Symmetry) (c : Bool) (west north : ℕ) (image : List Spot) (places : List ℕ) → places ≡ replicate 32 0
    → Placing r cells s c west north image 0 places
placing_none r cells s c west north image places e = record {
  long = ap length e ∙ length-replicate {A = ℕ} 32 0;
  placed = λ i lt. absurd (omega (arith, lt));
  past = λ i le lt. ap (λ xs. get_or xs i 0) e ∙ get_or-replicate 32 i 0 0 lt;
}
