-- What two equal spots say, and the order of spots.
use Rattle.std.proofs.Common.{◌≡◌, ℕ, ◌-◌, ◌<◌, ◌≤◌, sym, ap, zero, suc, inl, inr, ◌∙◌, subst, ◌⊎◌, refl, arith, rules, nat_eq, ◌&&◌, get_or, length, List, [], ◌∷◌, Bool, true, false, Less, Equal, Greater}
use Rattle.std.specs.List.{AllPairs, Contains, IsDistinct}
use Rattle.std.specs.List.Sorted.{IsSorted}
use Rattle.std.specs.Ordering.{nat_cmp, bool_cmp, eq_by_cmp, is_eq, ordering_index, ordering_reverse, ordering_then}
use Rattle.std.proofs.lemmas.Bool.{cases_order, true≢false}
use Rattle.std.proofs.lemmas.Cmp.{tied_itself}
use Rattle.std.proofs.lemmas.List.{get_or_default}
use Rattle.std.proofs.lemmas.List.Sorted.{searchable_from_sorted}
use Rattle.std.proofs.lemmas.Map.Keys.{apart_from_distinct}
use Rattle.std.specs.Bool.{Decides, beq}
use Rattle.std.specs.Cmp.{IsTotalOrder, booleans_Decides}
use Rattle.std.proofs.lemmas.Bool.Decides.{Decides-and, Decides-eqb, Decides-like}
use Rattle.std.specs.Cmp.Rules.{comparing}
use Rattle.std.specs.Cmp.Lexicographic.{slice_cmp, lists_total, pointwise, pointwise_decides}
use Rattle.std.specs.FinSet.{IsAntisymmetric, nat_cmp-IsAntisymmetric}
use Rattle.std.specs.declared.cmp.Ordering.{Ordering}
use Rattle.go_grid.specs.declared.grid.Cell.{Cell}
use Rattle.go_grid.specs.declared.grid.Cell.TheVariants as cell
use Rattle.go_grid.specs.declared.grid.Colour.TheVariants.{Black, White}
use Rattle.go_grid.specs.Region.{Region, touch_at}
use Rattle.local_play.specs.LocalPlay.{held_at, is_beside}
use Rattle.region_book.specs.Shape.{cell_after, colour_after}
use Rattle.region_book.specs.Image.{IsOnBoard, BeginsAt, column_of, row_of, spot_cmp, spot_of}
use Rattle.go_grid.specs.Stones.{is_of}
use Rattle.region_book.specs.declared.spots.Spot.{Spot}
use Rattle.region_book.specs.declared.symmetry.Symmetry.{Symmetry}
use Rattle.region_book.proofs.PlaceLaws.{one_stand}

-- cells with stones of the same colours are the same
same_cell : (x y : Cell) → is_of Black x ≡ is_of Black y → is_of White x ≡ is_of White y → x ≡ y
same_cell cell.Empty cell.Empty b w = refl
same_cell cell.Empty cell.Black b w = cc
same_cell cell.Empty cell.White b w = cc
same_cell cell.Black cell.Empty b w = cc
same_cell cell.Black cell.Black b w = refl
same_cell cell.Black cell.White b w = cc
same_cell cell.White cell.Empty b w = cc
same_cell cell.White cell.Black b w = cc
same_cell cell.White cell.White b w = refl

-- what is known of two places is the same
pub record SameSpot (r : Region) (cells : List Cell) (s : Symmetry) (e : Bool) (left top i : ℕ)
    (q : Region) (cells' : List Cell) (t : Symmetry) (e' : Bool) (left' top' j : ℕ) : Type 0 where
  pub columns : column_of r s i - left ≡ column_of q t j - left'
  pub rows : row_of r s i - top ≡ row_of q t j - top'
  pub held : cell_after e (held_at cells i) ≡ cell_after e' (held_at cells' j)
  pub black : is_beside (touch_at r.touch i) (colour_after e Black) ≡ is_beside (touch_at q.touch j) (colour_after e' Black)
  pub white : is_beside (touch_at r.touch i) (colour_after e White) ≡ is_beside (touch_at q.touch j) (colour_after e' White)

pub same_parts : (r : Region) (cells : List Cell) (s : Symmetry) (e : Bool) (left top i : ℕ)
    (q : Region) (cells' : List Cell) (t : Symmetry) (e' : Bool) (left' top' j : ℕ)
    → spot_of r cells s e left top i ≡ spot_of q cells' t e' left' top' j → SameSpot r cells s e left top i q cells' t e' left' top' j
same_parts r cells s e left top i q cells' t e' left' top' j is = record {
  columns = ap (λ x. x.column) is;
  rows = ap (λ x. x.row) is;
  held = same_cell (cell_after e (held_at cells i)) (cell_after e' (held_at cells' j)) (ap (λ x. x.black) is) (ap (λ x. x.white) is);
  black = ap (λ x. x.beside_black) is;
  white = ap (λ x. x.beside_white) is;
}

-- places of which the same is known are the same
pub one_spot : (r : Region) (cells : List Cell) → IsOnBoard r → (s : Symmetry) (e : Bool) (west north : ℕ) → BeginsAt r s west north
    → (i k : ℕ) → i < length r.points → k < length r.points
    → spot_of r cells s e west north i ≡ spot_of r cells s e west north k → i ≡ k
one_spot r cells at s e west north begins i k lt lt' is =
    one_stand r at s i k lt lt' (omega (arith, ap (λ x. x.column) is, begins.columns i lt, begins.columns k lt'))
    (omega (arith, ap (λ x. x.row) is, begins.rows i lt, begins.rows k lt'))

-- the order of spots
pub spot_total : IsTotalOrder spot_cmp
spot_total = search (comparing, rules) depth 9

pub spots_total : IsTotalOrder (slice_cmp spot_cmp)
spots_total = lists_total spot_total

bool_same : (x y : Bool) → bool_cmp x y ≡ Equal → x ≡ y
bool_same false false e = refl
bool_same true true e = refl
bool_same false true e = cc
bool_same true false e = cc

both_equal : (o p : Ordering) → ordering_then o p ≡ Equal → (o ≡ Equal) × (p ≡ Equal)
both_equal Less p e = cc
both_equal Equal p e = (refl, e)
both_equal Greater p e = cc

pub spot_same : IsAntisymmetric spot_cmp
spot_same x y e =
    let a = both_equal (nat_cmp x.row y.row) _ e in
    let b = both_equal (nat_cmp x.column y.column) _ a.1 in
    let c = both_equal (bool_cmp x.black y.black) _ b.1 in
    let d = both_equal (bool_cmp x.white y.white) _ c.1 in
    let f = both_equal (bool_cmp x.beside_black y.beside_black) (bool_cmp x.beside_white y.beside_white) d.1 in
    λ i. record {
      row = nat_cmp-IsAntisymmetric x.row y.row a.0 i;
      column = nat_cmp-IsAntisymmetric x.column y.column b.0 i;
      black = bool_same x.black y.black c.0 i;
      white = bool_same x.white y.white d.0 i;
      beside_black = bool_same x.beside_black y.beside_black f.0 i;
      beside_white = bool_same x.beside_white y.beside_white f.1 i;
    }

-- a spot doesn't stand before itself
pub never_less : (x y : Spot) → x ≡ y → spot_cmp x y ≡ Less → ⊥
never_less x y e less =
    let same : spot_cmp x y ≡ Equal = ap (spot_cmp x) (sym e) ∙ tied_itself spot_total x in
    absurd (not_both (sym same ∙ less))
  where
    not_both : Equal ≡ Less → ⊥
    not_both e = cc

-- ascending places of which the same is known are the same
pub one_spot_at : (xs : List Spot) (i k : ℕ) (d : Spot) → AllPairs (λ a b. spot_cmp a b ≡ Less) xs → i < length xs → k < length xs
    → get_or xs i d ≡ get_or xs k d → i ≡ k
one_spot_at xs i k d rising li lk e = elim (cases_order i k) as (λ _. i ≡ k) [
  | inl same ↦ same
  | inr (inl less) ↦ absurd (never_less (get_or xs i d) (get_or xs k d) e (rising i k d less lk))
  | inr (inr more) ↦ absurd (never_less (get_or xs k d) (get_or xs i d) (sym e) (rising k i d more li))
]

-- ascending lists of the same spots are the same
abbrev Rises : List Spot → Type 0
Rises xs = AllPairs (λ a b. spot_cmp a b ≡ Less) xs

tail : (x : Spot) (xs : List Spot) → Rises (x ∷ xs) → Rises xs
tail x xs up i j d lt short = up (suc i) (suc j) d (omega (arith, lt)) (omega (arith, short))

above : (x : Spot) (xs : List Spot) (p : Spot) → Rises (x ∷ xs) → Contains xs p → spot_cmp x p ≡ Less
above x xs p up (k, short, at) =
    subst (λ q. spot_cmp x q ≡ Less) (get_or_default xs k p p short ∙ at) (up 0 (suc k) p (omega arith) (omega (arith, short)))

further : (z : Spot) (zs : List Spot) (p : Spot) → Contains zs p → Contains (z ∷ zs) p
further z zs p (k, short, at) = (suc k, omega (arith, short), at)

-- an item is the first one, or comes after it
first_or_later : (z : Spot) (zs : List Spot) (p : Spot) → Contains (z ∷ zs) p → (z ≡ p) ⊎ Contains zs p
first_or_later z zs p (zero, short, at) = inl at
first_or_later z zs p (suc k, short, at) = inr (k, omega (arith, short), at)

both_less : (x y : Spot) → spot_cmp x y ≡ Less → spot_cmp y x ≡ Less → ⊥
both_less x y a b = never_less x x refl (spot_total.trans x y x a b)

pub one_list : (xs ys : List Spot) → Rises xs → Rises ys → ((p : Spot) → Contains xs p → Contains ys p)
    → ((p : Spot) → Contains ys p → Contains xs p) → xs ≡ ys
one_list [] [] a b f g = refl
one_list [] (y ∷ ys) a b f g = absurd (let w = g y (0, omega arith, refl) in omega (arith, w.1))
one_list (x ∷ xs) [] a b f g = absurd (let w = f x (0, omega arith, refl) in omega (arith, w.1))
one_list (x ∷ xs) (y ∷ ys) a b f g =
    let same : x ≡ y = elim (first_or_later y ys x (f x (0, omega arith, refl))) as (λ _. x ≡ y) [
      | inl e ↦ sym e
      | inr late ↦ elim (first_or_later x xs y (g y (0, omega arith, refl))) as (λ _. x ≡ y) [
        | inl e ↦ e
        | inr later ↦ absurd (both_less x y (above x xs y a later) (above y ys x b late))
      ]
    ] in
    let rest = one_list xs ys (tail x xs a) (tail y ys b)
    (λ p h. later_of y ys p (f p (further x xs p h)) (λ e. never_less x p (same ∙ e) (above x xs p a h)))
    (λ p h. later_of x xs p (g p (further y ys p h)) (λ e. never_less y p (sym same ∙ e) (above y ys p b h))) in
    λ i. same i ∷ rest i
  where
    later_of : (z : Spot) (zs : List Spot) (p : Spot) → Contains (z ∷ zs) p → (z ≡ p → ⊥) → Contains zs p
    later_of z zs p c no' = elim (first_or_later z zs p c) as (λ _. Contains zs p) [
      | inl e ↦ absurd (no' e)
      | inr later ↦ later
    ]

-- a sorted list of different spots ascends
pub rises_sorted : (xs : List Spot) → IsSorted spot_cmp xs → IsDistinct (eq_by_cmp spot_cmp) xs → Rises xs
rises_sorted xs sorted apart i j d less short = at (spot_cmp b a) refl
  where
    a : Spot
    a = get_or xs i d

    b : Spot
    b = get_or xs j d

    -- no spot stands before an earlier one
    up : ordering_index (spot_cmp a a) ≤ ordering_index (spot_cmp b a)
    up = searchable_from_sorted spot_total (λ x. x) xs a sorted i j d (omega (arith, less)) short

    level : ordering_index (spot_cmp a a) ≡ 1
    level = ap ordering_index (tied_itself spot_total a)

    at : (o : Ordering) → spot_cmp b a ≡ o → spot_cmp a b ≡ Less
    at Less e = absurd (omega (arith, up, level, ap ordering_index e))
    at Equal e = absurd (true≢false (sym (ap is_eq (spot_total.antisymm a b ∙ ap ordering_reverse e)) ∙ apart_from_distinct (eq_by_cmp spot_cmp) xs i j d apart less short))
    at Greater e = spot_total.antisymm a b ∙ ap ordering_reverse e

-- equality of lists of spots, as the derived test has it
same_spot : (x y : Spot) → Decides (nat_eq x.row y.row && (nat_eq x.column y.column && (beq x.black y.black && (beq x.white y.white
    && (beq x.beside_black y.beside_black && beq x.beside_white y.beside_white))))) (x ≡ y)
same_spot x y =
    Decides-like _
    (λ p i. record {
      row = p.0 i;
      column = p.1.0 i;
      black = p.1.1.0 i;
      white = p.1.1.1.0 i;
      beside_black = p.1.1.1.1.0 i;
      beside_white = p.1.1.1.1.1 i;
    })
    (λ e. (ap (λ z. z.row) e, (ap (λ z. z.column) e, (ap (λ z. z.black) e, (ap (λ z. z.white) e, (ap (λ z. z.beside_black) e, ap (λ z. z.beside_white) e))))))
    (Decides-and _ _ (Decides-eqb x.row y.row) (Decides-and _ _ (Decides-eqb x.column y.column)
    (Decides-and _ _ (booleans_Decides x.black y.black) (Decides-and _ _ (booleans_Decides x.white y.white)
    (Decides-and _ _ (booleans_Decides x.beside_black y.beside_black) (booleans_Decides x.beside_white y.beside_white))))))

pub same_spots : (xs ys : List Spot) → Decides (pointwise (λ x y. nat_eq x.row y.row && (nat_eq x.column y.column && (beq x.black y.black
    && (beq x.white y.white && (beq x.beside_black y.beside_black && beq x.beside_white y.beside_white))))) xs ys) (xs ≡ ys)
same_spots = pointwise_decides same_spot
