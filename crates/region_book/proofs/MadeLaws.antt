-- What the code of a shape keeps.
use Rattle.std.proofs.Common.{◌≡◌, ℕ, ◌+◌, ◌-◌, ◌<◌, ◌≤◌, ◌⊎◌, inl, inr, sym, ap, subst, ◌∙◌, arith, List, [], ◌∷◌, ◌++◌, length, get_or, Bool, false, Less, Equal, Greater, below_more}
use Rattle.std.specs.Cmp.{Equal-is}
use Rattle.std.specs.List.Sorted.{IsPermutation, IsSorted}
use Rattle.std.specs.Ordering.{eq_by_cmp, is_gt, is_le, ordering_reverse}
use Rattle.std.specs.declared.cmp.Ordering.{Ordering}
use Rattle.std.specs.Cmp.Lexicographic.{slice_cmp}
use Rattle.std.proofs.lemmas.Bool.{cases_Bool, true≢false}
use Rattle.std.proofs.lemmas.Cmp.{eq_by_cmp_equiv, tied_itself, upto}
use Rattle.std.proofs.lemmas.List.{get_or_append_left, get_or_default, get_or_push}
use Rattle.std.proofs.lemmas.List.Sorted.{Contains-permutation, IsPermutation-sym}
use Rattle.std.proofs.lemmas.Map.Keys.{IsDistinct-from_apart, IsDistinct-IsPermutation}
use Rattle.go_grid.specs.declared.grid.Cell.{Cell}
use Rattle.go_grid.specs.declared.grid.Colour.TheVariants.{Black, White}
use Rattle.go_grid.specs.Region.{Region, touch_at}
use Rattle.local_play.specs.LocalPlay.{held_at, is_beside}
use Rattle.region_book.specs.Shape.{cell_after, colour_after}
use Rattle.region_book.specs.Image.{IsOnBoard, AtMost, BeginsAt, IsImage, IsShape, Places, column_of, row_of, spot_cmp, spot_of}
use Rattle.go_grid.specs.Stones.{is_of}
use Rattle.region_book.specs.inner.Made.{IsLeastAmong, Spots}
use Rattle.region_book.specs.declared.spots.Spot.{Spot}
use Rattle.region_book.specs.declared.symmetry.Symmetry.{Symmetry}
use Rattle.region_book.specs.declared.images.Image.{Image}
use Rattle.region_book.proofs.SpotLaws.{one_list, one_spot, rises_sorted, spot_same, spot_total, spots_total}

-- the order of images
pub at_most_itself : (x : List Spot) → AtMost x x
at_most_itself x = ap is_gt (tied_itself spots_total x)

pub at_most_else : (x y : List Spot) (o : Ordering) → o ≡ slice_cmp spot_cmp x y → is_le o ≡ false → AtMost y x
at_most_else x y Less e f = absurd (true≢false f)
at_most_else x y Equal e f = absurd (true≢false f)
at_most_else x y Greater e f = ap is_gt (spots_total.antisymm y x ∙ ap ordering_reverse (sym e))

-- a symmetry makes one image
one_beginning : (r : Region) (s : Symmetry) (w n w' n' : ℕ) → BeginsAt r s w n → BeginsAt r s w' n' → (w ≡ w') × (n ≡ n')
one_beginning r s w n w' n' b b' =
    let (i, lt, e) = b.some_column in
    let (i', lt', e') = b'.some_column in
    let (k, less, f) = b.some_row in
    let (k', less', f') = b'.some_row in (
      omega (arith, b.columns i' lt', b'.columns i lt, e, e'),
      omega (arith, b.rows k' less', b'.rows k less, f, f'),
    )

pub one_image : (r : Region) (cells : List Cell) (s : Symmetry) (c : Bool) (w n w' n' : ℕ) (x y : List Spot) → IsImage r cells s c w n x
    → IsImage r cells s c w' n' y → x ≡ y
one_image r cells s c w n w' n' x y a b' =
    let same = one_beginning r s w n w' n' a.begins b'.begins in
    let b : IsImage r cells s c w n y = subst (λ k. IsImage r cells s c w k y) (sym same.1) (subst (λ k. IsImage r cells s c k n' y) (sym same.0) b') in
    one_list x y a.ascending b.ascending (λ p h. (b.exact p).1 ((a.exact p).0 h)) (λ p h. (a.exact p).1 ((b.exact p).0 h))

-- one more place
pub spots_push : (r : Region) (cells : List Cell) (s : Symmetry) (c : Bool) (w n k : ℕ) (xs : List Spot) (x : Spot) → length xs ≡ k
    → ((i : ℕ) (d : Spot) → i < k → get_or xs i d ≡ spot_of r cells s c w n i) → x ≡ spot_of r cells s c w n k
    → (i : ℕ) (d : Spot) → i < k + 1 → get_or (xs ++ x ∷ []) i d ≡ spot_of r cells s c w n i
spots_push r cells s c w n k xs x long old new i d lt =
    below_more (λ i. get_or (xs ++ x ∷ []) i d ≡ spot_of r cells s c w n i) k
    (λ i lt. get_or_append_left xs (x ∷ []) d i (omega (arith, long, lt)) ∙ old i d lt)
    (get_or_push xs x d k long ∙ new) i lt

-- the places in order are the image
pub sorted_image : (r : Region) (cells : List Cell) (s : Symmetry) (c : Bool) (w n : ℕ) (xs ys : List Spot) → IsOnBoard r → BeginsAt r s w n
    → Spots r cells s c w n xs → IsPermutation xs ys → IsSorted spot_cmp ys → IsImage r cells s c w n ys
sorted_image r cells s c w n xs ys at begins spots moved sorted = record {
  begins = begins;
  ascending = rises_sorted ys sorted
      (IsDistinct-IsPermutation (eq_by_cmp spot_cmp) (eq_by_cmp_equiv spot_total).symm xs ys moved (IsDistinct-from_apart (eq_by_cmp spot_cmp) xs apart));
  exact = λ p. (
    λ h. let (k, lt, is) = Contains-permutation ys xs p (IsPermutation-sym xs ys moved) h in
        let lt' : k < length r.points = omega (arith, lt, spots.0) in
        (k, lt', sym is ∙ sym (get_or_default xs k p p lt) ∙ spots.1 k p lt'),
    λ h. let (k, lt, is) = h in
        let lt' : k < length xs = omega (arith, lt, spots.0) in
        Contains-permutation xs ys p moved (k, lt', sym (get_or_default xs k p p lt') ∙ spots.1 k p lt ∙ sym is),
  );
}
  where
    apart : (i j : ℕ) (d : Spot) → i < j → j < length xs → eq_by_cmp spot_cmp (get_or xs i d) (get_or xs j d) ≡ false
    apart i j d less lt = elim (cases_Bool (eq_by_cmp spot_cmp (get_or xs i d) (get_or xs j d))) as (λ _. eq_by_cmp spot_cmp (get_or xs i d) (get_or xs j d) ≡ false) [
      | inl e ↦
          let lt' : j < length r.points = omega (arith, lt, spots.0) in
          let less' : i < length r.points = omega (arith, less, lt') in
          let tied = (Equal-is (spot_cmp (get_or xs i d) (get_or xs j d))).0 e in
          let one = spot_same (get_or xs i d) (get_or xs j d) tied in
          let same = one_spot r cells at s c w n begins i j less' lt' (sym (spots.1 i d less') ∙ one ∙ spots.1 j d lt') in
          absurd (omega (arith, same, less))
      | inr e ↦ e
    ]

-- the lesser of two images is the least among all that the two are least among
pub least_of_two : (r : Region) (cells : List Cell) (P Q R : Symmetry → Bool → Type 0) (a b m : Image) → IsLeastAmong r cells P a
    → IsLeastAmong r cells Q b → ((s : Symmetry) (c : Bool) → R s c → P s c ⊎ Q s c) → (m ≡ a) ⊎ (m ≡ b)
    → AtMost m.spots.items a.spots.items → AtMost m.spots.items b.spots.items → IsLeastAmong r cells R m
least_of_two r cells P Q R a b m p q either one first second = record {
  board = p.board;
  image_is = elim one as (λ _. IsImage r cells m.symmetry m.colours m.begin.column m.begin.row m.spots.items) [
    | inl e ↦ subst (λ x. IsImage r cells x.symmetry x.colours x.begin.column x.begin.row x.spots.items) (sym e) p.image_is
    | inr e ↦ subst (λ x. IsImage r cells x.symmetry x.colours x.begin.column x.begin.row x.spots.items) (sym e) q.image_is
  ];
  long = elim one as (λ _. length m.spots.items ≡ length r.points) [
    | inl e ↦ ap (λ x. length x.spots.items) e ∙ p.long
    | inr e ↦ ap (λ x. length x.spots.items) e ∙ q.long
  ];
  least = λ s c w n found among is. elim (either s c among) as (λ _. AtMost m.spots.items found) [
    | inl h ↦ upto spots_total m.spots.items a.spots.items found first (p.least s c w n found h is)
    | inr h ↦ upto spots_total m.spots.items b.spots.items found second (q.least s c w n found h is)
  ];
}

-- the one image that a symmetry makes
pub least_of_one : (r : Region) (cells : List Cell) (m : Image) → IsImage r cells m.symmetry m.colours m.begin.column m.begin.row m.spots.items
    → length m.spots.items ≡ length r.points → IsOnBoard r → IsLeastAmong r cells (λ s c. (s ≡ m.symmetry) × (c ≡ m.colours)) m
least_of_one r cells m is long board = record {
  board = board;
  image_is = is;
  long = long;
  least = λ s c w n found among h.
      let h' : IsImage r cells m.symmetry m.colours w n found =
      subst (λ x. IsImage r cells m.symmetry x w n found) among.1 (subst (λ x. IsImage r cells x c w n found) among.0 h) in
      subst (AtMost m.spots.items) (one_image r cells m.symmetry m.colours _ _ w n m.spots.items found is h') (at_most_itself m.spots.items);
}

-- what the places hold decides the images
held_spot : (r : Region) (a b : List Cell) (s : Symmetry) (c : Bool) (w n i : ℕ) → ((i : ℕ) → held_at a i ≡ held_at b i)
    → spot_of r a s c w n i ≡ spot_of r b s c w n i
held_spot r a b s c w n i same =
    λ j. record {
      row = row_of r s i - n;
      column = column_of r s i - w;
      black = is_of Black (cell_after c (same i j));
      white = is_of White (cell_after c (same i j));
      beside_black = is_beside (touch_at r.touch i) (colour_after c Black);
      beside_white = is_beside (touch_at r.touch i) (colour_after c White);
    }

held_image : (r : Region) (a b : List Cell) (s : Symmetry) (c : Bool) (w n : ℕ) (x : List Spot) → ((i : ℕ) → held_at a i ≡ held_at b i)
    → IsImage r a s c w n x → IsImage r b s c w n x
held_image r a b s c w n x same is = record {
  begins = is.begins;
  ascending = is.ascending;
  exact = λ p. (
    λ h. let (i, lt, e) = (is.exact p).0 h in (i, lt, e ∙ held_spot r a b s c w n i same),
    λ h. let (i, lt, e) = h in (is.exact p).1 (i, lt, e ∙ sym (held_spot r a b s c w n i same)),
  );
}

pub shape_end : (r : Region) (a b : List Cell) (m : Image) (places : List ℕ) → ((i : ℕ) → held_at a i ≡ held_at b i)
    → IsLeastAmong r a (λ s c. Unit {0}) m
    → Places r a m.symmetry m.colours m.begin.column m.begin.row m.spots.items places
    → ((i : ℕ) → length r.points ≤ i → i < 32 → get_or places i 0 ≡ 0)
    → IsShape r b m.spots.items (record { places = places; colours = m.colours })
shape_end r a b m places same is placed past = record {
  board = is.board;
  made = record {
    symmetry = m.symmetry;
    left = m.begin.column;
    top = m.begin.row;
    image_is = held_image r a b m.symmetry m.colours m.begin.column m.begin.row m.spots.items same is.image_is;
    long = is.long;
    places = λ i lt. let w = placed i lt in (w.0, λ d. w.1 d ∙ held_spot r a b m.symmetry m.colours m.begin.column m.begin.row i same);
    past = past;
  };
  least = λ s c w n found h. is.least s c w n found tt (held_image r b a s c w n found (λ i. sym (same i)) h);
}
