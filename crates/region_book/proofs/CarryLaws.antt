-- A pairing that carries one position onto another carries images: each image of the one is an image of the other.
use Rattle.std.proofs.Common.{◌≡◌, ℕ, ◌+◌, ◌-◌, ◌<◌, sym, ap, subst, ◌∙◌, refl, arith, List, length, Some, Bool}
use Rattle.go_grid.specs.declared.grid.Cell.{Cell}
use Rattle.go_grid.specs.declared.grid.Colour.{Colour}
use Rattle.go_grid.specs.declared.grid.Colour.TheVariants.{Black, White}
use Rattle.go_grid.specs.declared.region.Touch.{Touch}
use Rattle.go_grid.specs.Region.{Region, touch_at}
use Rattle.local_play.specs.LocalPlay.{held_at, is_beside}
use Rattle.region_book.specs.Shape.{Direction, up, left, right, down, turned, link, Carries, cell_after, colour_after}
use Rattle.region_book.specs.Image.{IsOnBoard, column_of, row_of, BeginsAt, IsImage, spot_of}
use Rattle.go_grid.specs.Stones.{is_of}
use Rattle.region_book.specs.Law.{differ}
use Rattle.region_book.specs.declared.spots.Spot.{Spot}
use Rattle.region_book.specs.declared.symmetry.Symmetry.{Symmetry}
use Rattle.region_book.proofs.SymmetryLaws.{after, after_is, back, back_first, back_last, cell_back, colour_back, cell_onward, colour_onward}
use Rattle.region_book.proofs.PlaceLaws.{Steps, links_turned, reaches}

-- the other way round
pub carries_back : (touch : List Touch) (cells : List Cell) (touch' : List Touch) (cells' : List Cell) (Paired : ℕ → ℕ → Type 0)
    (s : Symmetry) (colours : Bool) → Carries touch cells touch' cells' Paired s colours
    → Carries touch' cells' touch cells (λ j i. Paired i j) (back s) colours
carries_back touch cells touch' cells' Paired s colours h = record {
  inside = λ j i p. let w = h.inside i j p in (w.1, w.0);
  first = h.second;
  second = h.first;
  one = λ j i l k p q. let w = h.one i j k l p q in (w.1, w.0);
  links = λ j i l k p q d.
      let w = h.links i j k l p q (turned (back s) d) in
      let e = back_first s d in (
        λ n. w.1 (subst (λ x. link (touch_at touch' j) x ≡ Some l) (sym e) n),
        λ n. subst (λ x. link (touch_at touch' j) x ≡ Some l) e (w.0 n),
      );
  held = λ j i p. sym (ap (cell_after colours) (h.held i j p) ∙ cell_back colours (held_at cells i));
  beside = λ j i p c.
      sym (h.beside i j p (colour_after colours c)) ∙ ap (is_beside (touch_at touch' j)) (colour_back colours c);
}

-- pairings that are the same carry the same
pub carries_same : (touch : List Touch) (cells : List Cell) (touch' : List Touch) (cells' : List Cell) (P Q : ℕ → ℕ → Type 0)
    (s : Symmetry) (colours : Bool) → ((i j : ℕ) → P i j → Q i j) → ((i j : ℕ) → Q i j → P i j)
    → Carries touch cells touch' cells' P s colours → Carries touch cells touch' cells' Q s colours
carries_same touch cells touch' cells' P Q s colours f g h = record {
  inside = λ i j p. h.inside i j (g i j p);
  first = λ i lt. let w = h.first i lt in (w.0, f i w.0 w.1);
  second = λ j lt. let w = h.second j lt in (w.0, f w.0 j w.1);
  one = λ i j k l p q. h.one i j k l (g i j p) (g k l q);
  links = λ i j k l p q. h.links i j k l (g i j p) (g k l q);
  held = λ i j p. h.held i j (g i j p);
  beside = λ i j p. h.beside i j (g i j p);
}

-- steps in one direction keep two columns and two rows as far apart as they were
step_apart : (d : Direction) (a r b q a' r' b' q' a0 r0 b0 q0 : ℕ) → Steps d a r a' r' → Steps d b q b' q'
    → (a + b0 ≡ a0 + b) × (r + q0 ≡ r0 + q) → (a' + b0 ≡ a0 + b') × (r' + q0 ≡ r0 + q')
step_apart up a r b q a' r' b' q' a0 r0 b0 q0 h k e = (omega (arith, h.1, k.1, e.0), omega (arith, h.0, k.0, e.1))
step_apart left a r b q a' r' b' q' a0 r0 b0 q0 h k e = (omega (arith, h.1, k.1, e.0), omega (arith, h.0, k.0, e.1))
step_apart right a r b q a' r' b' q' a0 r0 b0 q0 h k e = (omega (arith, h.1, k.1, e.0), omega (arith, h.0, k.0, e.1))
step_apart down a r b q a' r' b' q' a0 r0 b0 q0 h k e = (omega (arith, h.1, k.1, e.0), omega (arith, h.0, k.0, e.1))

module _ (r : Region) (cells : List Cell) (q : Region) (cells' : List Cell) (at : IsOnBoard r) (at' : IsOnBoard q)
    (Paired : ℕ → ℕ → Type 0) (s : Symmetry) (e : Bool) (h : Carries r.touch cells q.touch cells' Paired s e) where
  here : (i j : ℕ) → Paired i j → i < length r.points
  here i j p = let w = h.inside i j p in omega (arith, w.0, at.region.beside)

  there : (i j : ℕ) → Paired i j → j < length q.points
  there i j p = let w = h.inside i j p in omega (arith, w.1, at'.region.beside)

  partner : (i : ℕ) → i < length r.points → (j : ℕ) × Paired i j
  partner i lt = h.first i (omega (arith, lt, at.region.beside))

  partner_of : (j : ℕ) → j < length q.points → (i : ℕ) × Paired i j
  partner_of j lt = h.second j (omega (arith, lt, at'.region.beside))

  module _ (t u : Symmetry) (same : (d : Direction) → turned u (turned s d) ≡ turned t d) where
    -- two places are as far apart as their partners
    abbrev Apart : ℕ → ℕ → ℕ → ℕ → Type 0
    Apart i j k l = (column_of r t i + column_of q u l ≡ column_of r t k + column_of q u j)
        × (row_of r t i + row_of q u l ≡ row_of r t k + row_of q u j)

    apart : (i j k l : ℕ) → Paired i j → Paired k l → Apart i j k l
    apart i j k l p p' =
        reaches r at (λ m. (n : ℕ) → Paired m n → Apart m n k l) step k i (here k l p') (here i j p)
        (λ n p''. let e = (h.one k l k n p' p'').0 refl in (
          ap (λ x. column_of r t k + column_of q u x) e,
          ap (λ x. row_of r t k + row_of q u x) e,
        )) j p
      where
        step : (m m' : ℕ) (d : Direction) → m < length r.points → m' < length r.points
            → ((n : ℕ) → Paired m n → Apart m n k l) → link (touch_at r.touch m) d ≡ Some m' → (n' : ℕ) → Paired m' n' → Apart m' n' k l
        step m m' d lt lt' known is n' p'' =
            let (n, pn) = partner m lt in
            let first = (links_turned r at t m m' d lt lt').0 is in
            let second = (links_turned q at' u n n' (turned s d) (there m n pn) (there m' n' p'')).0 ((h.links m n m' n' pn p'' d).0 is) in
            step_apart (turned t d) _ _ _ _ _ _ _ _ _ _ _ _ first
            (subst (λ x. Steps x (column_of q u n) (row_of q u n) (column_of q u n') (row_of q u n')) (same d) second) (known n pn)

    module _ (a : Bool) (west north : ℕ) (image : List Spot) (m : IsImage r cells t a west north image) where
      -- partners of places in the first column and in the first row
      first_column : (j : ℕ) × Paired (m.begins.some_column.0) j
      first_column = partner (m.begins.some_column.0) (m.begins.some_column.1)

      first_row : (j : ℕ) × Paired (m.begins.some_row.0) j
      first_row = partner (m.begins.some_row.0) (m.begins.some_row.1)

      abbrev west' : ℕ
      west' = column_of q u (first_column.0)

      abbrev north' : ℕ
      north' = row_of q u (first_row.0)

      far : (i j : ℕ) → Paired i j → (column_of r t i + west' ≡ west + column_of q u j) × (row_of r t i + north' ≡ north + row_of q u j)
      far i j p =
          let columns = (apart i j (m.begins.some_column.0) (first_column.0) p (first_column.1)).0 in
          let rows = (apart i j (m.begins.some_row.0) (first_row.0) p (first_row.1)).1 in
          (omega (arith, columns, m.begins.some_column.2), omega (arith, rows, m.begins.some_row.2))

      begins' : BeginsAt q u west' north'
      begins' = record {
        columns = λ j lt. let (i, p) = partner_of j lt in omega (arith, (far i j p).0, m.begins.columns i (here i j p));
        some_column = (first_column.0, there _ _ first_column.1, refl);
        rows = λ j lt. let (i, p) = partner_of j lt in omega (arith, (far i j p).1, m.begins.rows i (here i j p));
        some_row = (first_row.0, there _ _ first_row.1, refl);
      }

      -- what is known of a place is known of its partner
      same_spot : (i j : ℕ) → Paired i j → spot_of r cells t a west north i ≡ spot_of q cells' u (differ a e) west' north' j
      same_spot i j p =
          let columns : column_of r t i - west ≡ column_of q u j - west' =
          omega (arith, (far i j p).0, m.begins.columns i (here i j p)) in
          let rows : row_of r t i - north ≡ row_of q u j - north' = omega (arith, (far i j p).1, m.begins.rows i (here i j p)) in
          let held = sym (ap (cell_after (differ a e)) (h.held i j p) ∙ cell_onward a e (held_at cells i)) in
          let black = beside Black in
          let white = beside White in
          λ n. record {
            row = rows n;
            column = columns n;
            black = is_of Black (held n);
            white = is_of White (held n);
            beside_black = black n;
            beside_white = white n;
          }
        where
          beside : (c : Colour) → is_beside (touch_at r.touch i) (colour_after a c)
              ≡ is_beside (touch_at q.touch j) (colour_after (differ a e) c)
          beside c = sym (h.beside i j p (colour_after a c)) ∙ ap (is_beside (touch_at q.touch j)) (sym (colour_onward a e c))

      image_with : IsImage q cells' u (differ a e) west' north' image
      image_with = record {
        begins = begins';
        ascending = m.ascending;
        exact = λ x. (
          λ c. let (i, lt, is) = (m.exact x).0 c in let (j, p) = partner i lt in (j, there i j p, is ∙ same_spot i j p),
          λ w. let (j, lt, is) = w in let (i, p) = partner_of j lt in (m.exact x).1 (i, here i j p, is ∙ sym (same_spot i j p)),
        );
      }

  -- each image of the first position is an image of the second
  pub carried_image : (t : Symmetry) (a : Bool) (west north : ℕ) (image : List Spot) → IsImage r cells t a west north image
      → (u : Symmetry) × (b : Bool) × (west' : ℕ) × (north' : ℕ) × IsImage q cells' u b west' north' image
  carried_image t a west north image m =
      let u = after t (back s) in
      let same : (d : Direction) → turned u (turned s d) ≡ turned t d =
      λ d. sym (after_is t (back s) (turned s d)) ∙ ap (turned t) (back_last s d) in
      (u, differ a e, _, _, image_with t u same a west north image m)
