-- Equal shapes are those of positions that have one shape.
use Rattle.std.proofs.Common.{◌≡◌, ℕ, zero, suc, ◌+◌, ◌<◌, ◌↔◌, sym, ap, subst, ◌∙◌, refl, arith, List, [], ◌∷◌, length, get_or, Some, Bool, Less, Equal, Greater}
use Rattle.std.specs.Ordering.{is_gt, ordering_reverse}
use Rattle.std.specs.declared.cmp.Ordering.{Ordering}
use Rattle.std.specs.Cmp.Lexicographic.{slice_cmp}
use Rattle.std.specs.FinSet.{slice_cmp-IsAntisymmetric}
use Rattle.std.proofs.lemmas.Bool.{true≢false}
use Rattle.std.proofs.lemmas.List.Elements.{Contains-get_or}
use Rattle.go_grid.specs.declared.grid.Cell.{Cell}
use Rattle.go_grid.specs.declared.grid.Colour.{Colour}
use Rattle.go_grid.specs.declared.grid.Colour.TheVariants.{Black, White}
use Rattle.go_grid.specs.Region.{Region, touch_at}
use Rattle.local_play.specs.LocalPlay.{held_at, is_beside}
use Rattle.region_book.specs.Shape.{Direction, up, left, right, down, turned, link, Carries, HaveOneShape, IsPartner, cell_after, colour_after}
use Rattle.region_book.specs.Image.{IsOnBoard, AtMost, Makes, column_of, row_of, spot_cmp, spot_of}
use Rattle.region_book.specs.Law.{differ, Meet, PairsPlaces, TellsShapes}
use Rattle.region_book.specs.declared.spots.Spot.{Spot}
use Rattle.region_book.specs.declared.symmetry.Symmetry.{Symmetry}
use Rattle.region_book.specs.declared.shapes.Turn.{Turn}
use Rattle.region_book.proofs.SymmetryLaws.{after, after_is, back, back_first, cell_back, cell_both, colour_back, colour_both}
use Rattle.region_book.proofs.PlaceLaws.{Steps, links_turned}
use Rattle.region_book.proofs.CarryLaws.{carried_image, carries_back, carries_same}
use Rattle.region_book.proofs.SpotLaws.{SameSpot, one_spot, one_spot_at, same_parts, spot_same, spots_total}

-- two lists, each at most the other, are the same
pub at_most_same : (x y : List Spot) → AtMost x y → AtMost y x → x ≡ y
at_most_same x y a b = at (slice_cmp spot_cmp x y) refl
  where
    at : (o : Ordering) → slice_cmp spot_cmp x y ≡ o → x ≡ y
    at Less e = absurd (true≢false (sym (ap is_gt (spots_total.antisymm y x ∙ ap ordering_reverse e)) ∙ b))
    at Equal e = slice_cmp-IsAntisymmetric spot_same x y e
    at Greater e = absurd (true≢false (sym (ap is_gt e) ∙ a))

-- a value for each number below n, in a list
chosen : (P : ℕ → ℕ → Type 0) (n : ℕ) → ((k : ℕ) → k < n → (j : ℕ) × P k j)
    → (xs : List ℕ) × (length xs ≡ n) × ((k : ℕ) → k < n → P k (get_or xs k 0))
chosen P zero f = ([], refl, λ k lt. absurd (omega (arith, lt)))
chosen P (suc n) f =
    let first = f 0 (omega arith) in
    let rest = chosen (λ k x. P (suc k) x) n (λ k lt. f (suc k) (omega (arith, lt))) in
    (first.0 ∷ rest.0, omega (arith, rest.1), λ k lt. at first.0 rest.0 first.1 rest.2 k lt)
  where
    at : (x : ℕ) (xs : List ℕ) → P 0 x → ((k : ℕ) → k < n → P (suc k) (get_or xs k 0)) → (k : ℕ) → k < suc n → P k (get_or (x ∷ xs) k 0)
    at x xs p q zero lt = p
    at x xs p q (suc k) lt = q k (omega (arith, lt))

-- steps between columns and rows that are equally far from the beginning
steps_same : (d : Direction) (a r a' r' b q b' q' w w' n n' : ℕ) → (a + w' ≡ b + w) × (r + n' ≡ q + n) → (a' + w' ≡ b' + w) × (r' + n' ≡ q' + n)
    → Steps d a r a' r' ↔ Steps d b q b' q'
steps_same up a r a' r' b q b' q' w w' n n' e f = (
  λ h. (omega (arith, h.0, e.1, f.1), omega (arith, h.1, e.0, f.0)),
  λ h. (omega (arith, h.0, e.1, f.1), omega (arith, h.1, e.0, f.0)),
)
steps_same left a r a' r' b q b' q' w w' n n' e f = (
  λ h. (omega (arith, h.0, e.1, f.1), omega (arith, h.1, e.0, f.0)),
  λ h. (omega (arith, h.0, e.1, f.1), omega (arith, h.1, e.0, f.0)),
)
steps_same right a r a' r' b q b' q' w w' n n' e f = (
  λ h. (omega (arith, h.0, e.1, f.1), omega (arith, h.1, e.0, f.0)),
  λ h. (omega (arith, h.0, e.1, f.1), omega (arith, h.1, e.0, f.0)),
)
steps_same down a r a' r' b q b' q' w w' n n' e f = (
  λ h. (omega (arith, h.0, e.1, f.1), omega (arith, h.1, e.0, f.0)),
  λ h. (omega (arith, h.0, e.1, f.1), omega (arith, h.1, e.0, f.0)),
)

-- the place that is turned to a place of the image
reached : (r : Region) (cells : List Cell) (x : List Spot) (t : Turn) → (m : Makes r cells t x) → (k : ℕ) → k < length x
    → (i : ℕ) × (i < length r.points) × (get_or t.places i 0 ≡ k)
reached r cells x t m k lt =
    let d = spot_of r cells m.symmetry t.colours m.left m.top 0 in
    let (i, here, is) = (m.image_is.exact (get_or x k d)).0 (Contains-get_or x k d lt) in
    let w = m.places i here in
    (i, here, one_spot_at x (get_or t.places i 0) k d m.image_is.ascending w.0 lt (w.1 d ∙ sym is))

-- places that are turned to one place are the same
turned_once : (r : Region) (cells : List Cell) (x : List Spot) (t : Turn) → IsOnBoard r → (m : Makes r cells t x) → (i k : ℕ)
    → i < length r.points → k < length r.points → get_or t.places i 0 ≡ get_or t.places k 0 → i ≡ k
turned_once r cells x t at m i k lt lt' e =
    let d = spot_of r cells m.symmetry t.colours m.left m.top i in
    one_spot r cells at m.symmetry t.colours m.left m.top m.image_is.begins i k lt lt'
    (sym ((m.places i lt).1 d) ∙ ap (λ p. get_or x p d) e ∙ (m.places k lt').1 d)

module _ (r : Region) (cells : List Cell) (q : Region) (cells' : List Cell) (at : IsOnBoard r) (at' : IsOnBoard q)
    (x : List Spot) (s t : Turn) (m : Makes r cells s x) (n : Makes q cells' t x) where
  -- what is known of places that meet
  meet_spot : (i j : ℕ) → Meet r s q t i j → spot_of r cells m.symmetry s.colours m.left m.top i ≡ spot_of q cells' n.symmetry t.colours n.left n.top j
  meet_spot i j (lt, lt', e) =
      let d = spot_of r cells m.symmetry s.colours m.left m.top i in
      sym ((m.places i lt).1 d) ∙ ap (λ p. get_or x p d) (sym e) ∙ (n.places j lt').1 d

  meet_parts : (i j : ℕ) → Meet r s q t i j
      → SameSpot r cells m.symmetry s.colours m.left m.top i q cells' n.symmetry t.colours n.left n.top j
  meet_parts i j p =
      same_parts r cells m.symmetry s.colours m.left m.top i q cells' n.symmetry t.colours n.left n.top j (meet_spot i j p)

  meet_far : (i j : ℕ) → Meet r s q t i j → (column_of r m.symmetry i + n.left ≡ column_of q n.symmetry j + m.left)
      × (row_of r m.symmetry i + n.top ≡ row_of q n.symmetry j + m.top)
  meet_far i j (lt, lt', e) =
      let parts = meet_parts i j (lt, lt', e) in (
        omega (arith, parts.columns, m.image_is.begins.columns i lt, n.image_is.begins.columns j lt'),
        omega (arith, parts.rows, m.image_is.begins.rows i lt, n.image_is.begins.rows j lt'),
      )

  abbrev pub turn : Symmetry
  turn = after (back n.symmetry) m.symmetry

  same_turn : (d : Direction) → turned n.symmetry (turned turn d) ≡ turned m.symmetry d
  same_turn d =
      ap (turned n.symmetry) (sym (after_is (back n.symmetry) m.symmetry d)) ∙ back_first n.symmetry (turned m.symmetry d)

  meet_links : (i j k l : ℕ) → Meet r s q t i j → Meet r s q t k l → (d : Direction)
      → (link (touch_at r.touch i) d ≡ Some k) ↔ (link (touch_at q.touch j) (turned turn d) ≡ Some l)
  meet_links i j k l p p' d =
      let first = links_turned r at m.symmetry i k d p.0 p'.0 in
      let second = links_turned q at' n.symmetry j l (turned turn d) p.1 p'.1 in
      let between = steps_same (turned m.symmetry d) _ _ _ _ _ _ _ _ m.left n.left m.top n.top (meet_far i j p) (meet_far k l p') in
      let Goes : Direction → Type 0 = λ y. Steps y (column_of q n.symmetry j) (row_of q n.symmetry j) (column_of q n.symmetry l) (row_of q n.symmetry l) in (
        λ e. second.1 (subst Goes (sym (same_turn d)) (between.0 (first.0 e))),
        λ e. first.1 (between.1 (subst Goes (same_turn d) (second.0 e))),
      )

  meet_held : (i j : ℕ) → Meet r s q t i j → held_at cells' j ≡ cell_after (differ s.colours t.colours) (held_at cells i)
  meet_held i j p =
      sym (cell_back t.colours (held_at cells' j)) ∙ ap (cell_after t.colours) (sym ((meet_parts i j p).held))
      ∙ cell_both t.colours s.colours (held_at cells i)

  meet_beside : (i j : ℕ) → Meet r s q t i j → (c : Colour)
      → is_beside (touch_at q.touch j) (colour_after (differ s.colours t.colours) c) ≡ is_beside (touch_at r.touch i) c
  meet_beside i j p c =
      ap (is_beside (touch_at q.touch j)) (sym (colour_both t.colours s.colours c)) ∙ each (colour_after s.colours c)
      ∙ ap (is_beside (touch_at r.touch i)) (colour_back s.colours c)
    where
      each : (c : Colour) → is_beside (touch_at q.touch j) (colour_after t.colours c) ≡ is_beside (touch_at r.touch i) (colour_after s.colours c)
      each Black = sym ((meet_parts i j p).black)
      each White = sym ((meet_parts i j p).white)

  pub meeting_carries : Carries r.touch cells q.touch cells' (Meet r s q t) turn (differ s.colours t.colours)
  meeting_carries = record {
    inside = λ i j p. (omega (arith, p.0, at.region.beside), omega (arith, p.1, at'.region.beside));
    first = λ i lt.
        let here : i < length r.points = omega (arith, lt, at.region.beside) in
        let (j, there, e) = reached q cells' x t n (get_or s.places i 0) ((m.places i here).0) in
        (j, (here, there, e));
    second = λ j lt.
        let there : j < length q.points = omega (arith, lt, at'.region.beside) in
        let (i, here, e) = reached r cells x s m (get_or t.places j 0) ((n.places j there).0) in
        (i, (here, there, sym e));
    one = λ i j k l p p'. (
      λ e. turned_once q cells' x t at' n j l p.1 p'.1 (p.2 ∙ ap (λ a. get_or s.places a 0) e ∙ sym p'.2),
      λ e. turned_once r cells x s at m i k p.0 p'.0 (sym p.2 ∙ ap (λ a. get_or t.places a 0) e ∙ p'.2),
    );
    links = meet_links;
    held = meet_held;
    beside = meet_beside;
  }

-- a pairing as a list
listed_pairing : (r : Region) (cells : List Cell) (q : Region) (cells' : List Cell) (P : ℕ → ℕ → Type 0) (s : Symmetry) (e : Bool)
    → Carries r.touch cells q.touch cells' P s e → HaveOneShape r.touch cells q.touch cells'
listed_pairing r cells q cells' P s e h =
    let (partners, long, each) = chosen P (length r.touch) h.first in
    let to : (i j : ℕ) → P i j → IsPartner partners i j = λ i j p.
    let lt = (h.inside i j p).0 in (omega (arith, lt, long), (h.one i (get_or partners i 0) i j (each i lt) p).0 refl) in
    let of_list : (i j : ℕ) → IsPartner partners i j → P i j = λ i j w. subst (P i) w.1 (each i (omega (arith, w.0, long))) in
    (partners, s, e, carries_same r.touch cells q.touch cells' P (IsPartner partners) s e to of_list h)

pub pairs_places : (r : Region) (cells : List Cell) (x : List Spot) (s : Turn) (q : Region) (cells' : List Cell) (y : List Spot) (t : Turn)
    → PairsPlaces r cells x s q cells' y t
pairs_places r cells x s q cells' y t a b e =
    let at = a.board in
    let at' = b.board in
    let n : Makes q cells' t x = subst (Makes q cells' t) (sym e) b.made in
    (turn r cells q cells' at at' x s t a.made n, meeting_carries r cells q cells' at at' x s t a.made n)

pub tells_shapes : (r : Region) (cells : List Cell) (x : List Spot) (s : Turn) (q : Region) (cells' : List Cell) (y : List Spot) (t : Turn)
    → TellsShapes r cells x s q cells' y t
tells_shapes r cells x s q cells' y t a b = (there, here)
  where
    there : x ≡ y → HaveOneShape r.touch cells q.touch cells'
    there e =
        let w = pairs_places r cells x s q cells' y t a b e in
        listed_pairing r cells q cells' (Meet r s q t) w.0 (differ s.colours t.colours) w.1

    here : HaveOneShape r.touch cells q.touch cells' → x ≡ y
    here (partners, u, e, h) =
        let (u', e', west, north, found) = carried_image r cells q cells' a.board b.board (IsPartner partners) u e h a.made.symmetry s.colours a.made.left a.made.top x a.made.image_is in
        let h' = carries_back r.touch cells q.touch cells' (IsPartner partners) u e h in
        let (u'', e'', west', north', found') = carried_image q cells' r cells b.board a.board _ _ _ h' b.made.symmetry t.colours b.made.left b.made.top y b.made.image_is in
        at_most_same x y (a.least u'' e'' west' north' y found') (b.least u' e' west north x found)
