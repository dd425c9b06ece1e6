-- Links and where places stand: a link in a direction is a step of one column or row, and links join all places.
use Rattle.std.proofs.Common.{◌≡◌, ℕ, ◌+◌, ◌*◌, ◌/◌, ◌%◌, ◌<◌, ◌≤◌, ◌↔◌, inl, inr, sym, ap, subst, ◌∙◌, refl, arith, length, get_or, Some, Bool, true, false}
use Rattle.std.specs.List.{Contains}
use Rattle.std.proofs.lemmas.Bool.{cases_order}
use Rattle.std.proofs.lemmas.List.Elements.{Contains-get_or}
use Rattle.std.proofs.lemmas.List.{get_or_default}
use Rattle.std.proofs.lemmas.Nat.{mod_below, div_below}
use Rattle.go_grid.specs.Board.{NextTo}
use Rattle.go_grid.specs.Region.{Region, IsLink, touch_at}
use Rattle.go_grid.proofs.WalkLemmas.{carried}
use Rattle.region_book.specs.Shape.{Direction, up, left, right, down, exchanged, columns_over, rows_over, turned, link}
use Rattle.region_book.specs.Image.{IsOnBoard, side, one_of, column_of, row_of}
use Rattle.region_book.specs.declared.symmetry.Symmetry.{Symmetry}
use Rattle.go_grid.proofs.LinkLemmas.{link_at, linked_to, one_place, same_point}

-- from one column and row to the next in a direction
abbrev pub Steps : Direction → ℕ → ℕ → ℕ → ℕ → Type 0
Steps up c r c' r' = (r' + 1 ≡ r) × (c' ≡ c)
Steps left c r c' r' = (r' ≡ r) × (c' + 1 ≡ c)
Steps right c r c' r' = (r ≡ r') × (c + 1 ≡ c')
Steps down c r c' r' = (r + 1 ≡ r') × (c ≡ c')

exchange_steps : (e : Bool) (d : Direction) (c r c' r' : ℕ)
    → Steps d c r c' r' ↔ Steps (exchanged e d) (one_of e c r) (one_of e r c) (one_of e c' r') (one_of e r' c')
exchange_steps false d c r c' r' = (λ h. h, λ h. h)
exchange_steps true up c r c' r' = (λ h. (h.1, h.0), λ h. (h.1, h.0))
exchange_steps true left c r c' r' = (λ h. (h.1, h.0), λ h. (h.1, h.0))
exchange_steps true right c r c' r' = (λ h. (h.1, h.0), λ h. (h.1, h.0))
exchange_steps true down c r c' r' = (λ h. (h.1, h.0), λ h. (h.1, h.0))

columns_steps : (b : Bool) (d : Direction) (c r c' r' : ℕ) → c ≤ 24 → c' ≤ 24
    → Steps d c r c' r' ↔ Steps (columns_over b d) (side b c) r (side b c') r'
columns_steps false d c r c' r' l l' = (λ h. h, λ h. h)
columns_steps true up c r c' r' l l' = (λ h. (h.0, omega (arith, h.1)), λ h. (h.0, omega (arith, h.1)))
columns_steps true left c r c' r' l l' = (λ h. (sym h.0, omega (arith, h.1)), λ h. (sym h.0, omega (arith, h.1)))
columns_steps true right c r c' r' l l' = (λ h. (sym h.0, omega (arith, h.1)), λ h. (sym h.0, omega (arith, h.1)))
columns_steps true down c r c' r' l l' = (λ h. (h.0, omega (arith, h.1)), λ h. (h.0, omega (arith, h.1)))

rows_steps : (b : Bool) (d : Direction) (c r c' r' : ℕ) → r ≤ 24 → r' ≤ 24
    → Steps d c r c' r' ↔ Steps (rows_over b d) c (side b r) c' (side b r')
rows_steps false d c r c' r' l l' = (λ h. h, λ h. h)
rows_steps true up c r c' r' l l' = (λ h. (omega (arith, h.0), sym h.1), λ h. (omega (arith, h.0), sym h.1))
rows_steps true left c r c' r' l l' = (λ h. (omega (arith, h.0), h.1), λ h. (omega (arith, h.0), h.1))
rows_steps true right c r c' r' l l' = (λ h. (omega (arith, h.0), h.1), λ h. (omega (arith, h.0), h.1))
rows_steps true down c r c' r' l l' = (λ h. (omega (arith, h.0), sym h.1), λ h. (omega (arith, h.0), sym h.1))

pub side_small : (b : Bool) (n : ℕ) → n ≤ 24 → side b n ≤ 24
side_small false n h = h
side_small true n h = omega arith

pub side_same : (b : Bool) (m n : ℕ) → m ≤ 24 → n ≤ 24 → side b m ≡ side b n → m ≡ n
side_same false m n h k e = e
side_same true m n h k e = omega arith

pub one_of_small : (e : Bool) (a b : ℕ) → a ≤ 24 → b ≤ 24 → one_of e a b ≤ 24
one_of_small false a b h k = h
one_of_small true a b h k = k

one_of_same : (e : Bool) (a b c d : ℕ) → one_of e a b ≡ one_of e c d → one_of e b a ≡ one_of e d c → (a ≡ c) × (b ≡ d)
one_of_same false a b c d p q = (p, q)
one_of_same true a b c d p q = (q, p)

-- a step after the symmetry
pub steps_turned : (s : Symmetry) (d : Direction) (c r c' r' : ℕ) → c ≤ 24 → r ≤ 24 → c' ≤ 24 → r' ≤ 24
    → Steps d c r c' r' ↔ Steps (turned s d) (side s.columns (one_of s.exchange c r)) (side s.rows (one_of s.exchange r c))
    (side s.columns (one_of s.exchange c' r')) (side s.rows (one_of s.exchange r' c'))
steps_turned s d c r c' r' hc hr hc' hr' =
    let e = s.exchange in
    let first = exchange_steps e d c r c' r' in
    let second = columns_steps s.columns (exchanged e d) (one_of e c r) (one_of e r c) (one_of e c' r') (one_of e r' c')
    (one_of_small e c r hc hr) (one_of_small e c' r' hc' hr') in
    let third = rows_steps s.rows (columns_over s.columns (exchanged e d)) (side s.columns (one_of e c r)) (one_of e r c)
    (side s.columns (one_of e c' r')) (one_of e r' c') (one_of_small e r c hr hc) (one_of_small e r' c' hr' hc') in
    (λ h. third.0 (second.0 (first.0 h)), λ h. first.1 (second.1 (third.1 h)))

-- the step from one point to another
abbrev pub PointSteps : ℕ → Direction → ℕ → ℕ → Type 0
PointSteps c d p q = Steps d (p % c) (p / c) (q % c) (q / c)

one_step : (c : ℕ) (d : Direction) (p q s : ℕ) → PointSteps c d p q → PointSteps c d p s → q ≡ s
one_step c up p q s a b = same_point c q s (omega (arith, a.0, b.0)) (a.1 ∙ sym b.1)
one_step c left p q s a b = same_point c q s (a.0 ∙ sym b.0) (omega (arith, a.1, b.1))
one_step c right p q s a b = same_point c q s (sym a.0 ∙ b.0) (sym a.1 ∙ b.1)
one_step c down p q s a b = same_point c q s (sym a.0 ∙ b.0) (sym a.1 ∙ b.1)

module _ (r : Region) (at : IsOnBoard r) where
  pub on_board : (i : ℕ) → i < length r.points → (get_or r.points i 0 % r.columns ≤ 24) × (get_or r.points i 0 / r.columns ≤ 24)
  on_board i lt =
      let p = get_or r.points i 0 in
      let inside : p < r.columns * r.rows = at.region.on_board p (Contains-get_or r.points i 0 lt) in
      let wide : 0 < r.columns = positive r.columns r.rows p inside in
      (omega (arith, mod_below p r.columns wide, at.columns), omega (arith, div_below p r.columns r.rows wide (omega (arith, inside)), at.rows))
    where
      positive : (c n p : ℕ) → p < c * n → 0 < c
      positive c n p h = elim (cases_order c 0) as (λ _. 0 < c) [
        | inl e ↦ absurd (let z : c * n ≡ 0 * n = ap (λ m. m * n) e in omega (arith, z, h))
        | inr (inl less) ↦ absurd (omega (arith, less))
        | inr (inr more) ↦ more
      ]

  is_link : (i : ℕ) (d : Direction) → i < length r.points
      → IsLink r.points (λ q. PointSteps r.columns d (get_or r.points i 0) q) (link (touch_at r.touch i) d)
  is_link i up lt = (at.region.links i lt).up
  is_link i left lt = (at.region.links i lt).left
  is_link i right lt = (at.region.links i lt).right
  is_link i down lt = (at.region.links i lt).down

  -- a link is a step to the place
  pub links_are : (i k : ℕ) (d : Direction) → i < length r.points → (link (touch_at r.touch i) d ≡ Some k)
      ↔ ((k < length r.points) × PointSteps r.columns d (get_or r.points i 0) (get_or r.points k 0))
  links_are i k d lt = (
    λ e. link_at r.points (λ q. PointSteps r.columns d (get_or r.points i 0) q) (link (touch_at r.touch i) d) k (is_link i d lt) e,
    λ w. linked_to r.points (λ q. PointSteps r.columns d (get_or r.points i 0) q) (link (touch_at r.touch i) d) k at.region.ascending
        (is_link i d lt) (λ q s a b. one_step r.columns d (get_or r.points i 0) q s a b) w.0 w.1,
  )

  -- also after a symmetry
  pub links_turned : (s : Symmetry) (i k : ℕ) (d : Direction) → i < length r.points → k < length r.points
      → (link (touch_at r.touch i) d ≡ Some k)
      ↔ Steps (turned s d) (column_of r s i) (row_of r s i) (column_of r s k) (row_of r s k)
  links_turned s i k d lt lt' =
      let p = get_or r.points i 0 in
      let q = get_or r.points k 0 in
      let here = on_board i lt in
      let there = on_board k lt' in
      let turn = steps_turned s d (p % r.columns) (p / r.columns) (q % r.columns) (q / r.columns) here.0 here.1 there.0 there.1 in
      let plain = links_are i k d lt in
      (λ e. turn.0 ((plain.0 e).1), λ h. plain.1 (lt', turn.1 h))

  pub column_small : (s : Symmetry) (i : ℕ) → i < length r.points → column_of r s i ≤ 24
  column_small s i lt = let w = on_board i lt in side_small s.columns _ (one_of_small s.exchange _ _ w.0 w.1)

  pub row_small : (s : Symmetry) (i : ℕ) → i < length r.points → row_of r s i ≤ 24
  row_small s i lt = let w = on_board i lt in side_small s.rows _ (one_of_small s.exchange _ _ w.1 w.0)

  -- places that stand at one column and row are the same
  pub one_stand : (s : Symmetry) (i k : ℕ) → i < length r.points → k < length r.points
      → column_of r s i ≡ column_of r s k → row_of r s i ≡ row_of r s k → i ≡ k
  one_stand s i k lt lt' columns rows =
      let p = get_or r.points i 0 in
      let q = get_or r.points k 0 in
      let c = r.columns in
      let here = on_board i lt in
      let there = on_board k lt' in
      let first = side_same s.columns (one_of s.exchange (p % c) (p / c)) (one_of s.exchange (q % c) (q / c))
      (one_of_small s.exchange _ _ here.0 here.1) (one_of_small s.exchange _ _ there.0 there.1) columns in
      let second = side_same s.rows (one_of s.exchange (p / c) (p % c)) (one_of s.exchange (q / c) (q % c))
      (one_of_small s.exchange _ _ here.1 here.0) (one_of_small s.exchange _ _ there.1 there.0) rows in
      let same = one_of_same s.exchange (p % c) (p / c) (q % c) (q / c) first second in
      one_place r.points i k at.region.ascending lt lt' (same_point c p q same.1 same.0)

  -- what goes on along links goes on to every place
  pub reaches : (C : ℕ → Type 0) → ((i k : ℕ) (d : Direction) → i < length r.points → k < length r.points → C i
      → link (touch_at r.touch i) d ≡ Some k → C k) → (i k : ℕ) → i < length r.points → k < length r.points → C i → C k
  reaches C goes i k lt lt' here =
      let w = carried r.columns (Contains r.points) At step (get_or r.points i 0) (get_or r.points k 0) (i, lt, refl, here)
      (at.region.joined _ _ (Contains-get_or r.points i 0 lt) (Contains-get_or r.points k 0 lt')) in
      subst C (one_place r.points w.0 k at.region.ascending w.1 lt' w.2) w.3
    where
      At : ℕ → Type 0
      At q = (k : ℕ) × (k < length r.points) × (get_or r.points k 0 ≡ q) × C k

      heads : (p q : ℕ) → NextTo r.columns p q → (d : Direction) × PointSteps r.columns d p q
      heads p q (inl (row, inl e)) = (right, (row, e))
      heads p q (inl (row, inr e)) = (left, (sym row, e))
      heads p q (inr (column, inl e)) = (down, (e, column))
      heads p q (inr (column, inr e)) = (up, (e, sym column))

      step : (p q : ℕ) → At p → NextTo r.columns p q → Contains r.points q → At q
      step p q (k, inside, is, c) next (l, inside', is') =
          let at_l : get_or r.points l 0 ≡ q = get_or_default r.points l 0 q inside' ∙ is' in
          let (d, steps) = heads p q next in
          let steps' : PointSteps r.columns d (get_or r.points k 0) (get_or r.points l 0) =
          subst (λ x. PointSteps r.columns d x (get_or r.points l 0)) (sym is) (subst (λ x. PointSteps r.columns d p x) (sym at_l) steps) in
          (l, inside', at_l, goes k l d inside inside' c ((links_are k l d inside).1 (inside', steps')))
