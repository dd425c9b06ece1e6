-- Each stone of a trial board reaches a liberty through its owner's columns.
use Rattle.std.proofs.Common.{◌≡◌, ◌≢◌, ℕ, zero, suc, ◌+◌, ◌-◌, ◌*◌, ◌/◌, ◌%◌, ◌<◌, ◌≤◌, ◌⊎◌, inl, inr, Bool, true, not, ◌&&◌, ◌||◌, ltb, eqb, refl, sym, ap, ◌∙◌, subst, arith}
use Rattle.std.specs.Prelude.{slice_index}
use Rattle.std.proofs.lemmas.Bool.{cases_eq, cases_lt, ltb-true, or_cases, false≢true, and_parts}
use Rattle.std.proofs.lemmas.Bool.Decides.{Decides-below_and}
use Rattle.std.proofs.lemmas.Nat.{mod_below, div-add-mod', div-mul-add, mod-mul-add}
use Rattle.go_grid.specs.declared.grid.Cell.{Cell}
use Rattle.go_grid.specs.declared.grid.Cell.TheVariants as cell
use Rattle.go_grid.specs.declared.grid.Colour.{Colour}
use Rattle.go_grid.specs.declared.grid.Colour.TheVariants as colour
use Rattle.go_grid.specs.Chain.{HasLiberty, IsSettled}
use Rattle.go_grid.proofs.DeclaredLemmas.{none_declared, nothing_closed}
use Rattle.go_grid.specs.Board.{Board, NextTo, HasStone, IsEmpty, cell_at, stone}
use Rattle.go_grid.specs.Walk.{Joined}
use Rattle.go_grid.proofs.BoardLemmas.{same_stone, empty_not_stone}
use Rattle.go_grid.proofs.NearLemmas.{next_up, next_down}
use Rattle.go_grid.proofs.WalkLemmas.{joined_back, joined_here, joined_join, joined_step}
use Rattle.board_gen.specs.Trial.{draw, IsOwner, IsCorridorColumn, IsInCorridor, IsInSomeCorridor, IsDrawnBy, IsTrialBoard, corridor_length, last_row}
use Rattle.board_gen.proofs.LineLemmas.{along_row, down_column}

-- ---- the last row

-- the letter draws no stone of another's than the column's owner
abbrev fits : ℕ → ℕ → Bool
fits letter x = (ltb x 8 || (ltb 15 x || not (eqb letter 88))) && ((ltb 7 x && ltb x 16) || not (eqb letter 79))

abbrev fits_at : ℕ → Bool
fits_at x = fits (slice_index last_row x) x

abbrev all_fit : ℕ → Bool
all_fit zero = true
all_fit (suc n) = fits_at n && all_fit n

fits_each : (x : ℕ) → x < 25 → fits_at x ≡ true
fits_each = (Decides-below_and fits_at (λ x. fits_at x ≡ true) all_fit (λ x. (λ e. e, λ e. e)) refl (λ _. refl) 25).0 refl

drawn_owner : (c : Colour) (letter x : ℕ) → fits letter x ≡ true → IsDrawnBy letter (stone c) → IsOwner x c
drawn_owner colour.Black letter x e is =
    elim (or_cases _ _ (and_parts _ _ (subst (λ l. fits l x ≡ true) is e)).0) [
      | inl low ↦ inl (ltb-true x 8 low)
      | inr more ↦ elim (or_cases _ _ more) [
        | inl high ↦ (let above : 15 < x = ltb-true 15 x high in inr (omega (arith, above)))
        | inr other ↦ absurd (false≢true other)
      ]
    ]
drawn_owner colour.White letter x e is =
    elim (or_cases _ _ (and_parts _ _ (subst (λ l. fits l x ≡ true) is e)).1) [
      | inl both ↦ (
          let parts = and_parts (ltb 7 x) (ltb x 16) both in
          let above : 7 < x = ltb-true 7 x parts.0 in
          (omega (arith, above), ltb-true x 16 parts.1))
      | inr other ↦ absurd (false≢true other)
    ]

pub drawn_empty : (held : Cell) → IsDrawnBy 46 held → held ≡ cell.Empty
drawn_empty cell.Empty is = refl
drawn_empty cell.Black is = absurd (omega (arith, is))
drawn_empty cell.White is = absurd (omega (arith, is))

-- ---- columns

pub owner_of : (x : ℕ) → (c : Colour) × IsOwner x c
owner_of x = elim (cases_lt x 8) [
  | inl low ↦ (colour.Black, inl low)
  | inr least ↦ elim (cases_lt x 16) [ inl most ↦ (colour.White, (least, most)) | inr high ↦ (colour.Black, inr high) ]
]

-- a column of the owner's without corridors, which ends at an empty point
pub record IsSpine (c : Colour) (s : ℕ) : Type 0 where
  pub inside : s < 25
  pub owner : IsOwner s c
  pub clear : (x j p : ℕ) → p % 25 ≡ s → ¬ IsInCorridor x j p
  pub open_end : slice_index last_row s ≡ 46

-- a corridor's columns are near the border
near_border : (c : Colour) (j k s : ℕ) → k < 4 → IsCorridorColumn c j k s → ((5 ≤ s) × (s < 11)) ⊎ ((13 ≤ s) × (s < 19))
near_border colour.Black j k s short (inl h) = inl (omega (arith, short, h.1), omega (arith, h.2))
near_border colour.Black j k s short (inr h) = inr (omega (arith, h.1), omega (arith, short, h.2))
near_border colour.White j k s short (inl h) = inl (omega (arith, h.1), omega (arith, short, h.2))
near_border colour.White j k s short (inr h) = inr (omega (arith, short, h.1), omega (arith, h.2))

pub spine : (c : Colour) (s : ℕ) → s < 25 → IsOwner s c → (5 ≤ s → 11 ≤ s) × (13 ≤ s → 19 ≤ s) → slice_index last_row s ≡ 46 → IsSpine c s
spine c s inside owner far end = record {
  inside = inside;
  owner = owner;
  clear = λ x j p e i.
      let column : IsCorridorColumn i.owner j (corridor_length x) s = subst (IsCorridorColumn i.owner j (corridor_length x)) e i.column in
      elim (near_border i.owner j (corridor_length x) s (mod_below (x % 8) 4 (omega arith)) column) [
        | inl h ↦ omega (arith, far.0 h.0, h.1)
        | inr h ↦ omega (arith, far.1 h.0, h.1)
      ];
  open_end = end;
}

-- the columns between the two are the owner's
abbrev pub OwnsBetween : Colour → ℕ → ℕ → Type 0
OwnsBetween c x s = (k : ℕ) → x ≤ k → k ≤ s → IsOwner k c

unfoldable pub spine_of : (c : Colour) (x : ℕ) → x < 25 → IsOwner x c → (s : ℕ) × IsSpine c s × (((x ≤ s) × OwnsBetween c x s) ⊎ ((s ≤ x) × OwnsBetween c s x))
spine_of colour.Black x lt (inl low) =
    (0, spine colour.Black 0 (omega arith) (inl (omega arith)) (λ h. omega (arith, h), λ h. omega (arith, h)) refl, inr (omega arith, λ k _ le. inl (omega (arith, le, low))))
spine_of colour.Black x lt (inr high) = (
  19,
  spine colour.Black 19 (omega arith) (inr (omega arith)) (λ h. omega arith, λ h. omega arith) refl,
  elim (cases_lt x 19) [
    | inl less ↦ inl (omega (arith, less), λ k le _. inr (omega (arith, le, high)))
    | inr more ↦ inr (more, λ k le _. inr (omega (arith, le)))
  ],
)
spine_of colour.White x lt own = (
  12,
  spine colour.White 12 (omega arith) (omega arith, omega arith) (λ h. omega arith, λ h. omega (arith, h)) refl,
  elim (cases_lt x 12) [
    | inl less ↦ inl (omega (arith, less), λ k le most. (omega (arith, le, own.0), omega (arith, most)))
    | inr more ↦ inr (more, λ k le most. (omega (arith, le), omega (arith, most, own.1)))
  ],
)

module _ (number : ℕ) (g : Board) (board : IsTrialBoard number g) where
  -- a stone is its column's owner's
  pub stone_owner : (c : Colour) (p : ℕ) → HasStone g c p → IsOwner (p % 25) c
  stone_owner c p h =
      let inside : p < 625 = omega (arith, h.0, board.full) in
      let is = board.each p inside in
      elim (cases_lt (p / 25) 24) [
        | inl low ↦
            let out : ¬ IsInSomeCorridor number p = λ i. empty_not_stone c (sym (is.corridor low i) ∙ h.1) in
            let own = owner_of (p % 25) in
            subst (IsOwner (p % 25)) (same_stone own.0 c (sym (is.wall own.0 low out own.1) ∙ h.1)) own.1
        | inr high ↦
            let row : p / 25 ≡ 24 = omega (arith, high, inside, div-add-mod' p 25) in
            drawn_owner c (slice_index last_row (p % 25)) (p % 25) (fits_each (p % 25) (mod_below p 25 (omega arith)))
            (subst (IsDrawnBy (slice_index last_row (p % 25))) h.1 (is.last row))
      ]

  -- a point of an owner's column that is in no corridor
  pub wall_stone : (c : Colour) (r x : ℕ) → r < 24 → x < 25 → IsOwner x c → ¬ IsInSomeCorridor number (r * 25 + x) → HasStone g c (r * 25 + x)
  wall_stone c r x low lt own out =
      let inside : r * 25 + x < 625 = omega (arith, low, lt) in (
        omega (arith, inside, board.full),
        (board.each (r * 25 + x) inside).wall c (omega (arith, low, div-mul-add r 25 x lt)) out (subst (λ k. IsOwner k c) (sym (mod-mul-add r 25 x lt)) own),
      )

  -- the rows between those of the corridors
  pub row_stone : (c : Colour) (r x : ℕ) → r < 24 → r % 3 ≢ 1 → x < 25 → IsOwner x c → HasStone g c (r * 25 + x)
  row_stone c r x low apart lt own = wall_stone c r x low lt own
      (λ i. let row : r ≡ 3 * ((i.0 - 1) / 2) + 1 = sym (div-mul-add r 25 x lt) ∙ i.3.row in apart (omega (arith, row)))

  spine_stone : (c : Colour) (r s : ℕ) → r < 24 → IsSpine c s → HasStone g c (r * 25 + s)
  spine_stone c r s low is = wall_stone c r s low is.inside is.owner (λ i. is.clear (draw number i.0) i.0 (r * 25 + s) (mod-mul-add r 25 s is.inside) i.3)

  -- a stone of a row between corridors reaches the end of a spine
  pub from_row : (c : Colour) (r x s : ℕ) → r < 24 → r % 3 ≢ 1 → x < 25 → IsSpine c s
      → ((x ≤ s) × OwnsBetween c x s) ⊎ ((s ≤ x) × OwnsBetween c s x) → Joined 25 (HasStone g c) (r * 25 + x) (23 * 25 + s)
  from_row c r x s low apart lt is side =
      joined_join 25 (HasStone g c) (r * 25 + x) (r * 25 + s) (23 * 25 + s) (across side) (down_column (HasStone g c) r s low (λ k less. spine_stone c k s less is))
    where
      across : ((x ≤ s) × OwnsBetween c x s) ⊎ ((s ≤ x) × OwnsBetween c s x) → Joined 25 (HasStone g c) (r * 25 + x) (r * 25 + s)
      across (inl h) = along_row (HasStone g c) r x s h.0 is.inside (λ k least most. row_stone c r k low apart (omega (arith, most, is.inside)) (h.1 k least most))
      across (inr h) = joined_back 25 (HasStone g c) (r * 25 + s) (r * 25 + x)
          (along_row (HasStone g c) r s x h.0 lt (λ k least most. row_stone c r k low apart (omega (arith, most, lt)) (h.1 k least most)))

  -- a stone is in a row between corridors, or below one
  pub reaches_row : (c : Colour) (p : ℕ) → HasStone g c p → IsOwner (p % 25) c
      → (r : ℕ) × (r < 24) × (r % 3 ≢ 1) × Joined 25 (HasStone g c) p (r * 25 + p % 25)
  reaches_row c p h own =
      elim (cases_lt (p / 25) 24) [
        | inl low ↦ elim (cases_eq (p / 25 % 3) 1) [
          | inl e ↦ above (omega (arith, e)) (omega (arith, low)) (omega (arith, e))
          | inr apart ↦ (p / 25, low, apart, subst (Joined 25 (HasStone g c) p) (sym place) (joined_here 25 (HasStone g c) p h))
        ]
        | inr high ↦ (let row : p / 25 ≡ 24 = omega (arith, high, place, h.0, board.full) in
            above (omega (arith, row)) (omega (arith, row)) (omega (arith, row)))
      ]
    where
      place : p / 25 * 25 + p % 25 ≡ p
      place = div-add-mod' p 25

      above : 1 ≤ p / 25 → p / 25 - 1 < 24 → (p / 25 - 1) % 3 ≢ 1 → (r : ℕ) × (r < 24) × (r % 3 ≢ 1) × Joined 25 (HasStone g c) p (r * 25 + p % 25)
      above least low apart =
          let q = (p / 25 - 1) * 25 + p % 25 in
          let up : p - 25 ≡ q = omega (arith, place, least) in (
            p / 25 - 1,
            low,
            apart,
            joined_step 25 (HasStone g c) p p q (joined_here 25 (HasStone g c) p h)
                (subst (NextTo 25 p) up (next_up 25 p (omega arith) (omega (arith, place, least))))
                (row_stone c (p / 25 - 1) (p % 25) low apart (mod_below p 25 (omega arith)) own),
          )

  open_below : (c : Colour) (s : ℕ) → IsSpine c s → IsEmpty g (23 * 25 + s + 25)
  open_below c s is =
      let e : 24 * 25 + s ≡ 23 * 25 + s + 25 = omega arith in
      let inside : 24 * 25 + s < 625 = omega (arith, is.inside) in
      let drawn = (board.each (24 * 25 + s) inside).last (div-mul-add 24 25 s is.inside) in
      subst (IsEmpty g) e (
        omega (arith, inside, board.full),
        drawn_empty (cell_at g (24 * 25 + s)) (subst (λ l. IsDrawnBy l (cell_at g (24 * 25 + s)))
            (ap (slice_index last_row) (mod-mul-add 24 25 s is.inside) ∙ is.open_end) drawn),
      )

  has_liberty : (c : Colour) (p : ℕ) → HasStone g c p → HasLiberty g c p
  has_liberty c p h =
      let own = stone_owner c p h in
      let x = p % 25 in
      let lt = mod_below p 25 (omega arith) in
      let s = spine_of c x lt own in
      let r = reaches_row c p h own in
      let to_end = from_row c r.0 x s.0 r.1 r.2 lt s.1 s.2 in
      let walk = joined_join 25 (HasStone g c) p (r.0 * 25 + x) (23 * 25 + s.0) r.3 to_end in
      subst (λ w. (l : ℕ) × (IsEmpty g l × ((q : ℕ) × Joined w (HasStone g c) p q × NextTo w q l))) (sym board.columns)
      (23 * 25 + s.0 + 25, (open_below c s.0 s.1, (23 * 25 + s.0, walk, next_down 25 (23 * 25 + s.0) (omega arith))))

  pub trial_settled : IsSettled g
  trial_settled = record { breathe = has_liberty; closed = nothing_closed g (none_declared g board.declared) }
