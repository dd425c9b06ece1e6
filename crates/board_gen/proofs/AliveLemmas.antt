-- Each stone of a trial board is alive: its chain has two of the empty points of the last row for eyes.
use Rattle.std.proofs.Common.{◌≡◌, ◌≢◌, ℕ, zero, suc, ◌+◌, ◌*◌, ◌/◌, ◌%◌, ◌<◌, ◌≤◌, ◌⊎◌, ◌↔◌, inl, inr, refl, sym, ap, ◌∙◌, subst, arith, List, [], ◌∷◌, ◌++◌, length}
use Rattle.std.specs.Prelude.{slice_index}
use Rattle.std.specs.List.{Contains}
use Rattle.std.proofs.lemmas.Bool.{cases_lt}
use Rattle.std.proofs.lemmas.Nat.{mod_below, div-add-mod', div-mul-add, mod-mul-add}
use Rattle.go_grid.specs.declared.grid.Cell.{Cell}
use Rattle.go_grid.specs.declared.grid.Cell.TheVariants as cell
use Rattle.go_grid.specs.declared.grid.Colour.{Colour}
use Rattle.go_grid.specs.declared.grid.Colour.TheVariants as colour
use Rattle.go_grid.specs.Board.{Board, NextTo, HasStone, IsEmpty, Lacks, cell_at, stone}
use Rattle.go_grid.specs.Walk.{Joined}
use Rattle.go_grid.proofs.NearLemmas.{next_down}
use Rattle.go_grid.proofs.PointsLemmas.{ListsBelow, lists_push, lists_skip}
use Rattle.go_grid.proofs.WalkLemmas.{carried, joined_back, joined_end, joined_join}
use Rattle.benson_life.specs.Life.{InRegion, IsAlive, IsEye, HasTwoEyes}
use Rattle.board_gen.specs.Trial.{IsOwner, IsDrawnBy, IsTrialBoard, last_row}
use Rattle.board_gen.proofs.LineLemmas.{along_row}
use Rattle.board_gen.proofs.SettledLemmas.{OwnsBetween, drawn_empty, from_row, reaches_row, row_stone, spine_of, stone_owner}
use Rattle.go_grid.proofs.BoardLemmas.{empty_not_stone}

-- the letter of a stone
abbrev pub ink : Colour → ℕ
ink colour.Black = 88
ink colour.White = 79

drawn_stone : (c : Colour) (held : Cell) → IsDrawnBy (ink c) held → held ≡ stone c
drawn_stone colour.Black cell.Empty is = absurd (is.0 refl)
drawn_stone colour.Black cell.Black is = refl
drawn_stone colour.Black cell.White is = absurd (omega (arith, is))
drawn_stone colour.White cell.Empty is = absurd (is.1 refl)
drawn_stone colour.White cell.Black is = absurd (omega (arith, is))
drawn_stone colour.White cell.White is = refl

-- a column of the owner's whose point in the last row is empty, between stones of the owner's
record IsHole (c : Colour) (x : ℕ) : Type 0 where
  inside : x < 25
  owner : IsOwner x c
  empty : slice_index last_row x ≡ 46
  before : (y : ℕ) → y + 1 ≡ x → slice_index last_row y ≡ ink c
  after : (y : ℕ) → x + 1 ≡ y → y < 25 → slice_index last_row y ≡ ink c

hole : (c : Colour) (b x : ℕ) → suc b ≡ x → x + 1 < 25 → IsOwner x c → slice_index last_row x ≡ 46
    → slice_index last_row b ≡ ink c → slice_index last_row (x + 1) ≡ ink c → IsHole c x
hole c b x e lt own empty before after = record {
  inside = omega (arith, lt);
  owner = own;
  empty = empty;
  before = λ y is. let same : b ≡ y = omega (arith, e, is) in subst (λ k. slice_index last_row k ≡ ink c) same before;
  after = λ y is _. subst (λ k. slice_index last_row k ≡ ink c) is after;
}

first_hole : IsHole colour.Black 0
first_hole = record {
  inside = omega arith;
  owner = inl (omega arith);
  empty = refl;
  before = λ y e. absurd (omega (arith, e));
  after = λ y e _. subst (λ k. slice_index last_row k ≡ 88) e refl;
}

-- the two holes of a column's stones: one below their spine, and another near it
record HasHoles (c : Colour) (s : ℕ) : Type 0 where
  at : IsHole c s
  other : ℕ
  there : IsHole c other
  apart : s ≢ other
  between : ((s ≤ other) × OwnsBetween c s other) ⊎ ((other ≤ s) × OwnsBetween c other s)

holes_of : (c : Colour) (x : ℕ) (lt : x < 25) (own : IsOwner x c) → HasHoles c (spine_of c x lt own).0
unfolding spine_of
holes_of colour.Black x lt (inl low) = record {
  at = first_hole;
  other = 2;
  there = hole colour.Black 1 2 refl (omega arith) (inl (omega arith)) refl refl refl;
  apart = λ e. omega (arith, e);
  between = inl (omega arith, λ k _ most. inl (omega (arith, most)));
}
holes_of colour.Black x lt (inr high) = record {
  at = hole colour.Black 18 19 refl (omega arith) (inr (omega arith)) refl refl refl;
  other = 17;
  there = hole colour.Black 16 17 refl (omega arith) (inr (omega arith)) refl refl refl;
  apart = λ e. omega (arith, e);
  between = inr (omega arith, λ k least _. inr (omega (arith, least)));
}
holes_of colour.White x lt own = record {
  at = hole colour.White 11 12 refl (omega arith) (omega arith, omega arith) refl refl refl;
  other = 14;
  there = hole colour.White 13 14 refl (omega arith) (omega arith, omega arith) refl refl refl;
  apart = λ e. omega (arith, e);
  between = inl (omega arith, λ k least most. (omega (arith, least), omega (arith, most)));
}

-- a stone of the colour, or none
stone_or_none : (g : Board) (c : Colour) (p : ℕ) → HasStone g c p ⊎ ¬ HasStone g c p
stone_or_none g c p = elim (cases_lt p (length g.cells)) [
  | inl lt ↦ at c (cell_at g p) refl lt
  | inr le ↦ inr (λ h. omega (arith, le, h.0))
]
  where
    at : (c : Colour) (held : Cell) → cell_at g p ≡ held → p < length g.cells → HasStone g c p ⊎ ¬ HasStone g c p
    at colour.Black cell.Black e lt = inl (lt, e)
    at colour.White cell.White e lt = inl (lt, e)
    at colour.Black cell.White e lt = inr (λ h. let w = sym e ∙ h.1 in cc)
    at colour.Black cell.Empty e lt = inr (λ h. let w = sym e ∙ h.1 in cc)
    at colour.White cell.Black e lt = inr (λ h. let w = sym e ∙ h.1 in cc)
    at colour.White cell.Empty e lt = inr (λ h. let w = sym e ∙ h.1 in cc)

stones_below : (g : Board) (c : Colour) (n : ℕ) → (points : List ℕ) × ListsBelow points (HasStone g c) n
stones_below g c zero =
    ([], record { ascending = λ k lt. absurd (omega arith); listed = λ p h. absurd (omega (arith, h.1)); all = λ p lt. absurd (omega arith) })
stones_below g c (suc n) =
    let (points, s) = stones_below g c n in
    let next : n + 1 ≡ suc n = omega arith in
    elim (stone_or_none g c n) as (λ _. (points : List ℕ) × ListsBelow points (HasStone g c) (suc n)) [
      | inl here ↦ (points ++ n ∷ [], subst (ListsBelow (points ++ n ∷ []) (HasStone g c)) next (lists_push points (HasStone g c) n s here))
      | inr none ↦ (points, subst (ListsBelow points (HasStone g c)) next (lists_skip points (HasStone g c) n s none))
    ]

-- the list of all stones of a colour
stones_of : (g : Board) (c : Colour) → (points : List ℕ) × ((p : ℕ) → Contains points p ↔ HasStone g c p)
stones_of g c =
    let (points, s) = stones_below g c (length g.cells) in
    (points, λ p. (λ h. (s.listed p h).1, λ h. s.all p h.0 h))

module _ (number : ℕ) (g : Board) (board : IsTrialBoard number g) where
  -- what a point of the last row holds, by its letter
  pub last_stone : (c : Colour) (q : ℕ) → q < 625 → q / 25 ≡ 24 → slice_index last_row (q % 25) ≡ ink c → HasStone g c q
  last_stone c q lt row e = (
    omega (arith, lt, board.full),
    drawn_stone c (cell_at g q) (subst (λ l. IsDrawnBy l (cell_at g q)) e ((board.each q lt).last row)),
  )

  near_hole : (c : Colour) (x q : ℕ) → IsHole c x → NextTo 25 (24 * 25 + x) q → q < 625 → HasStone g c q
  near_hole c x q h next lt = at next
    where
      row : (24 * 25 + x) / 25 ≡ 24
      row = div-mul-add 24 25 x h.inside

      column : (24 * 25 + x) % 25 ≡ x
      column = mod-mul-add 24 25 x h.inside

      at : NextTo 25 (24 * 25 + x) q → HasStone g c q
      at (inl (same, inl right)) =
          last_stone c q lt (sym same ∙ row) (h.after (q % 25) (omega (arith, right, column)) (mod_below q 25 (omega arith)))
      at (inl (same, inr left)) = last_stone c q lt (sym same ∙ row) (h.before (q % 25) (omega (arith, left, column)))
      at (inr (same, inl down)) = absurd (omega (arith, down, row, lt, div-add-mod' q 25))
      at (inr (same, inr up)) =
          let place : 23 * 25 + x ≡ q = omega (arith, up, row, column, same, div-add-mod' q 25) in
          subst (HasStone g c) place (row_stone number g board c 23 x (omega arith) (λ e. omega (arith, e)) h.inside h.owner)

  -- the region of a hole is the hole
  hole_alone : (c : Colour) (x q : ℕ) → IsHole c x → InRegion g c (24 * 25 + x) q → q ≡ 24 * 25 + x
  hole_alone c x q h j =
      carried 25 (Lacks g c) (λ p. p ≡ 24 * 25 + x)
      (λ p r here next lacks. absurd (lacks.1 (near_hole c x r h (subst (λ z. NextTo 25 z r) here next) (omega (arith, lacks.0, board.full))).1))
      (24 * 25 + x) q refl (subst (λ w. Joined w (Lacks g c) (24 * 25 + x) q) board.columns j)

  hole_empty : (c : Colour) (x : ℕ) → IsHole c x → IsEmpty g (24 * 25 + x)
  hole_empty c x h =
      let inside : 24 * 25 + x < 625 = omega (arith, h.inside) in
      let drawn = (board.each (24 * 25 + x) inside).last (div-mul-add 24 25 x h.inside) in (
        omega (arith, inside, board.full),
        drawn_empty (cell_at g (24 * 25 + x)) (subst (λ l. IsDrawnBy l (cell_at g (24 * 25 + x)))
            (ap (slice_index last_row) (mod-mul-add 24 25 x h.inside) ∙ h.empty) drawn),
      )

  hole_lacks : (c : Colour) (x : ℕ) → IsHole c x → Lacks g c (24 * 25 + x)
  hole_lacks c x h = let e = hole_empty c x h in (e.0, λ s. empty_not_stone c (sym e.1 ∙ s))

  -- a hole that the chain of a stone reaches is an eye of it, where all stones are in the list
  eye : (c : Colour) (s x : ℕ) (In : ℕ → Type 0) → IsHole c x → ((q : ℕ) → HasStone g c q → In q)
      → Joined 25 (HasStone g c) s (23 * 25 + x) → IsEye g c In s (24 * 25 + x)
  eye c s x In h all walk = record {
    lacks = hole_lacks c x h;
    vital = λ p in' empty.
        let below : 23 * 25 + x + 25 ≡ p = omega (arith, hole_alone c x p h in') in (
          empty,
          (
            23 * 25 + x,
            subst (λ w. Joined w (HasStone g c) s (23 * 25 + x)) (sym board.columns) walk,
            subst (λ w. NextTo w (23 * 25 + x) p) (sym board.columns) (subst (NextTo 25 (23 * 25 + x)) below (next_down 25 (23 * 25 + x) (omega arith))),
          ),
        );
    walled = λ p q _ _ stone. all q stone;
  }

  -- along row 23 from one column of the owner's to another
  along : (c : Colour) (s t : ℕ) → s < 25 → t < 25 → ((s ≤ t) × OwnsBetween c s t) ⊎ ((t ≤ s) × OwnsBetween c t s)
      → Joined 25 (HasStone g c) (23 * 25 + s) (23 * 25 + t)
  along c s t short lt (inl w) =
      along_row (HasStone g c) 23 s t w.0 lt
      (λ k least most. row_stone number g board c 23 k (omega arith) (λ e. omega (arith, e)) (omega (arith, most, lt)) (w.1 k least most))
  along c s t short lt (inr w) =
      joined_back 25 (HasStone g c) (23 * 25 + t) (23 * 25 + s) (along_row (HasStone g c) 23 t s w.0 short
      (λ k least most. row_stone number g board c 23 k (omega arith) (λ e. omega (arith, e)) (omega (arith, most, short)) (w.1 k least most)))

  two_eyes : (c : Colour) (p : ℕ) (In : ℕ → Type 0) → HasStone g c p → ((q : ℕ) → HasStone g c q → In q) → HasTwoEyes g c In p
  two_eyes c p In h all =
      let own = stone_owner number g board c p h in
      let lt = mod_below p 25 (omega arith) in
      let spine = spine_of c (p % 25) lt own in
      let holes = holes_of c (p % 25) lt own in
      let s = spine.0 in
      let t = holes.other in
      let r = reaches_row number g board c p h own in
      let to_first = joined_join 25 (HasStone g c) p (r.0 * 25 + p % 25) (23 * 25 + s) r.3
      (from_row number g board c r.0 (p % 25) s r.1 r.2 lt spine.1 spine.2) in
      let to_second = joined_join 25 (HasStone g c) p (23 * 25 + s) (23 * 25 + t) to_first
      (along c s t holes.at.inside holes.there.inside holes.between) in (
        24 * 25 + s,
        24 * 25 + t,
        eye c p s In holes.at all to_first,
        eye c p t In holes.there all to_second,
        λ j. holes.apart (omega (arith, hole_alone c s (24 * 25 + t) holes.at j)),
      )

  pub all_alive : (c : Colour) (p : ℕ) → HasStone g c p → IsAlive g c p
  all_alive c p h =
      let (S, is) = stones_of g c in (
        S,
        record {
          stones = λ s here. (is s).0 here;
          whole = λ s t here chain. (is t).1 (joined_end g.columns (HasStone g c) s t chain);
          room = λ s here. inr (two_eyes c s (Contains S) ((is s).0 here) (λ q stone. (is q).1 stone));
        },
        (is p).1 h,
      )
