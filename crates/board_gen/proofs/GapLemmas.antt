-- The empty points of a trial board stand in gaps: a few points of one row, in the columns of one colour, whose stones are above them.
use Rattle.std.proofs.Common.{◌≡◌, ◌≢◌, ℕ, zero, suc, ◌+◌, ◌-◌, ◌*◌, ◌/◌, ◌%◌, ◌<◌, ◌≤◌, ◌⊎◌, inl, inr, Bool, true, ◌&&◌, ◌||◌, eqb, refl, sym, ap, ◌∙◌, subst, arith, List, length, get_or}
use Rattle.std.specs.Prelude.{slice_index}
use Rattle.std.specs.List.{Contains}
use Rattle.std.specs.List.Sorted.{IsStrictlyIncreasing}
use Rattle.std.proofs.lemmas.Bool.{and_parts, cases_eq, cases_lt, eqb-true, false≢true, or_cases}
use Rattle.std.proofs.lemmas.Bool.Decides.{Decides-below_and}
use Rattle.std.proofs.lemmas.List.{get_or_past}
use Rattle.std.proofs.lemmas.List.Elements.{Contains-get_or}
use Rattle.std.proofs.lemmas.Nat.{mod_below, div-add-mod'}
use Rattle.go_grid.specs.declared.grid.Colour.{Colour}
use Rattle.go_grid.specs.declared.grid.Colour.TheVariants as colour
use Rattle.go_grid.specs.Board.{Board, NextTo, HasStone, IsEmpty}
use Rattle.board_gen.specs.Trial.{draw, IsOwner, IsCorridorColumn, IsCorridorOwner, IsInCorridor, IsInSomeCorridor, IsTrialBoard, corridor_length, last_row}
use Rattle.board_gen.proofs.AliveLemmas.{ink, last_stone}
use Rattle.board_gen.proofs.SettledLemmas.{owner_of, row_stone}

-- Columns from `first` up to `end`, which is not one of them, of a row. Stones of one colour stand in the rows above and below, and
-- no empty point is beside them.
pub record IsGap (g : Board) (c : Colour) (row first end : ℕ) : Type 0 where
  pub narrow : end ≤ first + 3
  pub above : 1 ≤ row
  pub stones_above : (x : ℕ) → first ≤ x → x < end → HasStone g c ((row - 1) * 25 + x)
  pub closed : (q : ℕ) → IsEmpty g q → q / 25 ≡ row → (q % 25 + 1 ≡ first) ⊎ (q % 25 ≡ end) → ⊥
  pub closed_above : (q : ℕ) → IsEmpty g q → q / 25 + 1 ≡ row → first ≤ q % 25 → q % 25 < end → ⊥
  pub closed_below : (q : ℕ) → IsEmpty g q → q / 25 ≡ row + 1 → first ≤ q % 25 → q % 25 < end → ⊥

-- the point is in it
pub record IsInGap (row first end p : ℕ) : Type 0 where
  pub row_is : p / 25 ≡ row
  pub from : first ≤ p % 25
  pub below : p % 25 < end

-- an empty point next to a point of the gap is in it
pub next_in_gap : (g : Board) (c : Colour) (row first end p q : ℕ) → IsGap g c row first end → IsInGap row first end p → NextTo 25 p q
    → IsEmpty g q → IsInGap row first end q
next_in_gap g c row first end p q gap i (inl (same, inl right)) empty = record {
  row_is = sym same ∙ i.row_is;
  from = omega (arith, right, i.from);
  below = elim (cases_lt (q % 25) end) [
    | inl lt ↦ lt
    | inr le ↦ absurd (gap.closed q empty (sym same ∙ i.row_is) (inr (omega (arith, le, right, i.below))))
  ];
}
next_in_gap g c row first end p q gap i (inl (same, inr left)) empty = record {
  row_is = sym same ∙ i.row_is;
  from = elim (cases_lt (q % 25) first) [
    | inl lt ↦ absurd (gap.closed q empty (sym same ∙ i.row_is) (inl (omega (arith, lt, left, i.from))))
    | inr le ↦ le
  ];
  below = omega (arith, left, i.below);
}
next_in_gap g c row first end p q gap i (inr (same, inl down)) empty =
    absurd (gap.closed_below q empty (omega (arith, down, i.row_is)) (omega (arith, same, i.from)) (omega (arith, same, i.below)))
next_in_gap g c row first end p q gap i (inr (same, inr up)) empty =
    absurd (gap.closed_above q empty (omega (arith, up, i.row_is)) (omega (arith, same, i.from)) (omega (arith, same, i.below)))

-- ascending points of a gap are at most three
pub few_in_gap : (row first end : ℕ) (points : List ℕ) → end ≤ first + 3 → IsStrictlyIncreasing points
    → ((p : ℕ) → Contains points p → IsInGap row first end p) → length points ≤ 3
few_in_gap row first end points narrow up inside = elim (cases_lt 3 (length points)) [
  | inr le ↦ le
  | inl more ↦
      let low = at 0 (omega (arith, more)) in
      let high = at 3 more in
      let one = up 0 (omega (arith, more)) in
      let two = up 1 (omega (arith, more)) in
      let three = up 2 (omega (arith, more)) in
      absurd (omega (arith, narrow, low, high, one, two, three))
]
  where
    -- the item at a place lies among the gap's points
    at : (k : ℕ) → k < length points → (row * 25 + first ≤ get_or points k 0) × (get_or points k 0 < row * 25 + end)
    at k lt =
        let p = get_or points k 0 in
        let i = inside p (Contains-get_or points k 0 lt) in
        let rows : p / 25 * 25 ≡ row * 25 = ap (λ z. z * 25) i.row_is in
        (omega (arith, rows, i.from, div-add-mod' p 25), omega (arith, rows, i.below, div-add-mod' p 25))

-- ---- the columns of a corridor

-- The columns of corridor `j`, of `k` points and of the colour, are those from `first` up to `end`.
record IsSpan (o : Colour) (j k first end : ℕ) : Type 0 where
  narrow : end ≤ first + 3
  ordered : first ≤ end
  owns : (y : ℕ) → first ≤ y → y < end → IsOwner y o
  only : (y : ℕ) → IsCorridorColumn o j k y → (first ≤ y) × (y < end)
  border : ((j % 2 ≡ 1) × (5 ≤ first) × (end ≤ 11)) ⊎ ((j % 2 ≡ 0) × (13 ≤ first) × (end ≤ 19))

span_of : (o : Colour) (j k s : ℕ) → k < 4 → IsCorridorColumn o j k s → (first : ℕ) × ((end : ℕ) × IsSpan o j k first end)
span_of colour.Black j k s short (inl h) = (
  8 - k,
  (
    8,
    record {
      narrow = omega (arith, short);
      ordered = omega (arith, short);
      owns = λ y least most. inl most;
      only = λ y w. elim w [ inl v ↦ (omega (arith, v.1), v.2) | inr v ↦ absurd (omega (arith, v.0, h.0)) ];
      border = inl (h.0, omega (arith, short), omega arith);
    },
  ),
)
span_of colour.Black j k s short (inr h) = (
  16,
  (
    16 + k,
    record {
      narrow = omega (arith, short);
      ordered = omega (arith, short);
      owns = λ y least most. inr least;
      only = λ y w. elim w [ inl v ↦ absurd (omega (arith, v.0, h.0)) | inr v ↦ (v.1, v.2) ];
      border = inr (h.0, omega arith, omega (arith, short));
    },
  ),
)
span_of colour.White j k s short (inl h) = (
  8,
  (
    8 + k,
    record {
      narrow = omega (arith, short);
      ordered = omega (arith, short);
      owns = λ y least most. (least, omega (arith, most, short));
      only = λ y w. elim w [ inl v ↦ (v.1, v.2) | inr v ↦ absurd (omega (arith, v.0, h.0)) ];
      border = inl (h.0, omega arith, omega (arith, short));
    },
  ),
)
span_of colour.White j k s short (inr h) = (
  16 - k,
  (
    16,
    record {
      narrow = omega (arith, short);
      ordered = omega (arith, short);
      owns = λ y least most. (omega (arith, least, short), most);
      only = λ y w. elim w [ inl v ↦ absurd (omega (arith, v.0, h.0)) | inr v ↦ (omega (arith, v.1), v.2) ];
      border = inr (h.0, omega (arith, short), omega arith);
    },
  ),
)

one_owner : (x : ℕ) (c d : Colour) → IsCorridorOwner x c → IsCorridorOwner x d → c ≡ d
one_owner x colour.Black colour.Black p q = refl
one_owner x colour.White colour.White p q = refl
one_owner x colour.Black colour.White p q = absurd (omega (arith, p, q))
one_owner x colour.White colour.Black p q = absurd (omega (arith, p, q))

-- ---- the last row

-- a letter that draws a stone
abbrev is_ink : ℕ → Bool
is_ink x = eqb (slice_index last_row x) 88 || eqb (slice_index last_row x) 79

-- an empty column there stands between stones, but for two that stand together
abbrev is_alone : ℕ → Bool
is_alone x = is_ink x || (eqb x 9 || (eqb x 10 || ((eqb x 0 || is_ink (x - 1)) && is_ink (suc x))))

abbrev all_alone : ℕ → Bool
all_alone zero = true
all_alone (suc n) = is_alone n && all_alone n

alone_each : (x : ℕ) → x < 25 → is_alone x ≡ true
alone_each = (Decides-below_and is_alone (λ x. is_alone x ≡ true) all_alone (λ x. (λ e. e, λ e. e)) refl (λ _. refl) 25).0 refl

inked : (x : ℕ) → is_ink x ≡ true → (c : Colour) × (slice_index last_row x ≡ ink c)
inked x e = elim (or_cases _ _ e) [
  | inl b ↦ (colour.Black, eqb-true (slice_index last_row x) 88 b)
  | inr w ↦ (colour.White, eqb-true (slice_index last_row x) 79 w)
]

-- what stands beside an empty column of the last row that stands alone
record IsAlone (x : ℕ) : Type 0 where
  before : (y : ℕ) → y + 1 ≡ x → is_ink y ≡ true
  after : is_ink (suc x) ≡ true

alone : (x : ℕ) → x < 25 → ¬ (is_ink x ≡ true) → x ≢ 9 → x ≢ 10 → IsAlone x
alone x lt empty apart other =
    let e = alone_each x lt in
    elim (or_cases _ _ e) [
      | inl n ↦ absurd (empty n)
      | inr m ↦ elim (or_cases _ _ m) [
        | inl nine ↦ absurd (apart (eqb-true x 9 nine))
        | inr m' ↦ elim (or_cases _ _ m') [
          | inl ten ↦ absurd (other (eqb-true x 10 ten))
          | inr both ↦ (let parts = and_parts (eqb x 0 || is_ink (x - 1)) (is_ink (suc x)) both in record {
            before = λ y is. elim (or_cases (eqb x 0) (is_ink (x - 1)) parts.0) [
              | inl none ↦ (let e : x ≡ 0 = eqb-true x 0 none in absurd (omega (arith, is, e)))
              | inr b ↦ (let same : x - 1 ≡ y = omega (arith, is) in subst (λ k. is_ink k ≡ true) same b)
            ];
            after = parts.1;
          })
        ]
      ]
    ]

module _ (number : ℕ) (g : Board) (board : IsTrialBoard number g) where
  not_empty : (c : Colour) (q : ℕ) → HasStone g c q → ¬ IsEmpty g q
  not_empty colour.Black q h e = let w = sym h.1 ∙ e.1 in cc
  not_empty colour.White q h e = let w = sym h.1 ∙ e.1 in cc

  -- no point of a row between corridors is empty
  full_row : (r q : ℕ) → r < 24 → r % 3 ≢ 1 → q / 25 ≡ r → ¬ IsEmpty g q
  full_row r q low apart row =
      let own = owner_of (q % 25) in
      let rows : q / 25 * 25 ≡ r * 25 = ap (λ z. z * 25) row in
      let place : r * 25 + q % 25 ≡ q = omega (arith, rows, div-add-mod' q 25) in
      not_empty own.0 q (subst (HasStone g own.0) place (row_stone number g board own.0 r (q % 25) low apart (mod_below q 25 (omega arith)) own.1))

  inside : (q : ℕ) → IsEmpty g q → q < 625
  inside q e = omega (arith, e.0, board.full)

  -- an empty point above the last row is in a corridor
  in_corridor : (q : ℕ) → IsEmpty g q → q / 25 < 24 → ¬ ¬ IsInSomeCorridor number q
  in_corridor q e low none =
      let own = owner_of (q % 25) in
      not_empty own.0 q (omega (arith, e.0), (board.each q (inside q e)).wall own.0 low none own.1) e

  -- a gap of an empty point, in which it is
  abbrev HasGap : ℕ → Type 0
  HasGap p = (c : Colour) × ((row : ℕ) × ((first : ℕ) × ((end : ℕ) × (IsGap g c row first end × IsInGap row first end p))))

  -- two corridors of one row with an empty point beside the one and in the other are one
  beside_corridor : (j i q first end : ℕ) (o : Colour) → 1 ≤ j → 1 ≤ i → IsCorridorOwner (draw number j) o
      → IsSpan o j (corridor_length (draw number j)) first end → IsInCorridor (draw number i) i q → 3 * ((j - 1) / 2) + 1 ≡ 3 * ((i - 1) / 2) + 1
      → (q % 25 + 1 ≡ first) ⊎ (q % 25 ≡ end) → ⊥
  beside_corridor j i q first end o least some owned span w rows beside = at span.border other.border
    where
      k' : ℕ
      k' = corridor_length (draw number i)

      found : (first : ℕ) × ((end : ℕ) × IsSpan w.owner i k' first end)
      found = span_of w.owner i k' (q % 25) (mod_below (draw number i % 8) 4 (omega arith)) w.column

      other : IsSpan w.owner i k' found.0 found.1.0
      other = found.1.1

      there : (found.0 ≤ q % 25) × (q % 25 < found.1.0)
      there = other.only (q % 25) w.column

      -- of one parity they are the same corridor
      one : j ≡ i → ⊥
      one e =
          let owner : o ≡ w.owner = one_owner (draw number i) o w.owner (subst (λ z. IsCorridorOwner (draw number z) o) e owned) w.owned in
          let column : IsCorridorColumn o j (corridor_length (draw number j)) (q % 25) =
          subst (λ z. IsCorridorColumn o z (corridor_length (draw number z)) (q % 25)) (sym e)
          (subst (λ d. IsCorridorColumn d i k' (q % 25)) (sym owner) w.column) in
          let h = span.only (q % 25) column in
          elim beside [ inl a ↦ omega (arith, a, h.0) | inr b ↦ omega (arith, b, h.1) ]

      at : ((j % 2 ≡ 1) × (5 ≤ first) × (end ≤ 11)) ⊎ ((j % 2 ≡ 0) × (13 ≤ first) × (end ≤ 19))
          → ((i % 2 ≡ 1) × (5 ≤ found.0) × (found.1.0 ≤ 11)) ⊎ ((i % 2 ≡ 0) × (13 ≤ found.0) × (found.1.0 ≤ 19)) → ⊥
      at (inl a) (inl b) = one (omega (arith, rows, least, some, a.0, b.0))
      at (inr a) (inr b) = one (omega (arith, rows, least, some, a.0, b.0))
      at (inl a) (inr b) = elim beside [
        | inl e ↦ absurd (omega (arith, e, a, b, there, span.ordered))
        | inr e ↦ absurd (omega (arith, e, a, b, there, span.ordered))
      ]
      at (inr a) (inl b) = elim beside [
        | inl e ↦ absurd (omega (arith, e, a, b, there, span.ordered))
        | inr e ↦ absurd (omega (arith, e, a, b, there, span.ordered))
      ]

  -- the gap of a corridor
  corridor_gap : (j p : ℕ) → 1 ≤ j → j ≤ 16 → IsInCorridor (draw number j) j p → HasGap p
  corridor_gap j p least most i =
      let k = corridor_length (draw number j) in
      let found = span_of i.owner j k (p % 25) (mod_below (draw number j % 8) 4 (omega arith)) i.column in
      let span = found.1.1 in
      let row = 3 * ((j - 1) / 2) + 1 in (
        i.owner,
        (
          row,
          (
            found.0,
            (
              found.1.0,
              (
                record {
                  narrow = span.narrow;
                  above = omega arith;
                  stones_above = λ x from to. row_stone number g board i.owner (row - 1) x (omega (arith, most)) (λ e. omega (arith, e))
                      (omega (arith, to, span.border)) (span.owns x from to);
                  closed = λ q e same beside. in_corridor q e (omega (arith, same, most))
                      (λ other. beside_corridor j other.0 q found.0 found.1.0 i.owner least other.1 i.owned span other.3 (sym same ∙ other.3.row) beside);
                  closed_above = λ q e up _ _. full_row (row - 1) q (omega (arith, most)) (λ m. omega (arith, m)) (omega (arith, up)) e;
                  closed_below = λ q e down _ _. full_row (row + 1) q (omega (arith, most)) (λ m. omega (arith, m)) down e;
                },
                record { row_is = i.row; from = (span.only (p % 25) i.column).0; below = (span.only (p % 25) i.column).1 },
              ),
            ),
          ),
        ),
      )

  -- no point of the last row is empty where a stone is drawn
  drawn_full : (q : ℕ) → q / 25 ≡ 24 → is_ink (q % 25) ≡ true → ¬ IsEmpty g q
  drawn_full q row e empty =
      let h = inked (q % 25) e in not_empty h.0 q (last_stone number g board h.0 q (inside q empty) row h.1) empty

  -- columns of the last row between stones
  last_row_gap : (c : Colour) (first end p : ℕ) → end ≤ first + 3 → end < 25 → ((y : ℕ) → first ≤ y → y < end → IsOwner y c)
      → ((y : ℕ) → y + 1 ≡ first → is_ink y ≡ true) → is_ink end ≡ true → IsInGap 24 first end p → HasGap p
  last_row_gap c first end p narrow short owns before after i = (
    c,
    (
      24,
      (
        first,
        (
          end,
          (
            record {
              narrow = narrow;
              above = omega arith;
              stones_above = λ x from to. row_stone number g board c 23 x (omega arith) (λ e. omega (arith, e)) (omega (arith, to, short)) (owns x from to);
              closed = λ q e same beside. elim beside [
                | inl b ↦ drawn_full q same (before (q % 25) b) e
                | inr b ↦ drawn_full q same (subst (λ z. is_ink z ≡ true) (sym b) after) e
              ];
              closed_above = λ q e up _ _. full_row 23 q (omega arith) (λ m. omega (arith, m)) (omega (arith, up)) e;
              closed_below = λ q e down _ _. omega (arith, down, inside q e, div-add-mod' q 25);
            },
            i,
          ),
        ),
      ),
    ),
  )

  -- the gap of an empty point of the last row
  last_gap : (p : ℕ) → IsEmpty g p → p / 25 ≡ 24 → HasGap p
  last_gap p e row = elim (cases_eq (p % 25) 9) [
    | inl nine ↦ pair (omega (arith, nine)) (omega (arith, nine))
    | inr apart ↦ elim (cases_eq (p % 25) 10) [
      | inl ten ↦ pair (omega (arith, ten)) (omega (arith, ten))
      | inr other ↦ single (alone (p % 25) (mod_below p 25 (omega arith)) (λ h. drawn_full p row h e) apart other)
    ]
  ]
    where
      pair : 9 ≤ p % 25 → p % 25 < 11 → HasGap p
      pair least most =
          last_row_gap colour.White 9 11 p (omega arith) (omega arith) (λ y from to. (omega (arith, from), omega (arith, to)))
          (λ y b. let same : 8 ≡ y = omega (arith, b) in subst (λ z. is_ink z ≡ true) same refl) refl
          (record { row_is = row; from = least; below = most })

      single : IsAlone (p % 25) → HasGap p
      single a =
          let x = p % 25 in
          let own = owner_of x in
          elim (cases_lt (suc x) 25) [
            | inl short ↦ last_row_gap own.0 x (suc x) p (omega arith) short
                (λ y from to. let same : x ≡ y = omega (arith, from, to) in subst (λ z. IsOwner z own.0) same own.1)
                a.before a.after (record { row_is = row; from = omega arith; below = omega arith })
            | inr most ↦ absurd (no_letter (suc x) most a.after)
          ]
        where
          no_letter : (y : ℕ) → 25 ≤ y → is_ink y ≡ true → ⊥
          no_letter y most ink' =
              let none : slice_index last_row y ≡ 0 = get_or_past last_row y 0 most in
              false≢true (subst (λ l. (eqb l 88 || eqb l 79) ≡ true) none ink')

  -- an empty point has a gap
  pub gap_of : (p : ℕ) → IsEmpty g p → ¬ ¬ HasGap p
  gap_of p e none = elim (cases_lt (p / 25) 24) [
    | inl low ↦ in_corridor p e low (λ i. none (corridor_gap i.0 p i.1 i.2 i.3))
    | inr high ↦ none (last_gap p e (omega (arith, high, inside p e, div-add-mod' p 25)))
  ]
