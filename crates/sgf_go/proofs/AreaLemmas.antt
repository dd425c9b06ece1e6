-- Setting points of a board, row by row.
use Rattle.std.proofs.Common.{ℕ, ◌+◌, ◌*◌, ◌/◌, ◌%◌, ◌<◌, ◌≤◌, ◌≡◌, ◌⊎◌, length, arith, refl, sym, inl, inr, ◌∙◌, ap, subst}
use Rattle.std.specs.Prelude.{slice_set, get_or}
use Rattle.std.proofs.lemmas.List.{get_or-set_same, get_or-set_other, length-set}
use Rattle.std.proofs.lemmas.Nat.{mul-add-lt, div-add-mod', mod-mul-add, div-mul-add}
use Rattle.go_grid.specs.Board.{Board, cell_at}
use Rattle.go_grid.specs.declared.grid.Cell.{Cell}
use Rattle.go_grid.specs.declared.grid.Cell.TheVariants.{Empty}
use Rattle.sgf_go.specs.Values.{Rectangle, IsInRectangle}
use Rattle.sgf_go.specs.inner.Values.{IsInRow}
use Rattle.sgf_go.specs.Setup.{IsSet}
use Rattle.go_grid.proofs.BoardLemmas.{cell_stable}

set_none : (g : Board) (In : ℕ → Type 0) (c : Cell) → ((q : ℕ) → ¬ In q) → IsSet g In c g
set_none g In c f = record { columns = refl; rows = refl; declared = refl; long = refl; set = λ q l i. absurd (f q i); kept = λ q _. refl }

set_like : (g h : Board) (In Like : ℕ → Type 0) (c : Cell) → ((q : ℕ) → In q → Like q) → ((q : ℕ) → Like q → In q) → IsSet g In c h → IsSet g Like c h
set_like g h In Like c to from a = record { columns = a.columns; rows = a.rows; declared = a.declared; long = a.long; set = λ q l i. a.set q l (from q i); kept = λ q n. a.kept q (λ i. n (to q i)) }

set_both : (g h k : Board) (In More : ℕ → Type 0) (c : Cell) → IsSet g In c h → IsSet h More c k → IsSet g (λ q. In q ⊎ More q) c k
set_both g h k In More c a b = record {
  columns = b.columns ∙ a.columns;
  rows = b.rows ∙ a.rows;
  declared = b.declared ∙ a.declared;
  long = b.long ∙ a.long;
  set = λ q l i. cell_stable (cell_at k q) c (λ other.
      let out : ¬ More q = λ m. other (b.set q (omega (arith, l, a.long)) m) in
      elim i [ inl j ↦ other (b.kept q out ∙ a.set q l j) | inr m ↦ out m ]);
  kept = λ q n. b.kept q (λ m. n (inr m)) ∙ a.kept q (λ j. n (inl j));
}

set_point : (g : Board) (c : Cell) (p : ℕ) → p < length g.cells → IsSet g (λ q. q ≡ p) c (record g { cells = slice_set g.cells p c })
set_point g c p h = record {
  columns = refl;
  rows = refl;
  declared = refl;
  long = length-set g.cells p c;
  set = λ q l e. ap (λ x. get_or (slice_set g.cells p c) x Empty) e ∙ get_or-set_same g.cells p c Empty h;
  kept = λ q ne. get_or-set_other g.cells p q c Empty ne;
}

-- the points of a row before a column
abbrev pub Before : ℕ → ℕ → ℕ → ℕ → ℕ → ℕ → Type 0
Before columns row left right n q = IsInRow columns row left right q × (q % columns < n)

pub row_start : (g : Board) (row left right : ℕ) (c : Cell) → IsSet g (Before g.columns row left right left) c g
row_start g row left right c = set_none g (Before g.columns row left right left) c (λ q i. omega (arith, i.0.left, i.1))

split_before : (columns row left right n q : ℕ) → Before columns row left right (n + 1) q → Before columns row left right n q ⊎ (q ≡ row * columns + n)
split_before columns row left right n q i =
    elim (last_or (q % columns) n i.1) [
      | inl k ↦ inl (i.0, k)
      | inr e ↦ (let same : q / columns ≡ row = omega (arith, i.0.top, i.0.bottom) in
          inr (sym (div-add-mod' q columns) ∙ ap (λ x. x * columns + q % columns) same ∙ ap (λ x. row * columns + x) e))
    ]
  where
    last_or : (p n : ℕ) → p < n + 1 → (p < n) ⊎ (p ≡ n)
    last_or p n h = grind (arith, h)

join_before : (columns row left right n q : ℕ) → left ≤ n → n ≤ right → n < columns → Before columns row left right n q ⊎ (q ≡ row * columns + n) → Before columns row left right (n + 1) q
join_before columns row left right n q l r b (inl i) = (i.0, omega (arith, i.1))
join_before columns row left right n q l r b (inr e) =
    let column : q % columns ≡ n = ap (λ x. x % columns) e ∙ mod-mul-add row columns n b in
    let same : q / columns ≡ row = ap (λ x. x / columns) e ∙ div-mul-add row columns n b in
    (record { left = omega (arith, column, l); right = omega (arith, column, r); top = omega (arith, same); bottom = omega (arith, same) }, omega (arith, column))

pub row_step : (g h : Board) (row left right n number : ℕ) (c : Cell) → left ≤ n → n ≤ right → right < g.columns → row < g.rows → length g.cells ≡ g.columns * g.rows → number ≡ row * g.columns + n
    → IsSet g (Before g.columns row left right n) c h → IsSet g (Before g.columns row left right (n + 1)) c (record h { cells = slice_set h.cells number c })
row_step g h row left right n number c l r b d full e a =
    let inside : number < length h.cells = omega (arith, e, a.long, full, mul-add-lt row g.columns n g.rows d (omega (arith, r, b))) in
    set_like g (record h { cells = slice_set h.cells number c }) (λ q. Before g.columns row left right n q ⊎ (q ≡ number)) (Before g.columns row left right (n + 1)) c to from
    (set_both g h (record h { cells = slice_set h.cells number c }) (Before g.columns row left right n) (λ q. q ≡ number) c a (set_point h c number inside))
  where
    to : (q : ℕ) → Before g.columns row left right n q ⊎ (q ≡ number) → Before g.columns row left right (n + 1) q
    to q i = join_before g.columns row left right n q l r (omega (arith, r, b)) (subst (λ x. Before g.columns row left right n q ⊎ (q ≡ x)) e i)

    from : (q : ℕ) → Before g.columns row left right (n + 1) q → Before g.columns row left right n q ⊎ (q ≡ number)
    from q i = subst (λ x. Before g.columns row left right n q ⊎ (q ≡ x)) (sym e) (split_before g.columns row left right n q i)

pub row_end : (g h : Board) (row left right n : ℕ) (c : Cell) → right < n → IsSet g (Before g.columns row left right n) c h → IsSet g (IsInRow g.columns row left right) c h
row_end g h row left right n c b a = set_like g h (Before g.columns row left right n) (IsInRow g.columns row left right) c (λ q i. i.0) (λ q i. (i, omega (arith, i.right, b))) a

-- the points of a rectangle above a row
abbrev pub Above : ℕ → Rectangle → ℕ → ℕ → Type 0
Above columns r n q = IsInRectangle columns r q × (q / columns < n)

pub area_start : (g : Board) (r : Rectangle) (c : Cell) → IsSet g (Above g.columns r r.top) c g
area_start g r c = set_none g (Above g.columns r r.top) c (λ q i. omega (arith, i.0.top, i.1))

pub area_step : (g h k : Board) (r : Rectangle) (n : ℕ) (c : Cell) → r.top ≤ n → n ≤ r.bottom → IsSet g (Above g.columns r n) c h → IsSet h (IsInRow h.columns n r.left r.right) c k → IsSet g (Above g.columns r (n + 1)) c k
area_step g h k r n c t b a more =
    let row : IsSet h (IsInRow g.columns n r.left r.right) c k = subst (λ x. IsSet h (IsInRow x n r.left r.right) c k) a.columns more in
    set_like g k (λ q. Above g.columns r n q ⊎ IsInRow g.columns n r.left r.right q) (Above g.columns r (n + 1)) c to from (set_both g h k (Above g.columns r n) (IsInRow g.columns n r.left r.right) c a row)
  where
    to : (q : ℕ) → Above g.columns r n q ⊎ IsInRow g.columns n r.left r.right q → Above g.columns r (n + 1) q
    to q (inl i) = (i.0, omega (arith, i.1))
    to q (inr i) = (record { left = i.left; right = i.right; top = omega (arith, t, i.top); bottom = omega (arith, b, i.bottom) }, omega (arith, i.bottom))

    last_or : (p n : ℕ) → p < n + 1 → (p < n) ⊎ (p ≡ n)
    last_or p n h = grind (arith, h)

    from : (q : ℕ) → Above g.columns r (n + 1) q → Above g.columns r n q ⊎ IsInRow g.columns n r.left r.right q
    from q i = elim (last_or (q / g.columns) n i.1) [
      | inl k ↦ inl (i.0, k)
      | inr e ↦ inr (record { left = i.0.left; right = i.0.right; top = omega (arith, e); bottom = omega (arith, e) })
    ]

pub area_end : (g h : Board) (r : Rectangle) (n : ℕ) (c : Cell) → r.bottom < n → IsSet g (Above g.columns r n) c h → IsSet g (IsInRectangle g.columns r) c h
area_end g h r n c b a = set_like g h (Above g.columns r n) (IsInRectangle g.columns r) c (λ q i. i.0) (λ q i. (i, omega (arith, i.bottom, b))) a
