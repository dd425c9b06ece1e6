-- A pool as its rows grow: the lists that lie there stay.
use Rattle.std.proofs.Common.{◌≡◌, ℕ, ◌+◌, ◌-◌, ◌<◌, ◌≤◌, Bool, true, false, List, [], ◌∷◌, ◌++◌, length, map, take, drop, set, get_or, refl, sym, ap, ◌∙◌, subst, inl, inr, arith, length-append, length-drop, length-set, get_or-set_same, get_or-set_other}
use Rattle.std.specs.Prelude.{slice_range, ℤ, pos, negsuc, ◌≤ℤ◌, if◌then◌else◌, nat_lt, nat_le}
use Rattle.std.proofs.lemmas.Bool.{cases_eq, ltb-true, lt-ltb, leb-true, le-leb}
use Rattle.std.proofs.lemmas.List.{take-append-le, drop-append-le, take_all, drop_at, get_or_append_left, get_or_push, map_push, append-nil, length_push}
use Rattle.std.proofs.lemmas.List.Elements.{All-head, All-tail, All-nil, All-cons, All-push}
use Rattle.std.specs.Prelude.{slice_get, Some}
use Rattle.std.proofs.lemmas.Option.{get_or_from_slice_get}
use Rattle.std.proofs.lemmas.Int.{ints}
use Rattle.list_pool.specs.Chunk.{Row}
use Rattle.list_pool.specs.inner.Pool.{no_row, row_of, list_in, LiesIn, AllLie, left_of, left_over, spare_in}
use Rattle.list_pool.specs.declared.place.Place.{Place}

if_same : {X : Type 0} (b : Bool) (x : X) → (if b then x else x) ≡ x
if_same true x = refl
if_same false x = refl

pub spare_none : (used capacity : ℕ) → spare_in [] used capacity ≡ negsuc 0
unfolding spare_in left_over
spare_none used capacity = if_same (nat_lt used capacity) (negsuc 0)

-- each row of the first is a row of the second, which may go on
pub record Extends (rows more : List Row) : Type 0 where
  pub rows_left : length rows ≤ length more
  pub goes_on : (c : ℕ) → c < length rows → (end : List ℕ) × ((get_or more c no_row).items ≡ (get_or rows c no_row).items ++ end)

range_kept : (xs end : List ℕ) (i j : ℕ) → i ≤ j → j ≤ length xs → slice_range (xs ++ end) i j ≡ slice_range xs i j
range_kept xs end i j le within =
    ap (take (j - i)) (drop-append-le i xs end (omega arith)) ∙ take-append-le (j - i) (drop i xs) end (omega (arith, length-drop i xs))

module _ (rows more : List Row) (ext : Extends rows more) where
  lies_kept : (p : Place) → LiesIn rows p → LiesIn more p × (list_in more p ≡ list_in rows p)
  lies_kept p lies =
      let on = ext.goes_on p.chunk lies.0 in let same = on.1 in
      let long : length (row_of more p) ≡ length (row_of rows p) + length on.0 = ap length same ∙ length-append (row_of rows p) on.0 in (
        (omega (arith, ext.rows_left, lies.0), omega (arith, lies.1)),
        ap (λ l. slice_range l p.start (p.start + p.len)) same ∙ range_kept (row_of rows p) on.0 p.start (p.start + p.len) (omega arith) lies.1,
      )

  pub all_kept : (table : List Place) → AllLie rows table → AllLie more table × (map (list_in more) table ≡ map (list_in rows) table)
  all_kept [] lie = (All-nil (LiesIn more), refl)
  all_kept (p ∷ ps) lie =
      let here = lies_kept p (All-head (LiesIn rows) p ps lie) in let rest = all_kept ps (All-tail (LiesIn rows) p ps lie) in
      (All-cons (LiesIn more) p ps here.0 rest.0, ap (λ x. x ∷ map (list_in more) ps) here.1 ∙ ap (λ l. list_in rows p ∷ l) rest.1)

Extends-push : (rows : List Row) (row : Row) → Extends rows (rows ++ row ∷ [])
Extends-push rows row = record {
  rows_left = omega (arith, length_push rows row);
  goes_on = λ c lt. ([], ap (λ r. r.items) (get_or_append_left rows (row ∷ []) no_row c lt) ∙ sym (append-nil _));
}

-- a new row leaves the lists as they are
pub row_added : (rows : List Row) (row : Row) (table : List Place) → AllLie rows table → AllLie (rows ++ row ∷ []) table × (map (list_in (rows ++ row ∷ [])) table ≡ map (list_in rows) table)
row_added rows row = all_kept rows (rows ++ row ∷ []) (Extends-push rows row)

module _ (rows : List Row) (c : ℕ) (last new : Row) (items : List ℕ) where
  Extends-set : last ≡ get_or rows c no_row → new.items ≡ last.items ++ items → Extends rows (set rows c new)
  Extends-set is grown = record {
    rows_left = omega (arith, length-set rows c new);
    goes_on = λ k lt. elim (cases_eq k c) [
      | inl e ↦ (items, ap (λ i. (get_or (set rows c new) i no_row).items) e ∙ ap (λ r. r.items) (get_or-set_same rows c new no_row (subst (λ i. i < length rows) e lt)) ∙ grown ∙ ap (λ r. r.items ++ items) (is ∙ sym (ap (λ i. get_or rows i no_row) e)))
      | inr ne ↦ ([], ap (λ r. r.items) (get_or-set_other rows c k new no_row ne) ∙ sym (append-nil _))
    ];
  }

  -- a list at the end of the last row is one more list
  pub list_added : (table : List Place) → c < length rows → last ≡ get_or rows c no_row → new.items ≡ last.items ++ items → AllLie rows table
      → let p : Place = record { chunk = c; start = length last.items; len = length items } in
      AllLie (set rows c new) (table ++ p ∷ []) × (map (list_in (set rows c new)) (table ++ p ∷ []) ≡ map (list_in rows) table ++ items ∷ [])
  list_added table lt is grown lie =
      let p : Place = record { chunk = c; start = length last.items; len = length items } in let more = set rows c new in
      let kept = all_kept rows more (Extends-set is grown) table lie in
      let here : row_of more p ≡ last.items ++ items = ap (λ r. r.items) (get_or-set_same rows c new no_row lt) ∙ grown in
      let long : length (row_of more p) ≡ length last.items + length items = ap length here ∙ length-append last.items items in
      let count : length last.items + length items - length last.items ≡ length items = omega arith in
      let list : list_in more p ≡ items = ap (λ l. slice_range l p.start (p.start + p.len)) here ∙ ap (take (p.start + p.len - p.start)) (drop_at last.items items p.start refl) ∙ ap (λ k. take k items) count ∙ take_all (length items) items (omega arith) in
      (All-push (LiesIn more) table p kept.0 (omega (arith, length-set rows c new), omega arith), map_push (list_in more) table p ∙ ap (λ l. l ++ list_in more p ∷ []) kept.1 ∙ ap (λ x. map (list_in rows) table ++ x ∷ []) list)

not_below : (n : ℕ) → pos n ≤ℤ negsuc 0 → ⊥
not_below n h = omega (arith, ints)

not_above : (n m : ℕ) → pos n ≤ℤ pos m → n ≤ m
not_above n m h = omega (arith, ints)

-- what a number in `spare` says
picked : (b : Bool) (x : ℤ) (n : ℕ) → pos n ≤ℤ (if b then x else negsuc 0) → (b ≡ true) × (pos n ≤ℤ x)
picked true x n h = (refl, h)
picked false x n h = absurd (not_below n h)

least_picked : (b : Bool) (x : ℤ) → negsuc 0 ≤ℤ x → negsuc 0 ≤ℤ (if b then x else negsuc 0)
least_picked true x h = h
least_picked false x h = omega (arith, ints)

pub room_in : (rows : List Row) (used capacity n : ℕ) → pos n ≤ℤ spare_in rows used capacity
    → let last = get_or rows (length rows - 1) no_row in (used < capacity) × (0 < length rows) × (length last.items + n ≤ last.room)
unfolding spare_in left_over
room_in rows used capacity n h =
    let last = get_or rows (length rows - 1) no_row in
    let table = picked (nat_lt used capacity) (left_over rows) n h in let some = picked (nat_lt 0 (length rows)) (left_of last) n table.1 in
    let left = picked (nat_le (length last.items) last.room) (pos (last.room - length last.items)) n some.1 in
    let within = leb-true (length last.items) last.room left.0 in let fits : n ≤ last.room - length last.items = not_above n (last.room - length last.items) left.1 in
    (ltb-true used capacity table.0, ltb-true 0 (length rows) some.0, omega arith)

pub room_last : (rows : List Row) (n : ℕ) → let last = get_or rows (length rows - 1) no_row in 0 < length rows → length last.items + n ≤ last.room → pos n ≤ℤ left_over rows
unfolding left_over
room_last rows n some fits =
    let last = get_or rows (length rows - 1) no_row in let is : pos n ≤ℤ pos (last.room - length last.items) = omega (arith, ints) in
    subst (λ b. pos n ≤ℤ (if b then left_of last else negsuc 0)) (sym (lt-ltb 0 (length rows) some))
    (subst (λ b. pos n ≤ℤ (if b then pos (last.room - length last.items) else negsuc 0)) (sym (le-leb (length last.items) last.room (omega arith))) is)

pub room_there : (rows : List Row) (used capacity n : ℕ) → used < capacity → pos n ≤ℤ left_over rows → pos n ≤ℤ spare_in rows used capacity
unfolding spare_in
room_there rows used capacity n lt h = subst (λ b. pos n ≤ℤ (if b then left_over rows else negsuc 0)) (sym (lt-ltb used capacity lt)) h

pub room_in_last : (rows : List Row) (n left : ℕ) (last : Row) → slice_get rows (length rows - 1) ≡ Some last → left + length last.items ≡ last.room → n ≤ left → pos n ≤ℤ left_over rows
room_in_last [] n left last is count le = absurd (cc is)
room_in_last (r ∷ rows) n left last is count le =
    let here : get_or (r ∷ rows) (length (r ∷ rows) - 1) no_row ≡ last = get_or_from_slice_get (r ∷ rows) (length (r ∷ rows) - 1) last no_row is in
    room_last (r ∷ rows) n (omega arith) (subst (λ l. length l.items + n ≤ l.room) (sym here) (omega arith))

pub room_made : (rows : List Row) (row : Row) (used capacity n : ℕ) → row.items ≡ [] → n ≤ row.room → used < capacity → pos n ≤ℤ spare_in (rows ++ row ∷ []) used capacity
room_made rows row used capacity n none le lt =
    let more = rows ++ row ∷ [] in let count = length_push rows row in let at : length rows ≡ length more - 1 = omega (arith, count) in
    let here : get_or more (length more - 1) no_row ≡ row = get_or_push rows row no_row (length more - 1) at in
    room_there more used capacity n lt (room_last more n (omega (arith, count)) (subst (λ l. length l.items + n ≤ l.room) (sym here) (omega (arith, ap length none))))

pub least_spare : (rows : List Row) (used capacity : ℕ) → negsuc 0 ≤ℤ spare_in rows used capacity
unfolding spare_in left_over
least_spare rows used capacity =
    let last = get_or rows (length rows - 1) no_row in
    least_picked (nat_lt used capacity) (left_over rows) (least_picked (nat_lt 0 (length rows)) (left_of last) (least_picked (nat_le (length last.items) last.room) (pos (last.room - length last.items)) (omega (arith, ints))))
