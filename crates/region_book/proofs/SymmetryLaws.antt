-- The symmetries of the square and the exchange of colours: two after one another, and back.
use Rattle.std.proofs.Common.{◌≡◌, ap, sym, ◌∙◌, refl, Bool, true, false}
use Rattle.go_grid.specs.declared.grid.Cell.{Cell}
use Rattle.go_grid.specs.declared.grid.Cell.TheVariants as cell
use Rattle.go_grid.specs.declared.grid.Colour.{Colour}
use Rattle.go_grid.specs.declared.grid.Colour.TheVariants.{Black, White}
use Rattle.region_book.specs.Shape.{Direction, up, left, right, down, exchanged, columns_over, rows_over, turned, colour_after, cell_after}
use Rattle.region_book.specs.Law.{differ}
use Rattle.region_book.specs.declared.symmetry.Symmetry.{Symmetry}

-- the first, or the second where the two change places
abbrev pub first_of : Bool → Bool → Bool → Bool
first_of false a b = a
first_of true a b = b

-- first `t`, then `s`
abbrev pub after : Symmetry → Symmetry → Symmetry
after s t = record {
  exchange = differ s.exchange t.exchange;
  columns = differ s.columns (first_of s.exchange t.columns t.rows);
  rows = differ s.rows (first_of s.exchange t.rows t.columns);
}

abbrev pub back : Symmetry → Symmetry
back s = record { exchange = s.exchange; columns = first_of s.exchange s.columns s.rows; rows = first_of s.exchange s.rows s.columns }

exchanged_both : (a b : Bool) (d : Direction) → exchanged a (exchanged b d) ≡ exchanged (differ a b) d
exchanged_both false b d = refl
exchanged_both true false d = refl
exchanged_both true true up = refl
exchanged_both true true left = refl
exchanged_both true true right = refl
exchanged_both true true down = refl

columns_both : (a b : Bool) (d : Direction) → columns_over a (columns_over b d) ≡ columns_over (differ a b) d
columns_both false b d = refl
columns_both true false d = refl
columns_both true true up = refl
columns_both true true left = refl
columns_both true true right = refl
columns_both true true down = refl

rows_both : (a b : Bool) (d : Direction) → rows_over a (rows_over b d) ≡ rows_over (differ a b) d
rows_both false b d = refl
rows_both true false d = refl
rows_both true true up = refl
rows_both true true left = refl
rows_both true true right = refl
rows_both true true down = refl

columns_rows : (a b : Bool) (d : Direction) → columns_over a (rows_over b d) ≡ rows_over b (columns_over a d)
columns_rows false b d = refl
columns_rows true false d = refl
columns_rows true true up = refl
columns_rows true true left = refl
columns_rows true true right = refl
columns_rows true true down = refl

exchanged_columns : (b : Bool) (d : Direction) → exchanged true (columns_over b d) ≡ rows_over b (exchanged true d)
exchanged_columns false d = refl
exchanged_columns true up = refl
exchanged_columns true left = refl
exchanged_columns true right = refl
exchanged_columns true down = refl

exchanged_rows : (b : Bool) (d : Direction) → exchanged true (rows_over b d) ≡ columns_over b (exchanged true d)
exchanged_rows false d = refl
exchanged_rows true up = refl
exchanged_rows true left = refl
exchanged_rows true right = refl
exchanged_rows true down = refl

-- the exchange passes over the other two
passes : (e c r : Bool) (d : Direction) → exchanged e (rows_over r (columns_over c d))
    ≡ rows_over (first_of e r c) (columns_over (first_of e c r) (exchanged e d))
passes false c r d = refl
passes true c r d =
    exchanged_rows r (columns_over c d) ∙ ap (columns_over r) (exchanged_columns c d) ∙ columns_rows r c (exchanged true d)

pub after_is : (s t : Symmetry) (d : Direction) → turned s (turned t d) ≡ turned (after s t) d
after_is s t d =
    let r = first_of s.exchange t.rows t.columns in
    let c = first_of s.exchange t.columns t.rows in
    let e = exchanged s.exchange (exchanged t.exchange d) in
    ap (λ x. rows_over s.rows (columns_over s.columns x)) (passes s.exchange t.columns t.rows (exchanged t.exchange d))
    ∙ ap (rows_over s.rows) (columns_rows s.columns r (columns_over c e))
    ∙ rows_both s.rows r (columns_over s.columns (columns_over c e))
    ∙ ap (rows_over (differ s.rows r)) (columns_both s.columns c e)
    ∙ ap (λ x. rows_over (differ s.rows r) (columns_over (differ s.columns c) x)) (exchanged_both s.exchange t.exchange d)

same_none : (a : Bool) → differ a a ≡ false
same_none false = refl
same_none true = refl

there_and_back : (e c r : Bool) (d : Direction) → rows_over (differ (first_of e r c) (first_of e r c))
    (columns_over (differ (first_of e c r) (first_of e c r)) (exchanged (differ e e) d)) ≡ d
there_and_back e c r d = rw (same_none (first_of e r c), same_none (first_of e c r), same_none e) refl

back_there : (e c r : Bool) (d : Direction) → rows_over (differ r (first_of e (first_of e r c) (first_of e c r)))
    (columns_over (differ c (first_of e (first_of e c r) (first_of e r c))) (exchanged (differ e e) d)) ≡ d
back_there false c r d = rw (same_none r, same_none c) refl
back_there true c r d = rw (same_none r, same_none c) refl

pub back_first : (s : Symmetry) (d : Direction) → turned s (turned (back s) d) ≡ d
back_first s d = after_is s (back s) d ∙ back_there s.exchange s.columns s.rows d

pub back_last : (s : Symmetry) (d : Direction) → turned (back s) (turned s d) ≡ d
back_last s d = after_is (back s) s d ∙ there_and_back s.exchange s.columns s.rows d

-- colours
pub colour_both : (a b : Bool) (c : Colour) → colour_after a (colour_after b c) ≡ colour_after (differ b a) c
colour_both a false c = refl
colour_both false true c = refl
colour_both true true Black = refl
colour_both true true White = refl

pub cell_both : (a b : Bool) (x : Cell) → cell_after a (cell_after b x) ≡ cell_after (differ b a) x
cell_both a false x = refl
cell_both false true x = refl
cell_both true true cell.Empty = refl
cell_both true true cell.Black = refl
cell_both true true cell.White = refl

pub colour_back : (a : Bool) (c : Colour) → colour_after a (colour_after a c) ≡ c
colour_back false c = refl
colour_back true Black = refl
colour_back true White = refl

pub cell_back : (a : Bool) (x : Cell) → cell_after a (cell_after a x) ≡ x
cell_back false x = refl
cell_back true cell.Empty = refl
cell_back true cell.Black = refl
cell_back true cell.White = refl

-- what was exchanged by `e`, exchanged anew so that both come to `a`
pub cell_onward : (a e : Bool) (x : Cell) → cell_after (differ a e) (cell_after e x) ≡ cell_after a x
cell_onward false false x = refl
cell_onward false true x = cell_back true x
cell_onward true false x = refl
cell_onward true true x = refl

pub colour_onward : (a e : Bool) (c : Colour) → colour_after (differ a e) c ≡ colour_after e (colour_after a c)
colour_onward a e c = sym (colour_both e a c)
