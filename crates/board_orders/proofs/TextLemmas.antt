-- Texts that grow.
use Rattle.std.proofs.Common.{true, false, ◌≡◌, ◌≢◌, ◌<◌, ◌≤◌, ◌+◌, ◌*◌, ◌++◌, ◌∷◌, ℕ, suc, List, [], length, drop, get_or, refl, sym, ap, ◌∙◌, subst, append_assoc, arith, Result, Ok, Err, OnOk, if◌then◌else◌}
use Rattle.std.specs.Prelude.{codes}
use Rattle.std.specs.Result.{is_ok}
use Rattle.std.proofs.lemmas.List.{drop_more, drop_all}
use Rattle.board_words.specs.Words.{colour_word}
use Rattle.go_grid.specs.Board.{Board, cell_at}
use Rattle.go_grid.specs.declared.grid.Colour.{Colour}
use Rattle.gtp_words.specs.Vertices.{capital, vertex_text}
use Rattle.board_orders.specs.declared.position.MadeMove.{MadeMove}
use Rattle.board_orders.specs.Texts.{has_colour, history_text, joined, letters_below, mark, marks_below, move_text, row_line, rows_above, stones_below, vertices_behind}

-- what follows from a result that is there
pub on_ok : {T E P Q : Type 0} (r : Result T E) → (P → Q) → OnOk r P → OnOk r Q
on_ok (Ok x) f p = f p
on_ok (Err e) f p = p

-- what follows from a text that was written where the result is there
pub on_written : {T E P : Type 0} (r : Result T E) (new written old : List ℕ) → new ≡ (if is_ok r then written else old) → (new ≡ written → P) → OnOk r P
on_written (Ok x) new written old is f = f is
on_written (Err e) new written old is f = tt

-- the first part
pub joined_first : (sep text part new : List ℕ) → length text ≡ 0 → new ≡ text ++ part → new ≡ joined sep text part
unfolding joined
joined_first sep [] part new none is = is
joined_first sep (b ∷ text) part new none is = absurd (omega (arith, none))

-- a part more
pub joined_more : (sep text part new : List ℕ) → length text ≢ 0 → new ≡ (text ++ sep) ++ part → new ≡ joined sep text part
unfolding joined
joined_more sep [] part new some is = absurd (some refl)
joined_more sep (b ∷ text) part new some is = is ∙ append_assoc (b ∷ text) sep part

module _ (g : Board) (c : Colour) (p : ℕ) (old new : List ℕ) (so_far : old ≡ stones_below g c p) where
  -- a point with a stone
  pub stone_more : has_colour c (cell_at g p) ≡ true → new ≡ joined (codes " ") old (vertex_text g.columns g.rows p) → new ≡ stones_below g c (p + 1)
  unfolding stones_below
  stone_more has is =
      let next : suc p ≡ p + 1 = omega arith in
      subst (λ n. new ≡ stones_below g c n) next (is ∙ ap (λ t. joined (codes " ") t (vertex_text g.columns g.rows p)) so_far
      ∙ sym (ap (λ b. if b then joined (codes " ") (stones_below g c p) (vertex_text g.columns g.rows p) else stones_below g c p) has))

  -- a point without one
  pub stone_none : has_colour c (cell_at g p) ≡ false → old ≡ stones_below g c (p + 1)
  unfolding stones_below
  stone_none has =
      let next : suc p ≡ p + 1 = omega arith in
      subst (λ n. old ≡ stones_below g c n) next (so_far ∙ sym (ap (λ b. if b then joined (codes " ") (stones_below g c p) (vertex_text g.columns g.rows p) else stones_below g c p) has))

-- a letter more
pub letter_more : (column : ℕ) (old new : List ℕ) → old ≡ letters_below column → new ≡ old ++ (codes " " ++ capital column ∷ []) → new ≡ letters_below (suc column)
unfolding letters_below
letter_more column old new so_far is = is ∙ ap (λ t. t ++ (codes " " ++ capital column ∷ [])) so_far

-- a mark more
pub mark_more : (g : Board) (row column : ℕ) (old new : List ℕ) → old ≡ marks_below g row column → new ≡ old ++ mark (cell_at g (row * g.columns + column)) → new ≡ marks_below g row (suc column)
unfolding marks_below
mark_more g row column old new so_far is = is ∙ ap (λ t. t ++ mark (cell_at g (row * g.columns + column))) so_far

-- a row more
pub row_more : (g : Board) (row : ℕ) (old new : List ℕ) → old ≡ rows_above g row → new ≡ old ++ row_line g row → new ≡ rows_above g (suc row)
unfolding rows_above
row_more g row old new so_far is = is ∙ ap (λ t. t ++ row_line g row) so_far

-- no move
pub history_none : (columns rows : ℕ) (moves : List MadeMove) (n : ℕ) → length moves ≤ n → [] ≡ history_text columns rows (drop n moves)
unfolding history_text
history_none columns rows moves n all = sym (ap (history_text columns rows) (drop_all n moves all))

-- the move before
pub history_more : (columns rows : ℕ) (moves : List MadeMove) (n : ℕ) (d : MadeMove) (old new : List ℕ) → n < length moves → old ≡ history_text columns rows (drop (n + 1) moves)
    → new ≡ joined (codes "\n") old (colour_word (get_or moves n d).colour ++ (codes " " ++ move_text columns rows (get_or moves n d).chosen)) → new ≡ history_text columns rows (drop n moves)
unfolding history_text
history_more columns rows moves n d old new lt so_far is =
    is ∙ ap (λ t. joined (codes "\n") t (colour_word (get_or moves n d).colour ++ (codes " " ++ move_text columns rows (get_or moves n d).chosen))) so_far
    ∙ sym (ap (history_text columns rows) (drop_more moves n d lt))

-- a point more
pub vertices_more : (columns rows : ℕ) (points : List ℕ) (at x : ℕ) (old new whole : List ℕ) → drop at points ≡ x ∷ drop (at + 1) points → new ≡ joined (codes " ") old (vertex_text columns rows x)
    → vertices_behind old columns rows (drop at points) ≡ whole → vertices_behind new columns rows (drop (at + 1) points) ≡ whole
unfolding vertices_behind
vertices_more columns rows points at x old new whole here is so_far =
    ap (λ t. vertices_behind t columns rows (drop (at + 1) points)) is ∙ sym (ap (vertices_behind old columns rows) here) ∙ so_far

-- all points
pub vertices_all : (columns rows : ℕ) (points : List ℕ) (at : ℕ) (text whole : List ℕ) → length points ≤ at → vertices_behind text columns rows (drop at points) ≡ whole → text ≡ whole
unfolding vertices_behind
vertices_all columns rows points at text whole all so_far = sym (ap (vertices_behind text columns rows) (drop_all at points all)) ∙ so_far
