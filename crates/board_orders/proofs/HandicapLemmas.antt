-- Handicap stones one after the other.
use Rattle.std.proofs.Common.{◌≡◌, ◌<◌, ◌+◌, ◌*◌, ◌++◌, ◌∷◌, ℕ, List, [], length, take, get_or, inl, inr, refl, sym, ap, ◌∙◌, subst, append_assoc, Some, None, Ok, Err, Result, IfOk}
use Rattle.std.specs.List.{All}
use Rattle.std.proofs.lemmas.List.{take_more}
use Rattle.std.proofs.lemmas.List.Elements.{All-push}
use Rattle.go_grid.specs.Board.{Board}
use Rattle.go_grid.specs.declared.grid.Colour.TheVariants.{Black}
use Rattle.go_play.specs.declared.placements.PlaceError.{PlaceError}
use Rattle.go_play.specs.declared.placements.PlaceError.TheVariants.{Occupied, Suicide}
use Rattle.go_play.specs.Place.{PlacesStone}
use Rattle.board_orders.specs.declared.refusal.Refusal.{Refusal}
use Rattle.board_orders.specs.declared.refusal.Refusal.TheVariants.{BadNumberOfStones, BadVertexList, BoardNotEmpty}
use Rattle.board_orders.specs.Handicaps.{CannotPut, HasPlaces, IsBare, IsSomeAstray, NamePoints, NamesPoint, PutsStones, fixed_points}
use Rattle.board_orders.specs.Doing.{IsDone}
use Rattle.board_orders.specs.inner.Doing.{IsPut, IsSetOut}
use Rattle.board_orders.specs.Orders.BoardOrder.{fixed_handicap, free_handicap}
use Rattle.board_orders.specs.Effects.{SetsOut, done, refused, reply_text}
use Rattle.board_orders.specs.States.{BoardState, present, with_stones}
use Rattle.board_orders.specs.Texts.{vertices_text}

-- the words name the points so far, if the words left name the others; and those so far are on the board
pub record Reading (columns rows : ℕ) (words : List (List ℕ)) (points : List ℕ) (left : List (List ℕ)) : Type 0 where
  pub named : (more : List ℕ) → NamePoints columns rows left more → NamePoints columns rows words (points ++ more)
  pub astray : IsSomeAstray columns rows left → IsSomeAstray columns rows words
  pub on_board : All (λ p. p < columns * rows) points

-- one point more
pub reading_more : (columns rows : ℕ) (words : List (List ℕ)) (points : List ℕ) (word : List ℕ) (left : List (List ℕ)) (p : ℕ) → Reading columns rows words points (word ∷ left)
    → NamesPoint columns rows word p → p < columns * rows → Reading columns rows words (points ++ p ∷ []) left
reading_more columns rows words points word left p r names on = record {
  named = λ more h. subst (NamePoints columns rows words) (sym (append_assoc points (p ∷ []) more)) (r.named (p ∷ more) (p, more, refl, names, h));
  astray = λ h. r.astray (inr h);
  on_board = All-push (λ q. q < columns * rows) points p r.on_board on;
}

-- the stones left make it whole on the board held
pub record Putting (g : Board) (points : List ℕ) (held : Board) (left : List ℕ) : Type 0 where
  pub put : (h : Board) → PutsStones held left h → PutsStones g points h
  pub cannot : CannotPut held left → CannotPut g points
  pub columns : held.columns ≡ g.columns
  pub rows : held.rows ≡ g.rows

-- one stone more
pub putting_more : (g : Board) (points : List ℕ) (held : Board) (p : ℕ) (left : List ℕ) (m : Board) (n : ℕ) → Putting g points held (p ∷ left) → PlacesStone held p Black m (Ok n)
    → Putting g points m left
putting_more g points held p left m n r placed = record {
  put = λ h rest. r.put h (m, n, placed, rest);
  cannot = λ rest. r.cannot (inr (m, n, placed, rest));
  columns = placed.0.0.columns ∙ r.columns;
  rows = placed.0.0.rows ∙ r.rows;
}

-- a stone that is refused leaves the board
refused_there : (held : Board) (p : ℕ) (m : Board) (e : PlaceError) → PlacesStone held p Black m (Err e) → PlacesStone held p Black held (Err e)
refused_there held p m Occupied h = (refl, h.1)
refused_there held p m Suicide h = (refl, h.1, h.2)

pub putting_refused : (g : Board) (points : List ℕ) (held : Board) (p : ℕ) (left : List ℕ) (m : Board) (e : PlaceError) → Putting g points held (p ∷ left)
    → PlacesStone held p Black m (Err e) → CannotPut g points
putting_refused g points held p left m e r stands = r.cannot (inl (e, refused_there held p m e stands))

-- what holds of the items so far holds of one more
pub all_more : {X : Type 0} (P : X → Type 0) (xs : List X) (i : ℕ) (d : X) → i < length xs → All P (take i xs) → P (get_or xs i d) → All P (take (i + 1) xs)
all_more P xs i d lt all here = subst (All P) (sym (take_more xs i d lt)) (All-push P (take i xs) (get_or xs i d) all here)

-- what follows from a reply
pub if_ok : {T E : Type 0} (P Q : T → Type 0) (r : Result T E) → ((x : T) → P x → Q x) → IfOk r P → IfOk r Q
if_ok P Q (Ok x) f p = f x p
if_ok P Q (Err e) f p = tt

-- stones that are set out
pub set_put : (text : List ℕ) (why : Refusal) (points id : List ℕ) (s u : BoardState) (h : Board) (reply : List ℕ) → IsPut (present s).board points (Some h) → u ≡ with_stones s (length points) h
    → reply ≡ reply_text id (done text) → IsSetOut text why points id s reply u
set_put text why points id s u h reply put is said = (done text, inl (h, put, refl, is), said)

pub set_refused : (text : List ℕ) (why : Refusal) (points id : List ℕ) (s : BoardState) (reply : List ℕ) → IsPut (present s).board points None → reply ≡ reply_text id (refused why)
    → IsSetOut text why points id s reply s
set_refused text why points id s reply cannot said = (refused why, inr (cannot, (refl, refl)), said)

module _ (s : BoardState) (id reply : List ℕ) where
  -- stones stand already
  pub free_full : (words : List (List ℕ)) → ¬ IsBare (present s).board → reply ≡ reply_text id (refused BoardNotEmpty) → IsDone (free_handicap words) id s reply s
  free_full words full said = (refused BoardNotEmpty, inl (full, (refl, refl)), said)

  pub fixed_full : (n : ℕ) → ¬ IsBare (present s).board → reply ≡ reply_text id (refused BoardNotEmpty) → IsDone (fixed_handicap n) id s reply s
  fixed_full n full said = (refused BoardNotEmpty, inl (full, (refl, refl)), said)

  module _ (columns rows : ℕ) (bare : IsBare (present s).board) (same_columns : columns ≡ (present s).board.columns) (same_rows : rows ≡ (present s).board.rows) where
    -- of one more size than the board's there is none
    sized : (P : ℕ → ℕ → Type 0) → P columns rows → P (present s).board.columns (present s).board.rows
    sized P p = subst (λ n. P (present s).board.columns n) same_rows (subst (λ n. P n rows) same_columns p)

    -- a word names no point
    pub free_astray : (words : List (List ℕ)) → IsSomeAstray columns rows words → reply ≡ reply_text id (refused BadVertexList) → IsDone (free_handicap words) id s reply s
    free_astray words astray said = (refused BadVertexList, inr (inl (bare, sized (λ m n. IsSomeAstray m n words) astray, (refl, refl))), said)

    -- stones at the points of words
    pub free_set : (words : List (List ℕ)) (points : List ℕ) (u : BoardState) → NamePoints columns rows words points → IsSetOut [] BadVertexList points id s reply u → IsDone (free_handicap words) id s reply u
    free_set words points u names set = (set.0, inr (inr (bare, (points, sized (λ m n. NamePoints m n words points) names, set.1))), set.2)

    -- there is no room
    pub fixed_none : (n : ℕ) → ¬ HasPlaces columns rows n → reply ≡ reply_text id (refused BadNumberOfStones) → IsDone (fixed_handicap n) id s reply s
    fixed_none n none said = (refused BadNumberOfStones, inr (inl (bare, sized (λ k l. ¬ HasPlaces k l n) none, (refl, refl))), said)

    -- stones at their fixed points
    pub fixed_set : (n : ℕ) (text points : List ℕ) (u : BoardState) → HasPlaces columns rows n → points ≡ fixed_points columns rows n → text ≡ vertices_text columns rows points
        → IsSetOut text BadNumberOfStones points id s reply u → IsDone (fixed_handicap n) id s reply u
    fixed_set n text points u has are is set =
        let told = is ∙ ap (vertices_text columns rows) are in (
          set.0,
          inr (inr (
            bare,
            sized (λ k l. HasPlaces k l n) has,
            sized (λ k l. SetsOut (vertices_text k l (fixed_points k l n)) BadNumberOfStones (fixed_points k l n) s set.0 u)
                (subst (λ t. SetsOut t BadNumberOfStones (fixed_points columns rows n) s set.0 u) told (subst (λ p. SetsOut text BadNumberOfStones p s set.0 u) are set.1)),
          )),
          set.2,
        )
