-- The board of a main line has one size throughout, of at most 25 columns and rows.
use Rattle.std.proofs.Common.{◌≡◌, ℕ, ◌+◌, ◌*◌, ◌<◌, ◌≤◌, refl, sym, ap, ap₂, subst, ◌∙◌, inl, inr, arith, List, [], ◌∷◌, Bool, true, false, length, Some, None, Ok, Err}
use Rattle.std.specs.Prelude.{Option, Result, codes, ℤ}
use Rattle.std.proofs.lemmas.List.{length-set, length-replicate}
use Rattle.go_grid.specs.declared.grid.Cell.{Cell}
use Rattle.go_grid.specs.declared.grid.Cell.TheVariants as cell
use Rattle.go_grid.specs.declared.grid.Colour.{Colour}
use Rattle.go_grid.specs.declared.grid.Colour.TheVariants as colour
use Rattle.go_grid.specs.Board.{Board, stone}
use Rattle.go_grid.proofs.BoardLemmas.{area_most}
use Rattle.go_play.specs.Place.{PlacesStone}
use Rattle.go_play.specs.declared.placements.PlaceError.{PlaceError}
use Rattle.go_play.specs.declared.placements.PlaceError.TheVariants as place
use Rattle.sgf_tree.specs.Grammar.{PropertyText}
use Rattle.sgf_go.specs.declared.replay.Replay.{Replay}
use Rattle.sgf_go.specs.declared.settings.Settings.{Settings}
use Rattle.go_play.specs.Setup.{Setup}
use Rattle.sgf_go.specs.declared.fault.SetupFault.{SetupFault}
use Rattle.sgf_go.specs.declared.fault.SetupFault.TheVariants.{WrongGame, BadSize, BadKomi, BadPoint, BadSide, Occupied, Suicide, MarkedTwice, NoLiberty}
use Rattle.sgf_go.specs.File.{Reads}
use Rattle.sgf_go.specs.Values.{Rectangle, Extent, Says, trimmed, sides, square}
use Rattle.sgf_go.specs.Setup.{Part, ◌then◌, GoesOn, Skips, For, Sets, SetsValue, SetsValues, SetsProperty, cell_set, SetsSide, TurnsTo, side_of, TurnsByProperty, Choice, MovesAsChosen, moved, with_taken, placed, Moves, MovesProperty, mover, first_value, IsRead, NodePart, TerritoryOf, TerritoryPart, Unless, LinePart, ends_before, value_of, root, is_go, IsBoardSize, empty_board, EndsMainLine, FromKomi, FromSize, FromGame}
use Rattle.sgf_go.specs.Setup.Choice.{pass, stone_at, nothing}
use Rattle.sgf_go.proofs.SealLemmas.{territory_size}
use Rattle.sgf_go.proofs.SealLemmas as seals

pub record SameSize (g h : Board) : Type 0 where
  pub columns : h.columns ≡ g.columns
  pub rows : h.rows ≡ g.rows
  pub long : length h.cells ≡ length g.cells

same_here : (g : Board) → SameSize g g
same_here g = record { columns = refl; rows = refl; long = refl }

same_along : (g h k : Board) → SameSize g h → SameSize h k → SameSize g k
same_along g h k a b = record { columns = b.columns ∙ a.columns; rows = b.rows ∙ a.rows; long = b.long ∙ a.long }

-- behind a part the board has the size that it had; a point marked twice is on the board, and no part finds a stone without liberty
abbrev pub Fine : Replay → Result Replay SetupFault → Type 0
Fine s (Ok t) = SameSize s.board t.board
Fine s (Err (MarkedTwice p)) = p < length s.board.cells
Fine s (Err (NoLiberty p)) = ⊥
Fine s (Err f) = Unit {0}

Keeps : Part → Type 0
Keeps P = (s : Replay) (r : Result Replay SetupFault) → P s r → Fine s r

pub fine_is : (s : Replay) (r q : Result Replay SetupFault) → r ≡ q → Fine s q → Fine s r
fine_is s r q e h = subst (Fine s) (sym e) h

fine_along : (s u : Replay) (r : Result Replay SetupFault) → SameSize s.board u.board → Fine u r → Fine s r
fine_along s u (Ok t) a b = same_along s.board u.board t.board a b
fine_along s u (Err (NoLiberty p)) a b = b
fine_along s u (Err WrongGame) a b = tt
fine_along s u (Err BadSize) a b = tt
fine_along s u (Err BadKomi) a b = tt
fine_along s u (Err (BadPoint n)) a b = tt
fine_along s u (Err BadSide) a b = tt
fine_along s u (Err (Occupied n)) a b = tt
fine_along s u (Err (Suicide n)) a b = tt
fine_along s u (Err (MarkedTwice p)) a b = subst (λ n. p < n) a.long b

keeps_skip : Keeps Skips
unfolding Keeps
keeps_skip s r h = fine_is s r (Ok s) h (same_here s.board)

goes_on : (Q : Part) → Keeps Q → (s : Replay) (m r : Result Replay SetupFault) → Fine s m → GoesOn Q m r → Fine s r
unfolding Keeps
goes_on Q q s (Ok u) r p g = fine_along s u r p (q u r g)
goes_on Q q s (Err f) r p g = fine_is s r (Err f) g p

keeps_then : (P Q : Part) → Keeps P → Keeps Q → Keeps (P then Q)
unfolding Keeps
keeps_then P Q p q s r h = goes_on Q q s h.0 r (p s h.0 h.1) h.2

keeps_for : (A : Type 0) (P : A → Part) → ((x : A) → Keeps (P x)) → (xs : List A) → Keeps (For P xs)
keeps_for A P p [] = keeps_skip
keeps_for A P p (x ∷ xs) = keeps_then (P x) (For P xs) (p x) (keeps_for A P p xs)

keeps_sets : (node : ℕ) (c : Cell) (o : Option Rectangle) → Keeps (Sets node c o)
unfolding Keeps
keeps_sets node c None s r h = fine_is s r (Err (BadPoint node)) h tt
keeps_sets node c (Some area) s r h = fine_is s r (Ok (record s { board = h.0 })) h.2 (record { columns = h.1.columns; rows = h.1.rows; long = h.1.long })

keeps_value : (node : ℕ) (c : Cell) (v : List ℕ) → Keeps (SetsValue node c v)
unfolding Keeps
keeps_value node c [] s r h = keeps_skip s r h
keeps_value node c (b ∷ bs) s r h = keeps_sets node c h.0 s r h.2

keeps_values : (node : ℕ) (c : Option Cell) (vs : List (List ℕ)) → Keeps (SetsValues node c vs)
keeps_values node None vs = keeps_skip
keeps_values node (Some c) vs = keeps_for (List ℕ) (λ v. SetsValue node c (trimmed v)) (λ v. keeps_value node c (trimmed v)) vs

keeps_turns : (o : Option Colour) → Keeps (SetsSide o)
unfolding Keeps
keeps_turns None s r h = fine_is s r (Err BadSide) h tt
keeps_turns (Some c) s r h = fine_is s r (Ok (record s { side = c })) h (same_here s.board)

keeps_turns_to : (o : Option (List ℕ)) → Keeps (TurnsTo o)
keeps_turns_to None = keeps_skip
keeps_turns_to (Some text) = keeps_turns (side_of text)

keeps_side : (turn : Option Colour) (ps : List PropertyText) → Keeps (TurnsByProperty turn ps)
keeps_side None ps = keeps_turns_to (value_of (codes "PL") ps)
keeps_side (Some c) ps = keeps_skip

taken_board : (c : Colour) (n : ℕ) (s : Replay) → (with_taken c n s).board ≡ s.board
taken_board colour.Black n s = refl
taken_board colour.White n s = refl

keeps_placed : (node : ℕ) (c : Colour) (p : ℕ) (s : Replay) (h : Board) (answer : Result ℕ PlaceError) → PlacesStone s.board p c h answer → Fine s (placed node c s h answer)
keeps_placed node c p s h (Ok n) a =
    subst (λ b. SameSize s.board b) (sym (taken_board c n (record s { board = h })))
    (record { columns = a.0.0.columns; rows = a.0.0.rows; long = a.0.1.without.long ∙ length-set s.board.cells p (stone c) })
keeps_placed node c p s h (Err place.Occupied) a = tt
keeps_placed node c p s h (Err place.Suicide) a = tt

keeps_chooses : (node : ℕ) (c : Colour) (k : Choice) → Keeps (MovesAsChosen node c k)
unfolding Keeps
keeps_chooses node c pass s r h = fine_is s r (Ok (moved c s)) h (same_here s.board)
keeps_chooses node c nothing s r h = fine_is s r (Err (BadPoint node)) h tt
keeps_chooses node c (stone_at p) s r h = fine_is s r (placed node c s h.0 h.1) h.3 (keeps_placed node c p s h.0 h.1 h.2)

keeps_moves : (node : ℕ) (c : Option Colour) (text : List ℕ) → Keeps (Moves node c text)
unfolding Keeps
keeps_moves node None text s r h = keeps_skip s r h
keeps_moves node (Some c) text s r h = keeps_chooses node c h.0 s r h.2

keeps_read : (node : ℕ) → Keeps (IsRead node)
unfolding Keeps
keeps_read node s r h = fine_is s r (Ok (record s { last = Some node })) h (same_here s.board)

keeps_node : (turn : Option Colour) (node : ℕ) (ps : List PropertyText) → Keeps (NodePart turn node ps)
keeps_node turn node ps = keeps_then (For (SetsProperty node) ps) (TurnsByProperty turn ps then For (MovesProperty node) ps then IsRead node)
    (keeps_for PropertyText (SetsProperty node) (λ p. keeps_values node (cell_set p) p.values) ps)
    (keeps_then (TurnsByProperty turn ps) (For (MovesProperty node) ps then IsRead node) (keeps_side turn ps)
    (keeps_then (For (MovesProperty node) ps) (IsRead node)
    (keeps_for PropertyText (MovesProperty node) (λ p. keeps_moves node (mover p) (first_value p)) ps) (keeps_read node)))

keeps_unless : (b : Bool) (P : Part) → Keeps P → Keeps (Unless b P)
keeps_unless true P p = keeps_skip
keeps_unless false P p = p

keeps_line : (after : Option ℕ) (turn : Option Colour) (node : ℕ) (line : List (List PropertyText)) → Keeps (LinePart after turn node line)
unfolding Keeps
keeps_line after turn node [] s r h = keeps_skip s r h
keeps_line after turn node (ps ∷ line) s r h =
    keeps_unless (ends_before after ps s.played) (NodePart turn node ps then LinePart after turn (node + 1) line)
    (keeps_then (NodePart turn node ps) (LinePart after turn (node + 1) line) (keeps_node turn node ps) (keeps_line after turn (node + 1) line)) s r h

-- no territory has a fault of the end of the line
no_end : (asked : Bool) (line : List (List PropertyText)) (s : Replay) (p : ℕ) → TerritoryPart asked line s (Err (NoLiberty p)) → ⊥
no_end asked line s p = by_asked asked
  where
    by_last : (last : Option ℕ) → TerritoryOf line last s (Err (NoLiberty p)) → ⊥
    by_last None e = cc
    by_last (Some node) (inl (bad, e)) = cc
    by_last (Some node) (inr (good, (q, first, e))) = cc

    by_asked : (asked : Bool) → TerritoryPart asked line s (Err (NoLiberty p)) → ⊥
    by_asked false e = cc
    by_asked true h = by_last s.last h

keeps_territory : (asked : Bool) (line : List (List PropertyText)) → Keeps (TerritoryPart asked line)
unfolding Keeps
keeps_territory asked line s (Ok t) h = let so = territory_size asked line s t h in record { columns = so.columns; rows = so.rows; long = so.long }
keeps_territory asked line s (Err (NoLiberty p)) h = no_end asked line s p h
keeps_territory asked line s (Err WrongGame) h = tt
keeps_territory asked line s (Err BadSize) h = tt
keeps_territory asked line s (Err BadKomi) h = tt
keeps_territory asked line s (Err (BadPoint n)) h = tt
keeps_territory asked line s (Err BadSide) h = tt
keeps_territory asked line s (Err (Occupied n)) h = tt
keeps_territory asked line s (Err (Suicide n)) h = tt
keeps_territory asked line s (Err (MarkedTwice p)) h = seals.twice_on_board asked line s p h

-- so do the parts of a main line, from an empty board on
pub fine_line : (settings : Settings) (line : List (List PropertyText)) (e : Extent) (m : Result Replay SetupFault)
    → (LinePart settings.after settings.turn 0 line then TerritoryPart settings.territory line) (empty_board e) m → Fine (empty_board e) m
unfolding Keeps
fine_line settings line e m h =
    keeps_then (LinePart settings.after settings.turn 0 line) (TerritoryPart settings.territory line) (keeps_line settings.after settings.turn 0 line)
    (keeps_territory settings.territory line) (empty_board e) m h

-- a board of at most 25 columns and rows, with a cell for each point
pub record IsSmall (g : Board) : Type 0 where
  pub columns : g.columns ≤ 25
  pub rows : g.rows ≤ 25
  pub long : length g.cells ≡ g.columns * g.rows

pub few_cells : (g : Board) → IsSmall g → length g.cells ≤ 625
few_cells g small = omega (arith, small.long, area_most g.columns g.rows small.columns small.rows)

small_extent : (o : Option (List ℕ)) (e : Extent) → IsBoardSize o e → (e.columns ≤ 25) × (e.rows ≤ 25)
small_extent None e is = (omega (arith, ap (λ z. z.columns) is), omega (arith, ap (λ z. z.rows) is))
small_extent (Some text) _ (square n side) = (side.most, side.most)
small_extent (Some text) _ (sides before behind columns rows is wide high) = (wide.most, high.most)

module _ (settings : Settings) (line : List (List PropertyText)) (setup : Setup) where
  small_end : (komi : ℤ) (e : Extent) (m : Result Replay SetupFault) → (e.columns ≤ 25) × (e.rows ≤ 25) → Fine (empty_board e) m → EndsMainLine settings komi m (Ok setup) → IsSmall setup.board
  small_end komi e (Err f) few fine ends = absurd cc
  small_end komi e (Ok s) few fine (settled, is) = subst (λ z. IsSmall z.board) (sym is) (record {
    columns = omega (arith, few.0, fine.columns);
    rows = omega (arith, few.1, fine.rows);
    long = fine.long ∙ length-replicate (e.columns * e.rows) cell.Empty ∙ sym (ap₂ (λ x y. x * y) fine.columns fine.rows);
  })

  small_komi : (e : Extent) (o : Option ℤ) → (e.columns ≤ 25) × (e.rows ≤ 25) → FromKomi settings line e o (Ok setup) → IsSmall setup.board
  small_komi e None few h = absurd cc
  small_komi e (Some k) few h = small_end k e h.0 few (fine_line settings line e h.0 h.1) h.2

  small_size : (o : Option Extent) → Says (IsBoardSize (value_of (codes "SZ") (root line))) o → FromSize settings line o (Ok setup) → IsSmall setup.board
  small_size None said h = absurd cc
  small_size (Some e) said h = small_komi e h.0 (small_extent (value_of (codes "SZ") (root line)) e said) h.2

  small_game : (b : Bool) → FromGame settings line b (Ok setup) → IsSmall setup.board
  small_game false h = absurd cc
  small_game true h = small_size h.0 h.1 h.2

-- the board of a position that a file gives
pub small_setup : (file : List ℕ) (settings : Settings) (setup : Setup) → Reads file settings (Ok setup) → IsSmall setup.board
small_setup file settings setup (line, tree, gives) = small_game settings line setup (is_go (value_of (codes "GM") (root line))) gives
