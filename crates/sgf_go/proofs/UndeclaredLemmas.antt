-- No part of a line declares a point.
use Rattle.std.proofs.Common.{◌≡◌, ℕ, ◌+◌, List, [], ◌∷◌, inl, inr, Bool, true, false, Some, None, ap, subst, sym, ◌∙◌}
use Rattle.std.specs.Prelude.{Option, Result, Ok, Err, codes}
use Rattle.go_grid.specs.declared.grid.Colour.{Colour}
use Rattle.go_grid.specs.declared.grid.Colour.TheVariants.{Black, White}
use Rattle.go_grid.specs.declared.grid.Cell.{Cell}
use Rattle.go_grid.specs.Board.{Board, DeclaresNothing, IsClosedOff}
use Rattle.go_grid.specs.Chain.{IsChoked, IsFirstUnsettled, IsUnsettled}
use Rattle.go_grid.proofs.DeclaredLemmas.{none_declared}
use Rattle.go_play.specs.Place.{PlacesStone}
use Rattle.go_play.specs.declared.placements.PlaceError.{PlaceError}
use Rattle.go_play.specs.declared.placements.PlaceError.TheVariants as place
use Rattle.sgf_tree.specs.Grammar.{PropertyText}
use Rattle.sgf_go.specs.Values.{Rectangle, Extent, trimmed}
use Rattle.sgf_go.specs.Setup.{Part, ◌then◌, For, Sets, SetsValue, SetsValues, SetsProperty, cell_set, SetsSide, TurnsTo, side_of, placed, Choice, pass, stone_at, nothing, MovesAsChosen, Moves, MovesProperty, mover, first_value, value_of, TurnsByProperty, NodePart, LinePart, Unless, ends_before, empty_board, IsFirstChoked, IsRead, Skips, TerritoryPart}
use Rattle.sgf_go.specs.declared.replay.Replay.{Replay}
use Rattle.sgf_go.specs.declared.fault.SetupFault.{SetupFault}

abbrev goes_well : Replay → Result Replay SetupFault
goes_well s = Ok s

same_result : {s t : Replay} → goes_well t ≡ goes_well s → t ≡ s
same_result e = cc

-- a part behind which the board declares what it declared before
abbrev Keeps : Part → Type 0
Keeps P = (s t : Replay) → P s (Ok t) → t.board.declared ≡ s.board.declared

keeps_nothing : Keeps Skips
keeps_nothing s t e = ap (λ x. x.board.declared) (same_result e)

keeps_then : (P Q : Part) → Keeps P → Keeps Q → Keeps (P then Q)
keeps_then P Q p q s t (Ok u, first, second) = q u t second ∙ p s u first
keeps_then P Q p q s t (Err f, first, second) = absurd (never second)
  where
    never : {t : Replay} {f : SetupFault} → goes_well t ≡ Err f → ⊥
    never e = cc

keeps_for : {A : Type 0} (P : A → Part) → ((x : A) → Keeps (P x)) → (xs : List A) → Keeps (For P xs)
keeps_for P k [] = keeps_nothing
keeps_for P k (x ∷ xs) = keeps_then (P x) (For P xs) (k x) (keeps_for P k xs)

keeps_area : (node : ℕ) (c : Cell) (area : Option Rectangle) → Keeps (Sets node c area)
keeps_area node c None s t e = cc
keeps_area node c (Some area) s t (h, set, e) = ap (λ x. x.board.declared) (same_result e) ∙ set.declared

keeps_value : (node : ℕ) (c : Cell) (text : List ℕ) → Keeps (SetsValue node c text)
keeps_value node c [] = keeps_nothing
keeps_value node c (b ∷ bs) = λ s t (area, says, sets). keeps_area node c area s t sets

keeps_property : (node : ℕ) (p : PropertyText) → Keeps (SetsProperty node p)
keeps_property node p = keeps_values (cell_set p)
  where
    keeps_values : (c : Option Cell) → Keeps (SetsValues node c p.values)
    keeps_values None = keeps_nothing
    keeps_values (Some c) = keeps_for (λ v. SetsValue node c (trimmed v)) (λ v. keeps_value node c (trimmed v)) p.values

keeps_side : (turn : Option Colour) (ps : List PropertyText) → Keeps (TurnsByProperty turn ps)
keeps_side (Some c) ps = keeps_nothing
keeps_side None ps = keeps_text (value_of (codes "PL") ps)
  where
    keeps_colour : (c : Option Colour) → Keeps (SetsSide c)
    keeps_colour None s t e = cc
    keeps_colour (Some c) s t e = ap (λ x. x.board.declared) (same_result e)

    keeps_text : (text : Option (List ℕ)) → Keeps (TurnsTo text)
    keeps_text None = keeps_nothing
    keeps_text (Some text) = keeps_colour (side_of text)

-- how things stand behind a placing
keeps_placed : (node : ℕ) (c : Colour) (p : ℕ) (s t : Replay) (h : Board) (answer : Result ℕ PlaceError) → PlacesStone s.board p c h answer
    → Ok t ≡ placed node c s h answer → t.board.declared ≡ s.board.declared
keeps_placed node Black p s t h (Ok n) at e = ap (λ x. x.board.declared) (same_result e) ∙ at.0.0.declared
keeps_placed node White p s t h (Ok n) at e = ap (λ x. x.board.declared) (same_result e) ∙ at.0.0.declared
keeps_placed node c p s t h (Err place.Occupied) at e = cc
keeps_placed node c p s t h (Err place.Suicide) at e = cc

keeps_chosen : (node : ℕ) (c : Colour) (x : Choice) → Keeps (MovesAsChosen node c x)
keeps_chosen node c pass s t e = ap (λ x. x.board.declared) (same_result e)
keeps_chosen node c nothing s t e = cc
keeps_chosen node c (stone_at p) s t (h, answer, at, e) = keeps_placed node c p s t h answer at e

keeps_move : (node : ℕ) (p : PropertyText) → Keeps (MovesProperty node p)
keeps_move node p = keeps_by (mover p)
  where
    keeps_by : (c : Option Colour) → Keeps (Moves node c (first_value p))
    keeps_by None = keeps_nothing
    keeps_by (Some c) = λ s t (x, says, moves). keeps_chosen node c x s t moves

keeps_read : (node : ℕ) → Keeps (IsRead node)
keeps_read node s t e = ap (λ x. x.board.declared) (same_result e)

keeps_node : (turn : Option Colour) (node : ℕ) (ps : List PropertyText) → Keeps (NodePart turn node ps)
keeps_node turn node ps =
    keeps_then (For (SetsProperty node) ps) (TurnsByProperty turn ps then For (MovesProperty node) ps then IsRead node)
    (keeps_for (SetsProperty node) (keeps_property node) ps)
    (keeps_then (TurnsByProperty turn ps) (For (MovesProperty node) ps then IsRead node) (keeps_side turn ps)
    (keeps_then (For (MovesProperty node) ps) (IsRead node) (keeps_for (MovesProperty node) (keeps_move node) ps) (keeps_read node)))

keeps_line : (after : Option ℕ) (turn : Option Colour) (node : ℕ) (line : List (List PropertyText)) → Keeps (LinePart after turn node line)
keeps_line after turn node [] = keeps_nothing
keeps_line after turn node (ps ∷ line) = λ s t part.
    keeps_unless (ends_before after ps s.played) (NodePart turn node ps then LinePart after turn (node + 1) line)
    (keeps_then (NodePart turn node ps) (LinePart after turn (node + 1) line) (keeps_node turn node ps) (keeps_line after turn (node + 1) line))
    s t part
  where
    keeps_unless : (b : Bool) (P : Part) → Keeps P → Keeps (Unless b P)
    keeps_unless true P k = keeps_nothing
    keeps_unless false P k = k

-- nothing is declared behind a line that begins on an empty board
pub line_declares_nothing : (after : Option ℕ) (turn : Option Colour) (line : List (List PropertyText)) (e : Extent) (s : Replay)
    → LinePart after turn 0 line (empty_board e) (Ok s) → DeclaresNothing s.board
line_declares_nothing after turn line e s part = none_declared s.board (keeps_line after turn 0 line (empty_board e) s part)

-- nor is it behind the territory, where that isn't asked for
pub end_declares_nothing : (asked : Bool) (after : Option ℕ) (turn : Option Colour) (line : List (List PropertyText)) (e : Extent) (s : Replay) → asked ≡ false
    → (LinePart after turn 0 line then TerritoryPart asked line) (empty_board e) (Ok s) → DeclaresNothing s.board
end_declares_nothing true after turn line e s asks part = absurd (not_true asks)
  where
    not_true : true ≡ false → ⊥
    not_true e = cc
end_declares_nothing false after turn line e s asks (Ok u, part, same) =
    subst (λ x. DeclaresNothing x.board) (sym (same_result same)) (line_declares_nothing after turn line e u part)
end_declares_nothing false after turn line e s asks (Err f, part, same) = cc

-- where the declared points are closed off, what is first unsettled is a stone without a liberty
pub first_choked : (g : Board) (p : ℕ) → IsClosedOff g → IsFirstUnsettled g p → IsFirstChoked g p
first_choked g p closed first = record {
  choked = choked first.unsettled;
  lowest = λ q lt choked'. first.lowest q lt (inl choked');
}
  where
    choked : IsUnsettled g p → IsChoked g p
    choked (inl stone) = stone
    choked (inr (c, declared, broken)) = absurd (broken (closed c p declared))
