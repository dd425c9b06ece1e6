-- The position that a main line gives, or the first thing that is wrong with it.
use Rattle.std.specs.Prelude.{◌≡◌, ℕ, ◌+◌, ◌*◌, ◌<◌, ◌≤◌, List, [], ◌∷◌, Bool, true, false, ◌&&◌, ◌||◌, ◌==◌, nat_le, Option, Some, None, Result, Ok, Err, if◌then◌else◌, is_some, codes, length, get_or, replicate, ℤ, pos}
use Rattle.std.specs.Str.{bytes_eq}
use Rattle.sgf_tree.specs.Grammar.{PropertyText}
use Rattle.sgf_tree.specs.Reading.{line_text}
use Rattle.sgf_tree.specs.declared.tree.Tree.{Tree}
use Rattle.go_grid.specs.declared.grid.Colour.{Colour}
use Rattle.go_grid.specs.declared.grid.Colour.TheVariants as colour
use Rattle.go_grid.specs.declared.grid.Cell.{Cell}
use Rattle.go_grid.specs.declared.grid.Cell.TheVariants as cell
use Rattle.go_grid.specs.Board.{Board, cell_at, other}
use Rattle.go_grid.specs.Chain.{IsChoked, IsSettled}
use Rattle.go_play.specs.Place.{PlacesStone}
use Rattle.go_play.specs.declared.placements.PlaceError.{PlaceError}
use Rattle.go_play.specs.declared.placements.PlaceError.TheVariants as place
use Rattle.sgf_go.specs.Komi.{IsKomi}
use Rattle.sgf_go.specs.Values.{trimmed, Rectangle, Says, IsArea, IsInRectangle, Extent, IsSize}
use Rattle.sgf_go.specs.Territory.{MarksTerritory}
use Rattle.go_grid.specs.Name.{IsName}
use Rattle.sgf_go.specs.declared.replay.Replay.{Replay}
use Rattle.sgf_go.specs.declared.settings.Settings.{Settings}
use Rattle.go_play.specs.Setup.{Setup}
use Rattle.sgf_go.specs.declared.fault.SetupFault.{SetupFault}
use Rattle.sgf_go.specs.declared.fault.SetupFault.TheVariants.{WrongGame, BadSize, BadKomi, BadPoint, BadSide, Occupied, Suicide, NoLiberty}
use Rattle.sgf_go.specs.declared.fault.GoError.{GoError}
use Rattle.sgf_go.specs.declared.fault.GoError.TheVariants.{Fault, Memory}

-- a part of a line: from how things stand to how they stand behind it, or to the first fault
abbrev pub Part : Type 1
Part = Replay → Result Replay SetupFault → Type 0

-- a part goes on from the outcome of the one before it; a fault ends the line
abbrev pub GoesOn : Part → Result Replay SetupFault → Result Replay SetupFault → Type 0
GoesOn P (Ok s) r = P s r
GoesOn P (Err f) r = r ≡ Err f

-- what a change of how things stand comes to: a part that is done, or refused with a fault
abbrev pub Follows : Part → Replay → Replay → Result (Unit {0}) SetupFault → Type 0
Follows P s t (Ok u) = P s (Ok t)
Follows P s t (Err f) = P s (Err f)

-- the prisoners are few for the moves played, so that they can be counted
pub record Counts (s : Replay) : Type 0 where
  pub black : s.black ≤ 626 * s.played
  pub white : s.white ≤ 626 * s.played

-- one part and then another
abbrev pub ◌then◌ : Part → Part → Part
(P then Q) s r = (m : Result Replay SetupFault) × P s m × GoesOn Q m r

infixr 50 ◌then◌
-- a part that changes nothing
abbrev pub Skips : Part
Skips s r = r ≡ Ok s

-- a part for each of a list, in order
abbrev pub For : {A : Type 0} → (A → Part) → List A → Part
For P [] = Skips
For P (x ∷ xs) = P x then For P xs

-- the property has the name
abbrev pub is_named : PropertyText → List ℕ → Bool
is_named p name = bytes_eq p.name name

-- the first value of a property, trimmed; an empty text where it has none
abbrev pub first_value : PropertyText → List ℕ
first_value p = trimmed (get_or p.values 0 [])

-- the first value of the first of the properties that has the name, if one has
abbrev pub value_of : List ℕ → List PropertyText → Option (List ℕ)
value_of name [] = None
value_of name (p ∷ ps) = if is_named p name then Some (first_value p) else value_of name ps

-- `h` is `g` with each point of `In` set to the cell
pub record IsSet (g : Board) (In : ℕ → Type 0) (c : Cell) (h : Board) : Type 0 where
  pub columns : h.columns ≡ g.columns
  pub rows : h.rows ≡ g.rows
  pub declared : h.declared ≡ g.declared
  pub long : length h.cells ≡ length g.cells
  pub set : (p : ℕ) → p < length g.cells → In p → cell_at h p ≡ c
  pub kept : (p : ℕ) → ¬ In p → cell_at h p ≡ cell_at g p

-- the points of the rectangle are set to the cell, and a value that names none is a fault
abbrev pub Sets : ℕ → Cell → Option Rectangle → Part
Sets node c None s r = r ≡ Err (BadPoint node)
Sets node c (Some area) s r = (h : Board) × IsSet s.board (IsInRectangle s.board.columns area) c h × (r ≡ Ok (record s { board = h }))

-- the points that a value of AB, AW or AE names are set to the cell; an empty value names none
abbrev pub SetsValue : ℕ → Cell → List ℕ → Part
SetsValue node c [] = Skips
SetsValue node c (b ∷ bs) = λ s r. (area : Option Rectangle) × Says (IsArea s.board.columns s.board.rows (b ∷ bs)) area × Sets node c area s r

-- the cell to which a property sets points, if it is one of AB, AW and AE
abbrev pub cell_set : PropertyText → Option Cell
cell_set p =
    if is_named p (codes "AB") then Some cell.Black
    else (if is_named p (codes "AW") then Some cell.White
    else (if is_named p (codes "AE") then Some cell.Empty
    else None))

-- the values of a property that sets its points to a cell
abbrev pub SetsValues : ℕ → Option Cell → List (List ℕ) → Part
SetsValues node None values = Skips
SetsValues node (Some c) values = For (λ v. SetsValue node c (trimmed v)) values

-- a property sets its points, if it is one of AB, AW and AE
abbrev pub SetsProperty : ℕ → PropertyText → Part
SetsProperty node p = SetsValues node (cell_set p) p.values

-- the side that a text names: Black where it begins with `B` or `b`, White where it begins with `W` or `w`
abbrev pub side_of : List ℕ → Option Colour
side_of [] = None
side_of (b ∷ bs) = if (b == 66) || (b == 98) then Some colour.Black else (if (b == 87) || (b == 119) then Some colour.White else None)

-- the side is to move, and a text that names none is a fault
abbrev pub SetsSide : Option Colour → Part
SetsSide None s r = r ≡ Err BadSide
SetsSide (Some c) s r = r ≡ Ok (record s { side = c })

-- the side that the text of PL names is to move; without PL nothing changes
abbrev pub TurnsTo : Option (List ℕ) → Part
TurnsTo None = Skips
TurnsTo (Some text) = SetsSide (side_of text)

-- how things stand with stones more that the colour has taken
abbrev pub with_taken : Colour → ℕ → Replay → Replay
with_taken colour.Black n s = record s { black = s.black + n }
with_taken colour.White n s = record s { white = s.white + n }

-- how things stand with a move of the colour more: the other colour is to move
abbrev pub moved : Colour → Replay → Replay
moved c s = record s { side = other c; played = s.played + 1 }

-- how things stand behind a move at a point, by what placing its stone answers
abbrev pub placed : ℕ → Colour → Replay → Board → Result ℕ PlaceError → Result Replay SetupFault
placed node c s h (Ok taken) = Ok (moved c (with_taken c taken (record s { board = h })))
placed node c s h (Err place.Occupied) = Err (Occupied node)
placed node c s h (Err place.Suicide) = Err (Suicide node)

-- what the text of a move says
pub data Choice : Type 0 where
  pass : Choice
  stone_at : ℕ → Choice
  nothing : Choice

-- a pass is an empty text, or `tt` where the board has at most 19 columns and rows
abbrev pub is_pass : Board → List ℕ → Bool
is_pass g [] = true
is_pass g (b ∷ bs) = bytes_eq (b ∷ bs) (codes "tt") && (nat_le g.columns 19 && nat_le g.rows 19)

-- what a text says as a move on a board
abbrev pub IsMoveText : Board → List ℕ → Choice → Type 0
IsMoveText g text pass = is_pass g text ≡ true
IsMoveText g text (stone_at p) = (is_pass g text ≡ false) × IsName g.columns g.rows text p
IsMoveText g text nothing = (is_pass g text ≡ false) × ((p : ℕ) → ¬ IsName g.columns g.rows text p)

-- the colour moves as it has chosen, and where its text says no move there is a fault
abbrev pub MovesAsChosen : ℕ → Colour → Choice → Part
MovesAsChosen node c pass s r = r ≡ Ok (moved c s)
MovesAsChosen node c nothing s r = r ≡ Err (BadPoint node)
MovesAsChosen node c (stone_at p) s r = (h : Board) × (answer : Result ℕ PlaceError) × PlacesStone s.board p c h answer × (r ≡ placed node c s h answer)

-- the colour that moves by a property: Black by B, White by W
abbrev pub mover : PropertyText → Option Colour
mover p = if is_named p (codes "B") then Some colour.Black else (if is_named p (codes "W") then Some colour.White else None)

-- the colour moves as the text says; without a colour nothing changes
abbrev pub Moves : ℕ → Option Colour → List ℕ → Part
Moves node None text = Skips
Moves node (Some c) text = λ s r. (x : Choice) × IsMoveText s.board text x × MovesAsChosen node c x s r

-- a colour moves as the first value of the property says, if it is one of B and W
abbrev pub MovesProperty : ℕ → PropertyText → Part
MovesProperty node p = Moves node (mover p) (first_value p)

-- the side to move is that of PL, where the settings give no turn
abbrev pub TurnsByProperty : Option Colour → List PropertyText → Part
TurnsByProperty None ps = TurnsTo (value_of (codes "PL") ps)
TurnsByProperty (Some c) ps = Skips

-- the node is the last that has been read
abbrev pub IsRead : ℕ → Part
IsRead node s r = r ≡ Ok (record s { last = Some node })

-- a node: its setup, then PL, then its moves
abbrev pub NodePart : Option Colour → ℕ → List PropertyText → Part
NodePart turn node ps = For (SetsProperty node) ps then TurnsByProperty turn ps then For (MovesProperty node) ps then IsRead node

-- whether some property moves
abbrev pub has_move : List PropertyText → Bool
has_move ps = is_some (value_of (codes "B") ps) || is_some (value_of (codes "W") ps)

-- whether the line ends before a node: a node with a move, where the moves that the settings ask for have been played
abbrev pub ends_before : Option ℕ → List PropertyText → ℕ → Bool
ends_before None ps played = false
ends_before (Some n) ps played = has_move ps && nat_le n played

-- a part that is left out where the condition holds
abbrev pub Unless : Bool → Part → Part
Unless true P = Skips
Unless false P = P

-- the nodes of a line, of which the first has this number, up to where the settings end the line
abbrev pub LinePart : Option ℕ → Option Colour → ℕ → List (List PropertyText) → Part
LinePart after turn node [] = Skips
LinePart after turn node (ps ∷ line) = λ s. Unless (ends_before after ps s.played) (NodePart turn node ps then LinePart after turn (node + 1) line) s

-- the properties of node 0, none where the line has no node
abbrev pub root : List (List PropertyText) → List PropertyText
root line = get_or line 0 []

-- whether GM is absent or `1`
abbrev pub is_go : Option (List ℕ) → Bool
is_go None = true
is_go (Some text) = bytes_eq text (codes "1")

-- the size of the board: 19 by 19 where no text says it
abbrev pub IsBoardSize : Option (List ℕ) → Extent → Type 0
IsBoardSize None e = e ≡ record { columns = 19; rows = 19 }
IsBoardSize (Some text) e = IsSize text e

-- the komi in half-points: by the settings, or else by the text, and 0 where there is none
abbrev pub IsKomiFor : Option ℤ → Option (List ℕ) → ℤ → Type 0
IsKomiFor (Some given) text k = k ≡ given
IsKomiFor None None k = k ≡ pos 0
IsKomiFor None (Some []) k = k ≡ pos 0
IsKomiFor None (Some (b ∷ bs)) k = IsKomi (b ∷ bs) k

-- how things stand before node 0: an empty board, nothing taken, played or read, and Black to move
abbrev pub empty_board : Extent → Replay
empty_board e = record {
  board = record { columns = e.columns; rows = e.rows; cells = replicate (e.columns * e.rows) cell.Empty; declared = [] };
  black = 0;
  white = 0;
  side = colour.Black;
  played = 0;
  last = None;
}

-- the territory that a node of the line marks; where there is no node nothing is marked
abbrev pub TerritoryOf : List (List PropertyText) → Option ℕ → Part
TerritoryOf line None = Skips
TerritoryOf line (Some node) = MarksTerritory node (get_or line node [])

-- the territory that the last node read marks, where the settings ask for it
abbrev pub TerritoryPart : Bool → List (List PropertyText) → Part
TerritoryPart false line = Skips
TerritoryPart true line = λ s. TerritoryOf line s.last s

-- the side that is given, or `c` where none is
abbrev pub or_side : Option Colour → Colour → Colour
or_side None c = c
or_side (Some t) c = t

-- the position at the end of the line, with what the settings add
abbrev pub setup_of : Settings → ℤ → Replay → Setup
setup_of settings komi s = record {
  board = s.board;
  black_prisoners = s.black + settings.black_prisoners;
  white_prisoners = s.white + settings.white_prisoners;
  komi_halves = komi;
  side = or_side settings.turn s.side;
}

-- `p` is the lowest stone whose chain has no liberty
pub record IsFirstChoked (g : Board) (p : ℕ) : Type 0 where
  pub choked : IsChoked g p
  pub lowest : (q : ℕ) → q < p → ¬ IsChoked g q

-- the end of the line: the board is settled, or its lowest stone without a liberty is named
abbrev pub EndsMainLine : Settings → ℤ → Result Replay SetupFault → Result Setup SetupFault → Type 0
EndsMainLine settings komi (Err f) r = r ≡ Err f
EndsMainLine settings komi (Ok s) (Ok setup) = IsSettled s.board × (setup ≡ setup_of settings komi s)
EndsMainLine settings komi (Ok s) (Err f) = (p : ℕ) × IsFirstChoked s.board p × (f ≡ NoLiberty p)

-- what a main line gives under the settings, from the komi on; a text of KM that is no komi is a fault
abbrev pub FromKomi : Settings → List (List PropertyText) → Extent → Option ℤ → Result Setup SetupFault → Type 0
FromKomi settings line e None r = r ≡ Err BadKomi
FromKomi settings line e (Some komi) r = (m : Result Replay SetupFault)
    × (LinePart settings.after settings.turn 0 line then TerritoryPart settings.territory line) (empty_board e) m
    × EndsMainLine settings komi m r

-- what a main line gives under the settings, from the size on; a text of SZ that is no size is a fault
abbrev pub FromSize : Settings → List (List PropertyText) → Option Extent → Result Setup SetupFault → Type 0
FromSize settings line None r = r ≡ Err BadSize
FromSize settings line (Some e) r = (komi : Option ℤ) × Says (IsKomiFor settings.komi (value_of (codes "KM") (root line))) komi × FromKomi settings line e komi r

-- what a main line gives under the settings, by whether its game is Go; another game is a fault
abbrev pub FromGame : Settings → List (List PropertyText) → Bool → Result Setup SetupFault → Type 0
FromGame settings line false r = r ≡ Err WrongGame
FromGame settings line true r = (size : Option Extent) × Says (IsBoardSize (value_of (codes "SZ") (root line))) size × FromSize settings line size r

-- what a main line gives under the settings
abbrev pub Gives : Settings → List (List PropertyText) → Result Setup SetupFault → Type 0
Gives settings line r = FromGame settings line (is_go (value_of (codes "GM") (root line))) r

-- a main line gives at most one position or fault under the settings
abbrev pub OnePosition : Type 0
OnePosition = (settings : Settings) (line : List (List PropertyText)) (a b : Result Setup SetupFault) → Gives settings line a → Gives settings line b → a ≡ b

-- what is answered of a main line under the settings; want of memory may always be answered
abbrev pub AnswersPosition : Tree → Settings → Result Setup GoError → Type 0
AnswersPosition tree settings (Ok setup) = Gives settings (line_text tree) (Ok setup)
AnswersPosition tree settings (Err (Fault f)) = Gives settings (line_text tree) (Err f)
AnswersPosition tree settings (Err (Memory e)) = Unit {0}
