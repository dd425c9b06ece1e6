-- The points that players mark as territory, and the board on which they are sealed and declared.
use Rattle.std.specs.Prelude.{◌≡◌, ◌≢◌, ℕ, ◌+◌, ◌<◌, ◌⊎◌, List, [], Bool, true, Any, Option, Some, None, Result, Ok, Err, codes, length, count_by}
use Rattle.std.specs.Str.{bytes_eq}
use Rattle.sgf_tree.specs.Grammar.{PropertyText}
use Rattle.go_grid.specs.declared.grid.Colour.{Colour}
use Rattle.go_grid.specs.declared.grid.Colour.TheVariants.{Black, White}
use Rattle.go_grid.specs.declared.grid.Cell.{Cell}
use Rattle.go_grid.specs.declared.grid.Cell.TheVariants as cell
use Rattle.go_grid.specs.Board.{Board, HasStone, NextTo, cell_at, declared_at, other, stone}
use Rattle.go_grid.specs.Marks.{Marks}
use Rattle.sgf_go.specs.Values.{trimmed, Rectangle, IsArea, IsInRectangle}
use Rattle.sgf_go.specs.declared.replay.Replay.{Replay}
use Rattle.sgf_go.specs.declared.fault.SetupFault.{SetupFault}
use Rattle.sgf_go.specs.declared.fault.SetupFault.TheVariants.{BadPoint, MarkedTwice}

-- the text says a rectangle of the board, and the point lies in it
abbrev pub Names : Board → ℕ → List ℕ → Type 0
Names g p text = (r : Rectangle) × IsArea g.columns g.rows text r × IsInRectangle g.columns r p

-- the text isn't empty and says no rectangle of the board
abbrev pub NamesNothing : Board → List ℕ → Type 0
NamesNothing g text = (text ≢ []) × ((r : Rectangle) → ¬ IsArea g.columns g.rows text r)

-- the property that marks points for the colour
abbrev pub mark_name : Colour → List ℕ
mark_name Black = codes "TB"
mark_name White = codes "TW"

-- the property has the name, and one of its values is such a text, trimmed
abbrev pub HasValue : List ℕ → (List ℕ → Type 0) → PropertyText → Type 0
HasValue name Is p = (bytes_eq p.name name ≡ true) × Any (λ v. Is (trimmed v)) p.values

-- a value that marks points for some colour names nothing
abbrev pub HasBadMark : List PropertyText → Board → Type 0
HasBadMark ps g = (c : Colour) × Any (HasValue (mark_name c) (NamesNothing g)) ps

-- which points are marked for which colour
abbrev pub Marking : Type 1
Marking = Colour → ℕ → Type 0

-- the points that a node marks: those that its values name for the colour and that hold no stone of it
abbrev pub IsMarkedFor : List PropertyText → Board → Marking
IsMarkedFor ps g c p = (p < length g.cells) × Any (HasValue (mark_name c) (Names g p)) ps × ¬ HasStone g c p

-- the point is marked for both colours
abbrev pub IsMarkedTwice : Marking → ℕ → Type 0
IsMarkedTwice M p = M Black p × M White p

-- `p` is the lowest such point
pub record IsFirstTwice (M : Marking) (p : ℕ) : Type 0 where
  pub twice : IsMarkedTwice M p
  pub lowest : (q : ℕ) → q < p → ¬ IsMarkedTwice M q

-- the point is the colour's: marked for it, or with a stone of it that isn't marked for the other colour
abbrev pub IsHeldBy : Board → Marking → Colour → ℕ → Type 0
IsHeldBy g M c p = M c p ⊎ (HasStone g c p × ¬ M (other c) p)

-- the edge of the points marked for a colour: those next to a point of the board that isn't the colour's
abbrev pub IsOnEdge : Board → Marking → Marking
IsOnEdge g M c p = M c p × ((q : ℕ) × (q < length g.cells) × NextTo g.columns p q × ¬ IsHeldBy g M c q)

-- what a point becomes: on the edge a stone of the colour; marked elsewhere, empty and declared for the colour; else what it was
pub record Becomes (M Edge : Marking) (p : ℕ) (was now : Cell) (declared : Option Colour) : Type 0 where
  pub edge : (c : Colour) → Edge c p → (now ≡ stone c) × (declared ≡ None)
  pub inner : (c : Colour) → M c p → ¬ Edge c p → (now ≡ cell.Empty) × (declared ≡ Some c)
  pub rest : ((c : Colour) → ¬ M c p) → (now ≡ was) × (declared ≡ None)

-- `h` is `g` with the marked points sealed
pub record IsSealed (M : Marking) (g h : Board) : Type 0 where
  pub columns : h.columns ≡ g.columns
  pub rows : h.rows ≡ g.rows
  pub long : length h.cells ≡ length g.cells
  pub listed : length h.declared ≡ length g.cells
  pub each : (p : ℕ) → p < length g.cells → Becomes M (IsOnEdge g M) p (cell_at g p) (cell_at h p) (declared_at h p)

-- so many points there are
abbrev pub IsNumberOf : (ℕ → Type 0) → ℕ → Type 0
IsNumberOf P n = (marks : List Bool) × Marks marks P × (n ≡ count_by (λ m. m) marks)

-- a stone of the other colour on a point that is marked for the colour
abbrev pub IsDead : Board → Marking → Marking
IsDead g M c p = M c p × HasStone g (other c) p

-- the prisoners that a colour gets: one for each point of the edge, and one for each dead stone
pub record IsGain (g : Board) (M : Marking) (c : Colour) (n : ℕ) : Type 0 where
  pub stones : ℕ
  pub taken : ℕ
  pub edge : IsNumberOf (IsOnEdge g M c) stones
  pub dead : IsNumberOf (IsDead g M c) taken
  pub value : n ≡ stones + taken

-- how things stand once the marked points are sealed
pub record Seals (M : Marking) (s t : Replay) : Type 0 where
  pub board : Board
  pub black : ℕ
  pub white : ℕ
  pub sealed : IsSealed M s.board board
  pub black_gain : IsGain s.board M Black black
  pub white_gain : IsGain s.board M White white
  pub value : t ≡ record s { board = board; black = s.black + black; white = s.white + white }

-- what the marks of a node come to: a value that names nothing, else the lowest point marked twice, else the sealed board
abbrev pub MarksTerritory : ℕ → List PropertyText → Replay → Result Replay SetupFault → Type 0
MarksTerritory node ps s (Ok t) = (¬ HasBadMark ps s.board)
    × ((p : ℕ) → ¬ IsMarkedTwice (IsMarkedFor ps s.board) p) × Seals (IsMarkedFor ps s.board) s t
MarksTerritory node ps s (Err f) = (HasBadMark ps s.board × (f ≡ BadPoint node))
    ⊎ ((¬ HasBadMark ps s.board) × ((p : ℕ) × IsFirstTwice (IsMarkedFor ps s.board) p × (f ≡ MarkedTwice p)))
