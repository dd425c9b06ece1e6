-- Chains that no one stone takes, and where a stone may stand.
use Rattle.std.specs.Prelude.{◌≡◌, ◌≢◌, ℕ, ◌<◌, ◌↔◌, ◌⊎◌, List, Option, None, Some, length}
use Rattle.go_grid.specs.declared.grid.Cell.{Cell}
use Rattle.go_grid.specs.declared.grid.Cell.TheVariants as cell
use Rattle.go_grid.specs.declared.grid.Colour.{Colour}
use Rattle.go_grid.specs.declared.region.Touch.{Touch}
use Rattle.go_grid.specs.Board.{other}
use Rattle.local_play.specs.declared.places.Places.{Places}
use Rattle.local_play.specs.declared.local_move.LocalMove.{LocalMove}
use Rattle.local_play.specs.declared.sides.Side.{Side}
use Rattle.local_play.specs.declared.links.Reached.{Reached}
use Rattle.local_play.specs.declared.local_move.Turn.{Turn}
use Rattle.local_play.specs.LocalPlay.{held_at, Holds, IsLinked, IsBeside, IsLocalMove}
use Rattle.local_play.specs.inner.LocalPlay.{IsOpen, InLocalChain}
use Rattle.local_play.specs.Packed.{pack}
use Rattle.local_play.specs.Moves.{IsMoveFrom}
use Rattle.local_play.specs.Places.{Has}

-- the empty place is linked to the chain
abbrev pub IsLocalLiberty : List Touch → List Cell → Colour → ℕ → ℕ → Type 0
IsLocalLiberty touch cells c i a =
    (j : ℕ) × InLocalChain touch cells c i j × IsLinked touch j a × (held_at cells a ≡ cell.Empty)

-- the chain stands next to an alive stone of its colour
abbrev pub IsBacked : List Touch → List Cell → Colour → ℕ → Type 0
IsBacked touch cells c i = (j : ℕ) × InLocalChain touch cells c i j × IsBeside touch c j

-- the chain has two different liberties
pub record HasTwoLiberties (touch : List Touch) (cells : List Cell) (c : Colour)
    (i : ℕ) : Type 0 where
  pub one : ℕ
  pub two : ℕ
  pub apart : one ≢ two
  pub is_one : IsLocalLiberty touch cells c i one
  pub is_two : IsLocalLiberty touch cells c i two

-- the chain stands next to an alive stone of its colour or has two liberties, so that no one stone takes it
abbrev pub Lasts : List Touch → List Cell → Colour → ℕ → Type 0
Lasts touch cells c i = IsBacked touch cells c i ⊎ HasTwoLiberties touch cells c i

-- a chain of the other colour that is linked to the place doesn't last, so that a stone of the colour takes it
abbrev pub Takes : List Touch → List Cell → ℕ → Colour → Type 0
Takes touch cells p c =
    (i : ℕ) × IsLinked touch p i × Holds cells (other c) i × ¬ Lasts touch cells (other c) i

-- a chain of the colour that is linked to the place lasts
abbrev pub JoinsLasting : List Touch → List Cell → ℕ → Colour → Type 0
JoinsLasting touch cells p c =
    (i : ℕ) × IsLinked touch p i × Holds cells c i × Lasts touch cells c i

-- a stone that takes nothing has a liberty, an alive stone beside it or a lasting chain to join
abbrev pub Stands : List Touch → List Cell → ℕ → Colour → Type 0
Stands touch cells p c = IsOpen touch cells p ⊎ (IsBeside touch c p ⊎ JoinsLasting touch cells p c)

-- the set of the stones whose chains last
abbrev pub IsLasting : List Touch → List Cell → Colour → Places → Type 0
IsLasting touch cells c set = (q : ℕ) → Has set q ↔ (Holds cells c q × Lasts touch cells c q)

-- the sets say what the colour has in the position
pub record IsSide (touch : List Touch) (cells : List Cell) (c : Colour) (s : Side) : Type 0 where
  pub stones : (q : ℕ) → Has s.stones q ↔ Holds cells c q
  pub lasting : IsLasting touch cells c s.lasting
  pub beside : (q : ℕ) → Has s.beside q ↔ IsBeside touch c q

-- a place of the chain is next to an alive stone, or two empty places are linked to it
abbrev pub HasSupport : Reached → Places → Places → Type 0
HasSupport chain beside empty =
    ((q : ℕ) × Has chain.places q × Has beside q)
    ⊎ ((a : ℕ) × (b : ℕ) × (a ≢ b)
    × (Has chain.near a × Has empty a) × (Has chain.near b × Has empty b))

-- the set of the empty places
abbrev pub AreEmpty : List Touch → List Cell → Places → Type 0
AreEmpty touch cells set =
    (q : ℕ) → Has set q ↔ ((q < length touch) × (held_at cells q ≡ cell.Empty))

-- the stones of the colour, the places next to its alive stones, and the empty places
pub record AreSidePlaces (touch : List Touch) (cells : List Cell) (c : Colour)
    (stones beside empty : Places) : Type 0 where
  pub stones_are : (q : ℕ) → Has stones q ↔ Holds cells c q
  pub beside_are : (q : ℕ) → Has beside q ↔ IsBeside touch c q
  pub empty_are : AreEmpty touch cells empty

-- a stone at the place has an empty place or a lasting chain of its own beside it, or an alive stone
abbrev pub CanStand : Turn → Places → ℕ → Type 0
CanStand t near p =
    ((q : ℕ) × Has near q × (Has t.empty q ⊎ Has t.own.lasting q)) ⊎ Has t.own.beside p

-- the sets say what both colours have in the position
pub record IsTurn (touch : List Touch) (cells : List Cell) (t : Turn) : Type 0 where
  pub long : length cells ≡ length touch
  pub from : t.from ≡ pack cells
  pub empty : AreEmpty touch cells t.empty
  pub own : IsSide touch cells t.colour t.own
  pub foe : IsSide touch cells (other t.colour) t.foe

-- the move of a stone at the place, or that it is illegal
abbrev pub IsTried : List Touch → List Cell → ℕ → Colour → Option LocalMove → Type 0
IsTried touch cells p c None = (after : List Cell) → ¬ IsLocalMove touch cells c p after
IsTried touch cells p c (Some m) = (m.colour ≡ c) × (m.place ≡ p) × IsMoveFrom touch cells m
