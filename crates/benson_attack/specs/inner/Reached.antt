-- How far a campaign against a chain has come.
use Rattle.std.specs.Prelude.{◌≡◌, ◌≢◌, ℕ, ◌<◌, ◌≤◌, ◌⊎◌, Bool, List, true, false, Option, None, Some, length}
use Rattle.go_grid.specs.declared.grid.Colour.{Colour}
use Rattle.go_grid.specs.Board.{Board, HasStone, IsClosedOff, IsDeclared, IsUndeclared, other}
use Rattle.go_grid.specs.Chain.{InChain, IsLiberty, HasLiberty, IsSettled}
use Rattle.go_grid.specs.Marks.{IsMarked, Marks}
use Rattle.go_play.specs.Place.{IsPlaced, IsSuicide}
use Rattle.benson_life.specs.Life.{HasRoom, IsAlive}
use Rattle.benson_attack.specs.declared.captures.Run.{Run}
use Rattle.benson_attack.specs.Reached.{IsRun, IsAtRest, number_of_stones, HasFewPlacings}

-- a liberty of the stone's chain is declared
abbrev pub HasDeclaredBreath : Board → Colour → ℕ → Type 0
HasDeclaredBreath g d v = (p : ℕ) × ((c : Colour) × IsDeclared g c p) × IsLiberty g (other d) v p

-- Placing at each of two liberties of the stone's chain is refused.
pub record HasRefusals (g : Board) (d : Colour) (v : ℕ) : Type 0 where
  pub one : ℕ
  pub two : ℕ
  pub apart : one ≢ two
  pub one_liberty : IsLiberty g (other d) v one
  pub one_refused : IsSuicide g one d
  pub two_liberty : IsLiberty g (other d) v two
  pub two_refused : IsSuicide g two d

-- a placing at a liberty of the stone's chain that isn't declared, or none of them is legal
abbrev pub Presses : Colour → ℕ → Board → Board → Option ℕ → Type 0
Presses d v g h None = (h ≡ g) × (¬ ¬ HasLiberty g (other d) v → HasDeclaredBreath g d v ⊎ HasRefusals g d v)
Presses d v g h (Some p) = IsUndeclared g p × IsLiberty g (other d) v p × IsPlaced g p d h

-- `new` is the run `old` with placings more
pub record Follows (d : Colour) (old new : Run) : Type 0 where
  pub short : HasFewPlacings d old → HasFewPlacings d new
  pub long : length new.board.cells ≡ length old.board.cells
  pub goes : (g : Board) → IsAtRest g d old → IsAtRest g d new
  pub more : number_of_stones d old.board < number_of_stones d new.board

-- the stone is taken, or it has room among the stones that stood
abbrev pub Captures : Colour → ℕ → Run → Run → Bool → Type 0
Captures d v old new true = Follows d old new × ¬ HasStone new.board (other d) v
Captures d v old new false = (g : Board) → IsClosedOff g → IsAtRest g d old
    → HasRoom g (other d) (HasStone old.board (other d)) v

-- an attack on the stone at `v` is under way
pub record IsPressed (d : Colour) (v : ℕ) (old now : Run) : Type 0 where
  pub short : HasFewPlacings d old → HasFewPlacings d now
  pub long : length now.board.cells ≡ length old.board.cells
  pub goes : (g : Board) → IsAtRest g d old → IsRun g d (InChain g (other d) v) now
  pub fewer : (q : ℕ) → HasStone now.board (other d) q → HasStone old.board (other d) q
  pub least : number_of_stones d old.board ≤ number_of_stones d now.board
  pub more : HasStone now.board (other d) v ⊎ (number_of_stones d old.board < number_of_stones d now.board)

-- each stone of the other colour that stands lives without answers on the first board, where the marks are those that do
abbrev pub AllAlive : Colour → List Bool → Run → Type 0
AllAlive d alive run = (g : Board) → IsSettled g → Marks alive (IsAlive g (other d)) → IsAtRest g d run
    → (q : ℕ) → HasStone run.board (other d) q → IsAlive g (other d) q

-- the stone has room on the first board, among the stones that stand on the run's
abbrev pub HasRoomYet : Colour → List Bool → Run → ℕ → Type 0
HasRoomYet d alive run v = (g : Board) → IsSettled g → Marks alive (IsAlive g (other d)) → IsAtRest g d run
    → HasRoom g (other d) (HasStone run.board (other d)) v

-- each stone that stands has room, but for those that are marked and at `n` or above
pub record AreTriedBelow (d : Colour) (alive left : List Bool) (run : Run) (n : ℕ) : Type 0 where
  pub stand : (v : ℕ) → IsMarked left v → HasStone run.board (other d) v
  pub below : (v : ℕ) → HasStone run.board (other d) v → v < n → HasRoomYet d alive run v
  pub tried : (v : ℕ) → HasStone run.board (other d) v → ¬ IsMarked left v → HasRoomYet d alive run v
