-- What placings of one colour at liberties of chains of the other reach, one chain after the other.
use Rattle.std.specs.Prelude.{◌≡◌, ℕ, ◌≤◌, length, count_by}
use Rattle.go_grid.specs.declared.grid.Colour.{Colour}
use Rattle.go_grid.specs.Board.{Board, HasStone, IsEmpty, NextTo, other}
use Rattle.go_grid.specs.Chain.{InChain, HasLiberty}
use Rattle.go_grid.specs.Stones.{is_of}
use Rattle.go_play.specs.Place.{Placings}
use Rattle.benson_attack.specs.declared.captures.Run.{Run}

-- On `h`, which placings of the colour reach from `g`, chains of the other colour stand whole or are
-- empty points. Each point that was filled is next to a point of a chain that was taken, or that is in
-- `Under`: those are under attack.
pub record IsReachedUnderAttack (g : Board) (d : Colour) (Under : ℕ → Type 0) (h : Board) : Type 0 where
  pub columns : h.columns ≡ g.columns
  pub long : length h.cells ≡ length g.cells
  pub declared : h.declared ≡ g.declared
  pub stood : (q : ℕ) → HasStone h (other d) q → HasStone g (other d) q
  pub taken : (q : ℕ) → HasStone g (other d) q → ¬ HasStone h (other d) q → IsEmpty h q
  pub whole : (q r : ℕ) → InChain g (other d) q r → HasStone h (other d) q → HasStone h (other d) r
  pub breathes : (q : ℕ) → HasStone h (other d) q → ¬ ¬ HasLiberty h (other d) q
  pub filled : (q : ℕ) → IsEmpty g q → HasStone h d q
      → (r : ℕ) × NextTo g.columns q r × HasStone g (other d) r × (HasStone h (other d) r → Under r)

-- the placings of the run lead from `g` to its board
abbrev pub IsRun : Board → Colour → (ℕ → Type 0) → Run → Type 0
IsRun g d Under run = IsReachedUnderAttack g d Under run.board × Placings d g run.placings.items run.board

-- the placings of the run lead from `g` to its board, with no chain under attack
abbrev pub IsAtRest : Board → Colour → Run → Type 0
IsAtRest g d run = IsRun g d (λ _. ⊥) run

-- how many stones of the colour a board has
abbrev pub number_of_stones : Colour → Board → ℕ
number_of_stones d g = count_by (is_of d) g.cells

-- the run has no more placings than the colour has stones on its board
abbrev pub HasFewPlacings : Colour → Run → Type 0
HasFewPlacings d run = length run.placings.items ≤ number_of_stones d run.board
