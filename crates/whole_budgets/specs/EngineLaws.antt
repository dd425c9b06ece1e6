-- What holds of the engine's play where kos can arise.
use Rattle.std.specs.Prelude.{ℕ, ℤ, zero, suc, ◌≡◌, ◌≢◌, ◌≤◌, List, length, Option, None, Bool, Contains}
use Rattle.go_grid.specs.declared.grid.TheConstants.{MOST_POINTS}
use Rattle.go_grid.specs.declared.grid.Colour.{Colour}
use Rattle.go_grid.specs.Board.{Board}
use Rattle.go_grid.specs.Chain.{IsSettled}
use Rattle.go_grid.specs.Region.{Region}
use Rattle.local_graph.specs.declared.cycle.CycleMove.{CycleMove}
use Rattle.local_graph.specs.LocalGraph.{IsCycle}
use Rattle.region_cut.specs.Cut.{AreRegionsOfPlay}
use Rattle.whole_rules.specs.declared.money.Purses.{Purses}
use Rattle.whole_rules.specs.declared.states.Move.{Move}
use Rattle.whole_rules.specs.declared.states.Move.TheVariants.{Stone}
use Rattle.whole_rules.specs.FirstWinningMove.{IsLosing, IsWinner}
use Rattle.whole_rules.specs.Opening.{IsOpening}
use Rattle.whole_rules.specs.Purses.{purse}
use Rattle.whole_rules.specs.Walls.{Plays}
use Rattle.whole_rules.specs.WholeGame.{Whole, IsMove}
use Rattle.endgame_solver.specs.Solved.{Chooses, HasMove}
use Rattle.whole_budgets.specs.EnginePlay.{EngineMoves, Serves}

-- the purses hold no more than others, and the token has the same owner
pub record HoldNoMore (m most : Purses) : Type 0 where
  pub purses : (c : Colour) → purse c m ≤ purse c most
  pub token : m.token ≡ most.token

-- moves lead from the opening of the settled board, whose regions of play these are, to the state, in whose purses may be less by
-- points that were taken out
pub record IsReached (g : Board) (regions : List Region) (t : Whole) : Type 0 where
  pub black_prisoners : ℕ
  pub white_prisoners : ℕ
  pub komi : ℤ
  pub side : Colour
  pub tax : Bool
  pub start : Whole
  pub moves : List Move
  pub untouched : Purses
  pub settled : IsSettled g
  pub cut : AreRegionsOfPlay g regions
  pub opening : IsOpening g black_prisoners white_prisoners komi side tax start
  pub plays : Plays start moves (record t { purses = untouched })
  pub less : HoldNoMore t.purses untouched

module _ (regions : List Region) where
  abbrev mutual
    -- at the engine's turn: it has a move, and behind each that it may make the other side loses, and the game ends won within so many moves
    pub EndsAtTurn : ℕ → Whole → Option (List ℕ) → Type 0
    EndsAtTurn zero s kept = ⊥
    EndsAtTurn (suc n) s kept = ((m : Move) × (t : Whole) × (left : Option (List ℕ)) × EngineMoves regions s kept m t left)
        × ((m : Move) (t : Whole) (left : Option (List ℕ)) → EngineMoves regions s kept m t left → IsLosing t × EndsBehind n t left)

    -- behind the engine's move: the other side has no move, or each leads to where the game ends won within one fewer
    pub EndsBehind : ℕ → Whole → Option (List ℕ) → Type 0
    EndsBehind zero s kept = ¬ HasMove s
    EndsBehind (suc n) s kept = (m : Move) (t : Whole) → IsMove s m t → EndsAtTurn n t kept

-- At the turn of an engine that keeps nothing from one turn to the next: it has a move, and behind each that it may make the other side
-- loses, and each move of the other side leads to such a turn again. All play ends, so the engine wins.
pub data EndsAnew (regions : List Region) : Whole → Type 0 where
  ends : {s : Whole} → ((m : Move) × (t : Whole) × (left : Option (List ℕ)) × EngineMoves regions s None m t left)
      → ((m : Move) (t : Whole) (left : Option (List ℕ)) → EngineMoves regions s None m t left → IsLosing t)
      → ((m k : Move) (t u : Whole) (left : Option (List ℕ)) → EngineMoves regions s None m t left → IsMove t k u → EndsAnew regions u)
      → EndsAnew regions s

-- from a state that the engine's colour wins at its turn there is a number of moves within which the game ends won, whatever
-- the opponent plays
abbrev pub WonGamesEnd : Type 0
WonGamesEnd = (g : Board) (regions : List Region) (t : Whole) (kept : Option (List ℕ)) → IsReached g regions t → Serves regions t.side t kept
    → IsWinner t t.side → (n : ℕ) × EndsAtTurn regions n t kept

-- and also where the engine keeps no budgets, but finds them anew at each of its turns, the game ends won
abbrev pub WonGamesEndAnew : Type 0
WonGamesEndAnew = (g : Board) (regions : List Region) (t : Whole) → IsReached g regions t → IsWinner t t.side → EndsAnew regions t

-- an engine that wins never plays a stone that leads to the board before the opponent's last move
abbrev pub KeepsSimpleKo : Type 0
KeepsSimpleKo = (g : Board) (regions : List Region) (u t v : Whole) (m : Move) (p : ℕ) (kept left : Option (List ℕ)) → IsReached g regions u
    → IsMove u m t → Serves regions t.side t kept → IsWinner t t.side → EngineMoves regions t kept (Stone p) v left → v.board ≢ u.board

-- what a colour keeps serves behind its own move and behind each move of the other side
abbrev pub KeptServes : Type 0
KeptServes = (g : Board) (regions : List Region) (t u : Whole) (m : Move) (kept left : Option (List ℕ)) → IsReached g regions t
    → (EngineMoves regions t kept m u left → Serves regions t.side u left) × (IsMove t m u → Serves regions u.side t kept → Serves regions u.side u kept)

-- on a board of at most 625 points the engine has one move, and keeps one thing
abbrev pub HasOneMove : Type 0
HasOneMove = (g : Board) (regions : List Region) (t u v : Whole) (l m : Move) (kept left then : Option (List ℕ)) → length g.cells ≤ MOST_POINTS
    → IsReached g regions t → EngineMoves regions t kept l u left → EngineMoves regions t kept m v then → (l ≡ m) × (u ≡ v) × (left ≡ then)

-- where no region has a cycle the engine's move is the first that wins, or the first where none does
abbrev pub IsPlainWithoutCycles : Type 0
IsPlainWithoutCycles = (g : Board) (regions : List Region) (t u : Whole) (m : Move) (kept left : Option (List ℕ)) → IsReached g regions t
    → ((r : Region) → Contains regions r → (ms : List CycleMove) (back : ℕ) → ¬ IsCycle r.touch r.cells ms back)
    → Serves regions t.side t kept → EngineMoves regions t kept m u left → Chooses t m
