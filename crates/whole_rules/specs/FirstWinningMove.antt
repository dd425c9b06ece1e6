-- The winner of a state and its first winning move, and the laws that no state has two outcomes or two winners.
use Rattle.std.specs.Prelude.{ℕ, ◌≡◌, ◌≤◌, ◌⊎◌, Option, Some, None}
use Rattle.go_grid.specs.declared.grid.Colour.{Colour}
use Rattle.go_grid.specs.Board.{other}
use Rattle.whole_rules.specs.declared.states.Move.{Move}
use Rattle.whole_rules.specs.PlainRecursion.{WinsWithin, LosesWithin, MoverWins, MoverLoses}
use Rattle.whole_rules.specs.WholeGame.{Whole, Leads, IsMove, rank}

-- the player to move loses
abbrev pub IsLosing : Whole → Type 0
IsLosing s = MoverLoses Whole Leads s

-- the winner of a state: who moves where the mover wins, the other where the mover loses
abbrev pub IsWinner : Whole → Colour → Type 0
IsWinner s c = ((c ≡ s.side) × MoverWins Whole Leads s) ⊎ ((c ≡ other s.side) × IsLosing s)

-- the move leads to a state whose mover loses
abbrev pub IsWinning : Whole → Move → Type 0
IsWinning s m = (t : Whole) × IsMove s m t × IsLosing t

-- of the moves in their order the first that wins, where there is one
abbrev pub IsFirstWinning : Whole → Option Move → Type 0
IsFirstWinning s (Some m) = IsWinning s m × ((k : Move) → IsWinning s k → rank m ≤ rank k)
IsFirstWinning s None = (k : Move) → ¬ IsWinning s k

-- who wins or loses within so many moves does so within more
abbrev pub IsMonotone : Type 0
IsMonotone = (n m : ℕ) (s : Whole) → n ≤ m
    → (WinsWithin Whole Leads n s → WinsWithin Whole Leads m s) × (LosesWithin Whole Leads n s → LosesWithin Whole Leads m s)

-- no mover both wins and loses
abbrev pub HasOneOutcome : Type 0
HasOneOutcome = (n m : ℕ) (s : Whole) → WinsWithin Whole Leads n s → LosesWithin Whole Leads m s → ⊥

-- a state has at most one winner
abbrev pub HasOneWinner : Type 0
HasOneWinner = (s : Whole) (c d : Colour) → IsWinner s c → IsWinner s d → c ≡ d
