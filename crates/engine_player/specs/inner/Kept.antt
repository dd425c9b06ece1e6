-- What a game with kos holds of what its colours keep.
use Rattle.std.specs.Prelude.{ℕ, ◌+◌, ◌*◌, ◌^◌, ◌≡◌, ◌≤◌, List, length, cond, Bool, true, false, Option, None, Some}
use Rattle.go_grid.specs.declared.grid.TheConstants.{MOST_POINTS}
use Rattle.go_grid.specs.declared.grid.Colour.{Colour}
use Rattle.go_grid.specs.Board.{Board}
use Rattle.go_grid.specs.Region.{Region}
use Rattle.whole_rules.specs.Purses.{purse}
use Rattle.endgame_solver.specs.Solved.{Solved}
use Rattle.whole_budgets.specs.EnginePlay.{AreListedAfter, AreReducedBelow, HasAtTurn, WinsWithList}
use Rattle.whole_rules.specs.declared.states.Move.{Move}
use Rattle.whole_rules.specs.WholeGame.{IsMove, Whole}
use Rattle.whole_budgets.specs.EngineLaws.{IsReached}
use Rattle.cycle_solver.specs.Keeping.{Keeps}
use Rattle.engine_player.specs.declared.cycle_player.TheConstants.{MOST_MOVES}
use Rattle.engine_player.specs.declared.kept.Kept.{Kept}
use Rattle.engine_player.specs.Played.{BothServe, Played}

-- the budgets, where they are kept
abbrev pub kept_of : Kept → Option (List ℕ)
kept_of k = cond k.is_kept (Some k.budgets.items) None

-- what contracts see
abbrev pub seen_as : Solved → Kept → Kept → ℕ → Played
seen_as game black white moves = record {
  state = game.state;
  keeping = record { regions = game.regions; black = kept_of black; white = kept_of white; moves = moves };
}

-- each list has a budget for each region
pub record HaveBudgets (regions : List Region) (black white : Kept) (scratch : List ℕ) : Type 0 where
  pub black_many : length black.budgets.items ≡ length regions
  pub white_many : length white.budgets.items ≡ length regions
  pub scratch_many : length scratch ≡ length regions

-- each purse holds what an opening may give, and what so many moves may have paid in
abbrev pub HasPurses : Whole → ℕ → Type 0
HasPurses s moves = (c : Colour) → purse c s.purses ≤ 2 ^ 40 + 1001875 + 626 * moves

-- the state is one that moves reach from the opening, what is kept serves, and the purses are bounded
pub record IsFitPlayer (game : Solved) (black white : Kept) (scratch : List ℕ) (moves : ℕ) : Type 0 where
  pub board : Board
  pub reached : IsReached board game.regions game.state
  pub small : length board.cells ≤ MOST_POINTS
  pub many : HaveBudgets game.regions black white scratch
  pub serve : BothServe (seen_as game black white moves)
  pub few : moves ≤ MOST_MOVES
  pub purses : HasPurses game.state moves

-- the least budgets with which the side to move wins, where it keeps some or wins, or that it has none
abbrev pub IsPrepared : Solved → Option (List ℕ) → Bool → List ℕ → Type 0
IsPrepared game kept true cs = (bs : List ℕ) × HasAtTurn game.regions game.state kept (Some bs)
    × AreReducedBelow game.regions game.state (length game.regions) bs cs × WinsWithList game.regions game.state.side game.state cs
IsPrepared game kept false cs = HasAtTurn game.regions game.state kept None

-- the move keeps winning with what was prepared, if anything was
abbrev pub KeepsPrepared : Solved → Bool → List ℕ → Move → Type 0
KeepsPrepared game true cs m = Keeps game.regions game.state cs m
KeepsPrepared game false cs m = Unit {0}

-- what was prepared has paid for the move
abbrev pub IsPaid : Solved → Bool → Move → List ℕ → List ℕ → Type 0
IsPaid game true m cs ds = (t : Whole) → IsMove game.state m t → AreListedAfter game.regions game.state m t cs ds
IsPaid game false m cs ds = ds ≡ cs
