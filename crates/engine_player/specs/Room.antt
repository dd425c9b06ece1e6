-- Room for more moves. Where kos can arise nothing but the length of play bounds what the purses hold.
use Rattle.std.specs.Prelude.{ℕ, ◌+◌, ◌≤◌, Option, None, Some}
use Rattle.engine_player.specs.declared.cycle_player.TheConstants.{MOST_MOVES}
use Rattle.engine_player.specs.Played.{Keeping}
use Rattle.engine_player.specs.EngineGame.{EngineGame}

-- so many more moves may be made where kos are admitted
abbrev pub HasMovesLeft : ℕ → Keeping → Type 0
HasMovesLeft n k = k.moves + n ≤ MOST_MOVES

-- the same, or kos aren't admitted, so that play ends by itself
abbrev pub MayHaveMovesLeft : ℕ → Option Keeping → Type 0
MayHaveMovesLeft n None = Unit {0}
MayHaveMovesLeft n (Some keeping) = HasMovesLeft n keeping

-- so many more moves may be made in the game
abbrev pub CanTake : ℕ → EngineGame → Type 0
CanTake n p = MayHaveMovesLeft n p.keeping
