-- Where a game stands that the engine plays, with kos admitted or without: the engine's move, and a move by hand.
use Rattle.std.specs.Prelude.{◌≡◌, Option, None, Some, Result, Ok, Err}
use Rattle.go_grid.specs.declared.grid.Colour.{Colour}
use Rattle.whole_rules.specs.declared.states.Move.{Move}
use Rattle.whole_rules.specs.declared.states.MoveError.{MoveError}
use Rattle.whole_rules.specs.WholeGame.{Whole, IsMove, Refuses}
use Rattle.endgame_solver.specs.Solved.{Chooses}
use Rattle.engine_player.specs.Played.{Keeping, EnginePlays, keeping_with}

-- the state, and where kos are admitted the regions of play and what each colour keeps
pub record EngineGame : Type 0 where
  pub state : Whole
  pub keeping : Option Keeping

-- the engine moves for the side to move: its first winning move or else its first move, or where kos are admitted by its budgets
abbrev pub MovesKeeping : Option Keeping → Whole → Move → Whole → Option Keeping → Type 0
MovesKeeping None s m t left = Chooses s m × IsMove s m t × (left ≡ None)
MovesKeeping (Some keeping) s m t left = (after : Keeping)
    × EnginePlays (record { state = s; keeping = keeping }) m (record { state = t; keeping = after }) × (left ≡ Some after)

-- the engine moves from the one to the other
abbrev pub EngineGoes : EngineGame → Move → EngineGame → Type 0
EngineGoes p m q = MovesKeeping p.keeping p.state m q.state q.keeping

-- the engine may make the move
abbrev pub IsEngineMove : EngineGame → Move → Type 0
IsEngineMove p m = (q : EngineGame) × EngineGoes p m q

-- what is kept when the colour has moved by hand
abbrev pub kept_by_hand : Colour → Option Keeping → Option Keeping
kept_by_hand c None = None
kept_by_hand c (Some keeping) = Some (keeping_with c None keeping)

-- a move by hand: where it is legal it is made, and its colour keeps nothing
abbrev pub GoesByHand : EngineGame → Move → Result Unit MoveError → EngineGame → Type 0
GoesByHand p m (Ok _) q = IsMove p.state m q.state × (q.keeping ≡ kept_by_hand p.state.side p.keeping)
GoesByHand p m (Err e) q = (q ≡ p) × Refuses p.state m e
