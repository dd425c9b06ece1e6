-- Moves that a session generates where kos can arise: the game that a position opens, and the engine's move in it.
use Rattle.std.specs.Prelude.{◌≡◌, ◌⊎◌, ◌++◌, ℕ, List, Bool, true, false, Option, None, Err, codes}
use Rattle.go_grid.specs.Chain.{IsFirstUnsettled, IsSettled}
use Rattle.go_grid.specs.Region.{Region}
use Rattle.go_grid.specs.declared.grid.Colour.{Colour}
use Rattle.gtp_words.specs.Vertices.{vertex_text}
use Rattle.region_cut.specs.Cut.{AreRegionsOfPlay}
use Rattle.go_play.specs.Setup.{Setup}
use Rattle.whole_rules.specs.declared.states.Move.{Move}
use Rattle.whole_rules.specs.WholeGame.{Whole}
use Rattle.endgame_solver.specs.Limits.{Limits}
use Rattle.endgame_solver.specs.Solved.{HasMove, OpensAs}
use Rattle.whole_budgets.specs.EnginePlay.{EngineMoves}
use Rattle.cycle_solver.specs.CycleFaults.{AreSteadyWithin}
use Rattle.cycle_solver.specs.declared.faults.CycleError.{CycleError}
use Rattle.cycle_solver.specs.declared.faults.CycleError.TheVariants.{Points, Positions, Form, Captures, Memory}
use Rattle.cycle_solver.specs.declared.limits.TheConstants.{MOST_CAPTURES}
use Rattle.engine_player.specs.Played.{BeginsPlay}
use Rattle.fault_words.specs.FaultWords.{form_words, points_words, positions_words}
use Rattle.board_session.specs.Generating.{Advice, Advises, PayFor, after_passes, chosen, resigned, setup_of, unopened, unsettled_words}
use Rattle.board_orders.specs.States.{BoardState, present}
use Rattle.board_orders.specs.Tallies.{Tally}

-- the regions of play of the position are all steady within the limits, and the state opens it without a tax
pub record IsSteadyOpening (limits : Limits) (setup : Setup) (start : Whole) : Type 0 where
  pub regions : List Region
  pub are_regions : AreRegionsOfPlay setup.board regions
  pub steady : AreSteadyWithin limits MOST_CAPTURES regions
  pub opening : OpensAs setup false start

-- the game that the settled position opens where kos can arise, in which each pass has cost its colour a point
pub record OpensWithCycles (limits : Limits) (setup : Setup) (passes : Tally) (w : Whole) : Type 0 where
  pub settled : IsSettled setup.board
  pub start : Whole
  pub playable : IsSteadyOpening limits setup start
  pub pay : PayFor passes start.purses
  pub less : w ≡ after_passes passes start

-- a region that isn't steady
unfoldable pub captures_words : (ℕ → List ℕ) → ℕ → List ℕ
captures_words name p = codes "captures " ++ name p

-- the words of a fault of regions that may have cycles; want of memory has none
abbrev pub AreCycleFaultWords : (ℕ → List ℕ) → Limits → CycleError → List ℕ → Type 0
AreCycleFaultWords name limits (Points p n) words = words ≡ points_words name p n
AreCycleFaultWords name limits (Positions p) words = words ≡ positions_words name p limits.positions
AreCycleFaultWords name limits (Form p) words = words ≡ form_words name p
AreCycleFaultWords name limits (Captures p) words = words ≡ captures_words name p
AreCycleFaultWords name limits (Memory e) words = ⊥

-- Why the position opens no game in which kos can arise, in words: it isn't settled, or its regions have a fault, or a purse doesn't pay
-- for the passes of its colour.
abbrev pub OpensNoneWithCycles : Limits → Setup → Tally → List ℕ → Type 0
OpensNoneWithCycles limits setup passes words =
    ((p : ℕ) × IsFirstUnsettled setup.board p × (words ≡ unsettled_words setup.board p))
    ⊎ (IsSettled setup.board
    × (((fault : CycleError) × BeginsPlay setup false limits MOST_CAPTURES (Err fault)
    × AreCycleFaultWords (vertex_text setup.board.columns setup.board.rows) limits fault words)
    ⊎ ((start : Whole) × IsSteadyOpening limits setup start × ¬ PayFor passes start.purses × (words ≡ codes "purse"))))

-- The engine's move: by the least budgets of captures that return with which the side to move wins, which are found anew at each move; and
-- where it doesn't win, one behind which the other side isn't the winner, if there is one.
abbrev pub MovesAnew : List Region → Whole → Move → Type 0
MovesAnew regions w m = (t : Whole) × (left : Option (List ℕ)) × EngineMoves regions w None m t left

-- what the colour to move is told where kos can arise: the engine's move in the game that the position opens
abbrev pub AdvisesWithCycles : Limits → Setup → Tally → Advice → Type 0
AdvisesWithCycles limits setup passes (chosen m) = (w : Whole) × (opens : OpensWithCycles limits setup passes w) × MovesAnew opens.playable.regions w m
AdvisesWithCycles limits setup passes resigned = (w : Whole) × OpensWithCycles limits setup passes w × ¬ HasMove w
AdvisesWithCycles limits setup passes (unopened words) = OpensNoneWithCycles limits setup passes words

-- what the colour to move is told, with cycles admitted or without
abbrev pub AdvisesWith : Bool → Limits → Setup → Tally → Advice → Type 0
AdvisesWith false limits setup passes a = Advises limits setup passes a
AdvisesWith true limits setup passes a = AdvisesWithCycles limits setup passes a

-- what the colour is told in the state
abbrev pub TellsIn : Bool → Limits → BoardState → Colour → Advice → Type 0
TellsIn cycles limits s c a = AdvisesWith cycles limits (setup_of (present s) s.komi_halves c) (present s).passes a
