-- What the parts of an advice come to where kos can arise.
use Rattle.std.specs.Prelude.{◌≡◌, ◌<◌, ℕ, codes}
use Rattle.endgame_solver.specs.Solved.{HasMove}
use Rattle.cycle_solver.specs.declared.faults.CycleError.{CycleError}
use Rattle.cycle_solver.specs.declared.faults.CycleError.TheVariants.{Points, Positions, Form, Captures, Memory}
use Rattle.engine_player.specs.Played.{Played}
use Rattle.board_session.specs.Cycles.{MovesAnew}
use Rattle.board_session.specs.Generating.{Advice, PayFor, after_passes, chosen, resigned, unopened}
use Rattle.board_orders.specs.Tallies.{Tally}

-- what the colour to move is told where its game begins so, but for the passes
abbrev pub IsToldWithCycles : Tally → Played → Advice → Type 0
IsToldWithCycles passes p (chosen m) = PayFor passes p.state.purses × MovesAnew p.keeping.regions (after_passes passes p.state) m
IsToldWithCycles passes p resigned = PayFor passes p.state.purses × ¬ HasMove (after_passes passes p.state)
IsToldWithCycles passes p (unopened words) = ¬ PayFor passes p.state.purses × (words ≡ codes "purse")

-- the point that the fault names is below the number
abbrev pub NamesPoint : ℕ → CycleError → Type 0
NamesPoint area (Points p n) = p < area
NamesPoint area (Positions p) = p < area
NamesPoint area (Form p) = p < area
NamesPoint area (Captures p) = p < area
NamesPoint area (Memory e) = Unit {0}
