-- How many steps a line takes: those to open a game, one for each position of a region that is expanded.
use Rattle.std.specs.Prelude.{◌≡◌, ◌⊎◌, ◌+◌, ◌≤◌, ℕ, List, None}
use Rattle.go_grid.specs.Region.{Region}
use Rattle.region_cut.specs.Cut.{AreRegionsOfPlay}
use Rattle.endgame_solver.specs.Faults.{most_steps}
use Rattle.gtp_words.specs.Steps.{LineSteps}
use Rattle.gtp_words.specs.Words.{LineAsks}
use Rattle.gtp_engine.specs.declared.limits.EngineLimits.{EngineLimits}
use Rattle.gtp_engine.specs.Request.{Asked, Asks, Order}
use Rattle.gtp_engine.specs.Request.Asked.{something}
use Rattle.gtp_engine.specs.Request.Order.{genmove, play}
use Rattle.gtp_engine.specs.Session.{Table}

-- the order is a turn
abbrev pub IsTurn : Order → Type 0
IsTurn (play c wanted) = Unit {0}
IsTurn (genmove c) = Unit {0}
IsTurn order = ⊥

-- what the words ask for is a turn
abbrev pub AskForTurn : Asked → Type 0
AskForTurn (something order) = IsTurn order
AskForTurn asked = ⊥

-- no game runs, and these are at most the steps to open one: for the regions of play of the board
abbrev pub OpensWithin : EngineLimits → Table → ℕ → ℕ → Type 0
OpensWithin limits t before now = (t.game ≡ None)
    × ((regions : List Region) → AreRegionsOfPlay t.setup.board regions → now ≤ before + most_steps limits.game regions)

-- the steps of a line: none, or where it asks for a turn those to open a game
abbrev pub AreLineSteps : EngineLimits → LineSteps Table
AreLineSteps limits t line before now = (now ≡ before) ⊎ (LineAsks Asks ⊥ AskForTurn line × OpensWithin limits t before now)
