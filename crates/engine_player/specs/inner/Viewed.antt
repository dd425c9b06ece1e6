-- What contracts see of a game that the engine plays.
use Rattle.std.specs.Prelude.{None, Some}
use Rattle.engine_player.specs.EngineGame.{EngineGame}
use Rattle.engine_player.specs.declared.player.Game.{Game}
use Rattle.engine_player.specs.declared.player.Game.TheVariants.{Plain, Cycles}

-- the state, and where kos are admitted what is kept
abbrev pub seen_of : Game → EngineGame
seen_of (Plain solved) = record { state = solved.state; keeping = None }
seen_of (Cycles played) = record { state = played.state; keeping = Some played.keeping }
