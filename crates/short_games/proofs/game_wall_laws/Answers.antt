use Rattle.short_games.proofs.GameWallLaws.{game-walls_exist, game-walls_same, game-walls_begin, numbers-masts, game-temperature}
use Rattle.short_games.proofs.game_wall_laws.Goals as goal

pub returns-clause-exist : goal.returns-clause-exist
returns-clause-exist c = game-walls_exist

pub returns-clause-equal : goal.returns-clause-equal
returns-clause-equal c = game-walls_same

pub returns-clause-begin : goal.returns-clause-begin
returns-clause-begin c = game-walls_begin

pub returns-clause-numbers : goal.returns-clause-numbers
returns-clause-numbers c = numbers-masts

pub returns-clause-temperature : goal.returns-clause-temperature
returns-clause-temperature c = game-temperature
