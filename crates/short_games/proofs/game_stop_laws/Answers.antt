use Rattle.short_games.proofs.GameStopLaws.{stops-exist, stops-go_on, left-agrees, right-agrees, left-bounds, right-bounds, stops-keep, right-less, signs-tell, stops-turn, stops-of_sums, stops-translate}
use Rattle.short_games.proofs.ExampleLaws.{known-game_stops}
use Rattle.short_games.proofs.game_stop_laws.Goals as goal

pub returns-clause-exist : goal.returns-clause-exist
returns-clause-exist c = stops-exist

pub returns-clause-canonical : goal.returns-clause-canonical
returns-clause-canonical c = λ e G x f. (left-agrees e G x f, right-agrees e G x f)

pub returns-clause-left : goal.returns-clause-left
returns-clause-left c = left-bounds

pub returns-clause-right : goal.returns-clause-right
returns-clause-right c = right-bounds

pub returns-clause-keep : goal.returns-clause-keep
returns-clause-keep c = stops-keep

pub returns-clause-ordered : goal.returns-clause-ordered
returns-clause-ordered c = right-less

pub returns-clause-turn : goal.returns-clause-turn
returns-clause-turn c = stops-turn

pub returns-clause-sums : goal.returns-clause-sums
returns-clause-sums c = stops-of_sums

pub returns-clause-translate : goal.returns-clause-translate
returns-clause-translate c = stops-translate

pub returns-clause-known : goal.returns-clause-known
returns-clause-known c = known-game_stops

pub returns-clause-outcomes : goal.returns-clause-outcomes
returns-clause-outcomes c = signs-tell

pub returns-clause-go_on : goal.returns-clause-go_on
returns-clause-go_on c = stops-go_on
