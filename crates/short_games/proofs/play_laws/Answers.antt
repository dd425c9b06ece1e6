use Rattle.short_games.proofs.PlayLaws.{determined, goes-by_play, has-outcome, play-compares, moves-win}
use Rattle.short_games.proofs.play_laws.Goals as goal

pub returns-clause-determined : goal.returns-clause-determined
returns-clause-determined c = determined

pub returns-clause-order : goal.returns-clause-order
returns-clause-order c = goes-by_play

pub returns-clause-outcomes : goal.returns-clause-outcomes
returns-clause-outcomes c = has-outcome

pub returns-clause-compares : goal.returns-clause-compares
returns-clause-compares c = play-compares

pub returns-clause-moves : goal.returns-clause-moves
returns-clause-moves c = moves-win
