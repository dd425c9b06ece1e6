use Rattle.short_games.proofs.ShiftLaws.{left-in_game, right-in_game, left-in_games, right-in_games, numbers-shift}
use Rattle.short_games.proofs.avoidance_laws.Goals as goal

pub returns-clause-left : goal.returns-clause-left
returns-clause-left c = left-in_game

pub returns-clause-right : goal.returns-clause-right
returns-clause-right c = right-in_game

pub returns-clause-left_of_sum : goal.returns-clause-left_of_sum
returns-clause-left_of_sum c = left-in_games

pub returns-clause-right_of_sum : goal.returns-clause-right_of_sum
returns-clause-right_of_sum c = right-in_games

pub returns-clause-translation : goal.returns-clause-translation
returns-clause-translation c = numbers-shift
