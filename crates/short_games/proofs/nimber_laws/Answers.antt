use Rattle.short_games.proofs.NimberLaws.{nimbers-add, nimbers-confused, nimber-turned, nimber-no_number}
use Rattle.short_games.proofs.MexLaws.{mex-rule, impartial-nimber}
use Rattle.short_games.proofs.ExampleLaws.{known-nimbers}
use Rattle.short_games.proofs.nimber_laws.Goals as goal

pub returns-clause-known : goal.returns-clause-known
returns-clause-known c = known-nimbers

pub returns-clause-add : goal.returns-clause-add
returns-clause-add c = nimbers-add

pub returns-clause-confused : goal.returns-clause-confused
returns-clause-confused c = nimbers-confused

pub returns-clause-turn : goal.returns-clause-turn
returns-clause-turn c = nimber-turned

pub returns-clause-no_numbers : goal.returns-clause-no_numbers
returns-clause-no_numbers c = nimber-no_number

pub returns-clause-mex : goal.returns-clause-mex
returns-clause-mex c = mex-rule

pub returns-clause-impartial : goal.returns-clause-impartial
returns-clause-impartial c = impartial-nimber
