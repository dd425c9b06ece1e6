use Rattle.top_laws.proofs.CycleLaws.{one_status, refuses_unsteady, shows_steady, solves_steady}
use Rattle.top_laws.proofs.OneStatusLaws.{refuses_faults, refuses_unshown, shows_shown, solves_sound}
use Rattle.top_laws.proofs.OneGameLaws.{one_game}
use Rattle.top_laws.proofs.CalcLaws.{one_outcome}
use Rattle.top_laws.proofs.laws.verdict_laws.Goals as goal

pub returns-clause-one : goal.returns-clause-one
returns-clause-one c = one_status

pub returns-clause-one_outcome : goal.returns-clause-one_outcome
returns-clause-one_outcome c = one_outcome

pub returns-clause-sound : goal.returns-clause-sound
returns-clause-sound c = solves_sound

pub returns-clause-faults : goal.returns-clause-faults
returns-clause-faults c = refuses_faults

pub returns-clause-shown : goal.returns-clause-shown
returns-clause-shown c = shows_shown

pub returns-clause-unshown : goal.returns-clause-unshown
returns-clause-unshown c = refuses_unshown

pub returns-clause-one_game : goal.returns-clause-one_game
returns-clause-one_game c = one_game

pub returns-clause-steady : goal.returns-clause-steady
returns-clause-steady c = solves_steady

pub returns-clause-shows_steady : goal.returns-clause-shows_steady
returns-clause-shows_steady c = shows_steady

pub returns-clause-unsteady : goal.returns-clause-unsteady
returns-clause-unsteady c = refuses_unsteady
