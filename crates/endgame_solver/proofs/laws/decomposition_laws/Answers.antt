use Rattle.endgame_solver.proofs.WholeLaws.{decomposes_whole}
use Rattle.endgame_solver.proofs.PartsLaws.{decomposes, is_bounded, purses-balance}
use Rattle.endgame_solver.proofs.BookkeepingLaws.{purses_follow, regions_follow}
use Rattle.endgame_solver.proofs.laws.decomposition_laws.Goals as goal

pub returns-clause-parts : goal.returns-clause-parts
returns-clause-parts g c = λ moves n s ends. decomposes _ moves n s ends

pub returns-clause-bounded : goal.returns-clause-bounded
returns-clause-bounded g c = λ moves ps each. is_bounded _ moves ps each

pub returns-clause-balance : goal.returns-clause-balance
returns-clause-balance g c = purses-balance

pub returns-clause-whole : goal.returns-clause-whole
returns-clause-whole g c = decomposes_whole

pub returns-clause-purses : goal.returns-clause-purses
returns-clause-purses g c = purses_follow

pub returns-clause-regions : goal.returns-clause-regions
returns-clause-regions g c = regions_follow
