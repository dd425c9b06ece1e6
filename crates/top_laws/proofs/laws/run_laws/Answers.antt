use Rattle.top_laws.proofs.CauseLaws.{counts_writes, has_causes, refuses_no_job, writes_part}
use Rattle.top_laws.proofs.CompleteLaws.{is_answered}
use Rattle.top_laws.proofs.GameWinLaws.{engine_keeps_win}
use Rattle.top_laws.proofs.UseLaws.{asks_shelf, leaves_lines, reads_to_end, takes_few}
use Rattle.top_laws.proofs.laws.run_laws.Goals as goal

pub returns-clause-cause : goal.returns-clause-cause
returns-clause-cause g c = has_causes _

pub returns-clause-cannot_write : goal.returns-clause-cannot_write
returns-clause-cannot_write g c = counts_writes _

pub returns-clause-outside_grammar : goal.returns-clause-outside_grammar
returns-clause-outside_grammar g c = refuses_no_job _

pub returns-clause-partial_output : goal.returns-clause-partial_output
returns-clause-partial_output g c = writes_part _

pub returns-clause-complete : goal.returns-clause-complete
returns-clause-complete g c = is_answered _

pub returns-clause-engine_keeps_win : goal.returns-clause-engine_keeps_win
returns-clause-engine_keeps_win g c = engine_keeps_win _

pub returns-clause-at_end : goal.returns-clause-at_end
returns-clause-at_end g c = reads_to_end _

pub returns-clause-lines_unread : goal.returns-clause-lines_unread
returns-clause-lines_unread g c = leaves_lines _

pub returns-clause-taken : goal.returns-clause-taken
returns-clause-taken g c = takes_few _

pub returns-clause-asked : goal.returns-clause-asked
returns-clause-asked g c = asks_shelf _
