use Rattle.top_laws.proofs.StepLaws.{idle_takes_no_steps, takes_few_steps, takes_no_steps}
use Rattle.top_laws.proofs.laws.step_laws.Goals as goal

pub returns-clause-few : goal.returns-clause-few
returns-clause-few c = takes_few_steps

pub returns-clause-none : goal.returns-clause-none
returns-clause-none c = takes_no_steps

pub returns-clause-idle : goal.returns-clause-idle
returns-clause-idle c = idle_takes_no_steps
