use Rattle.benson_life.proofs.SurveyLemmas.{sure_is, sure_none}
use Rattle.benson_life.proofs.living_chains.sure_chains.Goals as goal

pub returns-then-declares_nothing-clause-sure : goal.returns-then-declares_nothing-clause-sure
returns-then-declares_nothing-clause-sure c s stone = (
  λ m. absurd ((c.new.ensures _).0 m),
  λ (p, declared, liberty). absurd ((c.if-declares_nothing.ensures {u = tt}) p c.args.colour declared),
)

pub returns-clause-sure : goal.returns-clause-sure
returns-clause-sure c s stone =
    sure_is c.args.board.now c.args.colour c.args.survey.now c.requires.survey c.requires.settled.closed c.declared-declared.result
    c.labels_beside.result s c.declared-declared.ensures (rw c.size.ensures.columns at c.labels_beside.ensures) stone

pub returns-clause-none : goal.returns-clause-none
returns-clause-none c =
    sure_none c.args.board.now c.args.colour c.args.survey.now c.requires.survey c.declared-declared.result c.labels_beside.result
    c.declared-declared.ensures (rw c.size.ensures.columns at c.labels_beside.ensures)
