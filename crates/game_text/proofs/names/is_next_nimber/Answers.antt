use Rattle.game_text.proofs.NimberIdLaws.{number-next, next-number, next-nimber, next-options}
use Rattle.game_text.proofs.names.is_next_nimber.Goals as goal

pub returns-in-Number : goal.returns-in-Number
returns-in-Number c = (
  (λ t. (let r = c.is_first.ensures.0 t in next-number _ c.in-Number.x c.args.nimbers.now c.in-Number.ensures.form r.0 r.1)),
  λ e. c.is_first.ensures.1 (number-next _ c.in-Number.x c.args.nimbers.now c.in-Number.ensures.form e),
)

pub returns-in-Options : goal.returns-in-Options
returns-in-Options c = (
  (λ t. (let r = c.are_nimbers.ensures.0 t in next-nimber c.args.store.now c.args.nimbers.now c.requires.nimbers c.in-Options.ensures.distinct c.args.id _ _ c.requires.id c.in-Options.ensures.form r.0 r.1)),
  λ e. c.are_nimbers.ensures.1 (next-options c.args.store.now c.args.nimbers.now c.requires.nimbers c.in-Options.ensures.distinct c.args.id _ _ c.requires.id c.in-Options.ensures.form e),
)
