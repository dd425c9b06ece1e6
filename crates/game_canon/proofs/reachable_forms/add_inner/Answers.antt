use Rattle.game_canon.proofs.ReachableLaws.{followed-number, followed-options}
use Rattle.game_canon.proofs.reachable_forms.add_inner.Goals as goal

pub returns-in-Number : goal.returns-in-Number
returns-in-Number c = followed-number c.args.store.now c.args.ids.now.items c.args.id c.requires.ascends (60, c.in-Number.field-0, c.in-Number.ensures.form)

pub returns-in_ok-add_ids-in-Options-2 : goal.returns-in_ok-add_ids-in-Options-2
returns-in_ok-add_ids-in-Options-2 c = followed-options c.args.store.now c.args.ids.now.items _ _ c.args.id _ _ c.in-Options.ensures.form c.in_ok-add_ids-in-Options.ensures c.in_ok-add_ids-in-Options-2.ensures
