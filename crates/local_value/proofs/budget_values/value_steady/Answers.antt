use Rattle.local_value.proofs.budget_values.value_steady.Goals as goal

pub value_steady_with-valued-requires-clause-memo : goal.value_steady_with-valued-requires-clause-memo
value_steady_with-valued-requires-clause-memo c = c.new-memo.ensures c.args.store.now c.args.parts_limit
