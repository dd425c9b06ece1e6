use Rattle.std.proofs.Common.{subst, sym}
use Rattle.local_value.specs.Remembered.{IsRememberedRight}
use Rattle.local_value.proofs.KnownLemmas.{memo-right}
use Rattle.local_value.proofs.budget_values.value_steady_with.Goals as goal

pub add_layers-requires-clause-memo : goal.add_layers-requires-clause-memo
add_layers-requires-clause-memo c = memo-right (subst (IsRememberedRight c.args.store.now c.args.parts_limit) (sym c.memo.view_is) c.requires.memo)
