use Rattle.local_value.proofs.KnownLemmas.{remembered-right}
use Rattle.local_value.proofs.value_memo.ValueMemo.new.Goals as goal

pub returns : goal.returns
returns c = λ Ts limit. remembered-right (c.new.ensures Ts limit)
