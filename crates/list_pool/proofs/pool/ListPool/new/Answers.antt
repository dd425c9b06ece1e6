use Rattle.std.proofs.Common.{map, ap, ◌∙◌, vec_len, vec_capacity}
use Rattle.list_pool.specs.inner.Pool.{list_in, spare_in}
use Rattle.list_pool.proofs.PoolLemmas.{spare_none}
use Rattle.list_pool.proofs.pool.ListPool.new.Goals as goal

pub returns : goal.returns
returns c =
    let rows = c.new.ensures.items in let table = c.new-2.ensures.items in let used = vec_len c.new-2.result in let capacity = vec_capacity c.new-2.result in
    record { empty = λ i. record { lists = map (list_in (rows i)) (table i); spare = (ap (λ r. spare_in r used capacity) rows ∙ spare_none used capacity) i } }
