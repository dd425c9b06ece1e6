use Rattle.std.proofs.Common.{subst, vec_len, vec_capacity}
use Rattle.std.specs.Prelude.{◌≤ℤ◌, negsuc}
use Rattle.list_pool.proofs.PoolLemmas.{least_spare}
use Rattle.list_pool.proofs.pool.ListPool.len.Goals as goal

pub returns-clause-spare : goal.returns-clause-spare
returns-clause-spare c = let i = c.self.inside in subst (λ p. negsuc 0 ≤ℤ p.spare) c.self.view_is (least_spare i.chunks.items (vec_len i.table) (vec_capacity i.table))
