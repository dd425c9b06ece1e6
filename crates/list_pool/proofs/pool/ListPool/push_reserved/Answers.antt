use Rattle.std.proofs.Common.{◌≡◌, ◌<◌, ◌≤◌, ◌+◌, ◌-◌, [], ◌∷◌, ◌++◌, length, map, set, get_or, refl, sym, ap, ◌∙◌, subst, arith, vec_len, vec_capacity}
use Rattle.std.specs.Prelude.{◌≤ℤ◌, pos}
use Rattle.std.proofs.lemmas.List.{get_or_read_under}
use Rattle.list_pool.specs.Chunk.{Row}
use Rattle.list_pool.specs.declared.place.Place.{Place}
use Rattle.list_pool.specs.inner.Pool.{no_row, list_in, AllLie}
use Rattle.list_pool.proofs.PoolLemmas.{room_in, list_added}
use Rattle.list_pool.proofs.pool.ListPool.push_reserved.Goals as goal

pub overflow_sub-chunk : goal.overflow_sub-chunk
overflow_sub-chunk c =
    let i = c.self.inside in let some = (room_in i.chunks.items (vec_len i.table) (vec_capacity i.table) (length c.args.items.now) (subst (λ p. pos (length c.args.items.now) ≤ℤ p.spare) (sym c.self.view_is) c.requires.room)).1 in
    omega (arith, i.chunks.ok.0, c.len-chunk.ensures)

pub index-requires : goal.index-requires
index-requires c =
    let i = c.self.inside in let some = (room_in i.chunks.items (vec_len i.table) (vec_capacity i.table) (length c.args.items.now) (subst (λ p. pos (length c.args.items.now) ≤ℤ p.spare) (sym c.self.view_is) c.requires.room)).1 in
    omega (arith, i.chunks.ok.0, c.len-chunk.ensures)

pub index_mut-requires : goal.index_mut-requires
index_mut-requires c =
    let i = c.self.inside in let some = (room_in i.chunks.items (vec_len i.table) (vec_capacity i.table) (length c.args.items.now) (subst (λ p. pos (length c.args.items.now) ≤ℤ p.spare) (sym c.self.view_is) c.requires.room)).1 in
    omega (arith, i.chunks.ok.0, c.len-chunk.ensures)

pub append-requires : goal.append-requires
append-requires c =
    let i = c.self.inside in let h = room_in i.chunks.items (vec_len i.table) (vec_capacity i.table) (length c.args.items.now) (subst (λ p. pos (length c.args.items.now) ≤ℤ p.spare) (sym c.self.view_is) c.requires.room) in
    let at : c.len-chunk.result ≡ length i.chunks.items = c.len-chunk.ensures ∙ i.chunks.ok.0 in
    let last = get_or_read_under i.chunks.items (c.len-chunk.result - 1) (length i.chunks.items) c.index_mut.result.now no_row c.index_mut.ensures.value (omega (arith, h.1)) refl ∙ ap (λ n. get_or i.chunks.items (n - 1) no_row) at in
    subst (λ (r : Row). length r.items + length c.args.items.now ≤ r.room) (sym last) h.2

pub push_reserved-requires : goal.push_reserved-requires
push_reserved-requires c =
    let i = c.self.inside in (room_in i.chunks.items (vec_len i.table) (vec_capacity i.table) (length c.args.items.now) (subst (λ p. pos (length c.args.items.now) ≤ℤ p.spare) (sym c.self.view_is) c.requires.room)).0

-- the table and the lists after the push
after : (c : goal.After-push_reserved) → let more = set c.self.inside.chunks.items (c.len-chunk.result - 1) c.append.new.self in
    AllLie more c.push_reserved.new.self.items × (map (list_in more) c.push_reserved.new.self.items ≡ map (list_in c.self.inside.chunks.items) c.self.inside.table.items ++ c.args.items.now ∷ [])
after c =
    let i = c.self.inside in let rows = i.chunks.items in let at = c.len-chunk.result - 1 in let items = c.args.items.now in let first = c.index.result.now in let last = c.index_mut.result.now in
    let more = set rows at c.append.new.self in
    let h = room_in rows (vec_len i.table) (vec_capacity i.table) (length items) (subst (λ p. pos (length items) ≤ℤ p.spare) (sym c.self.view_is) c.requires.room) in
    let lt : at < length rows = omega (arith, h.1, c.len-chunk.ensures, i.chunks.ok.0) in
    let is : last ≡ get_or rows at no_row = get_or_read_under rows at (length rows) last no_row c.index_mut.ensures.value lt refl in
    let same : first ≡ last = get_or_read_under rows at (length rows) first no_row c.index.ensures lt refl ∙ sym is in
    let start : c.used-start.result ≡ length last.items = c.used-start.ensures ∙ ap (λ r. length r.items) same in
    let p : Place = record { chunk = at; start = length last.items; len = length items } in
    let table : c.push_reserved.new.self.items ≡ i.table.items ++ p ∷ [] = c.push_reserved.ensures.items ∙ ap (λ n. i.table.items ++ record { chunk = at; start = n; len = length items } ∷ []) start in
    let both = list_added rows at last c.append.new.self items i.table.items lt is (ap (λ r. r.items) c.append.ensures) c.self.invariant in
    (subst (AllLie more) (sym table) both.0, ap (map (list_in more)) table ∙ both.1)

pub invariant_of-self : goal.invariant_of-self
invariant_of-self c = (after c).0

pub returns-clause-lists : goal.returns-clause-lists
returns-clause-lists c = (after c).1 ∙ ap (λ p. p.lists ++ c.args.items.now ∷ []) c.self.view_is
