use Rattle.std.proofs.Common.{◌≤◌, map, sym, ap, ◌∙◌, subst, arith, vec_len, vec_capacity, refl}
use Rattle.std.specs.Prelude.{◌≤ℤ◌, pos}
use Rattle.list_pool.specs.inner.Pool.{list_in, left_over, spare_in}
use Rattle.list_pool.proofs.PoolLemmas.{room_there, row_added, room_made}
use Rattle.list_pool.proofs.pool.ListPool.reserve.Goals as goal

pub returns-then-has_room-clause-room : goal.returns-then-has_room-clause-room
returns-then-has_room-clause-room c =
    room_there c.self.inside.chunks.items (vec_len c.reserve.new.self) (vec_capacity c.reserve.new.self) c.args.items (omega (arith, c.in_ok-reserve.ensures.ok))
    (subst (λ rows. pos c.args.items ≤ℤ left_over rows) c.deref.ensures.value (c.if-has_room.ensures refl))

pub returns-clause-lists : goal.returns-clause-lists
returns-clause-lists c =
    let rows = c.self.inside.chunks.items in let table = c.self.inside.table.items in
    ap (λ more. map (list_in more) c.reserve.new.self.items) c.in_ok-push.ensures.items ∙ ap (map (list_in _)) c.in_ok-reserve.ensures.items ∙ (row_added rows c.in_ok-chunk.chunk table c.self.invariant).1 ∙ ap (λ p. p.lists) c.self.view_is

pub returns-clause-room : goal.returns-clause-room
returns-clause-room c =
    let rows = c.self.inside.chunks.items in let chunk = c.in_ok-chunk.chunk in let made = c.in_ok-chunk.ensures in let used = vec_len c.reserve.new.self in let capacity = vec_capacity c.reserve.new.self in
    subst (λ more. pos c.args.items ≤ℤ spare_in more used capacity) (sym c.in_ok-push.ensures.items)
    (room_made rows chunk used capacity c.args.items (ap (λ r. r.items) made) (subst (λ r. c.args.items ≤ r.room) (sym made) (omega (arith, c.max.ensures))) (omega (arith, c.in_ok-reserve.ensures.ok)))
