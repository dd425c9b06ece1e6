use Rattle.std.proofs.Common.{◌<◌, ◌≤◌, List, ℕ, length, get_or, arith, sym, subst, ap}
use Rattle.short_games.specs.Tree.{Has}
use Rattle.game_store.specs.Meaning.{pick, listed}
use Rattle.game_canon.specs.inner.Followers.{IsGrown}
use Rattle.game_canon.proofs.PartLaws.{follow-start, follow-step, follow-end, follow-over, ids-few}
use Rattle.game_canon.proofs.followers.count_found.Goals as goal

pub following-init : goal.following-init
following-init c =
    follow-start c.args.store.now c.args.left.now c.args.right.now c.add_parts.new.found.keys c.add_parts-2.new.found.keys
    (subst (λ (z : List ℕ). IsGrown c.args.store.now (Has (pick c.args.store.now c.args.left.now)) z c.add_parts.new.found.keys)
    c.requires.found c.in_ok-add_parts.ensures)
    c.in_ok-add_parts-2.ensures

pub following-preserved : goal.following-preserved
following-preserved c =
    let l : c.following.place < length c.following.found.keys = omega (arith, c.len.ensures.len, c.following-test.true) in
    follow-step c.args.store.now (listed c.args.store.now c.args.left.now c.args.right.now) c.following.found.keys
    c.add_options.new.found.keys c.following.place _ c.following.invariant l
    (ap (λ (z : List ℕ). get_or z c.following.place 0) c.as_slice.ensures.keys) c.in_ok-add_options.ensures

pub following-smaller : goal.following-smaller
following-smaller c =
    let l : c.following.place < length c.following.found.keys = omega (arith, c.len.ensures.len, c.following-test.true) in
    let m : length c.following.found.keys ≤ length c.args.store.now = ids-few c.args.store.now c.following.found.keys
    c.len.ensures.unique c.following.invariant.ids in
    omega (arith, l, m)

pub add_options-requires : goal.add_options-requires
add_options-requires c =
    let l : c.following.place < length c.following.found.keys = omega (arith, c.len.ensures.len, c.following-test.true) in
    subst (λ i. i < length c.args.store.now) (ap (λ (z : List ℕ). get_or z c.following.place 0) (sym c.as_slice.ensures.keys)) (c.following.invariant.ids c.following.place l)

pub returns-then-len-limit-clause-count : goal.returns-then-len-limit-clause-count
returns-then-len-limit-clause-count c = follow-over c.args.store.now (listed c.args.store.now c.args.left.now c.args.right.now)
    c.following.found.keys c.following.place c.args.limit c.len-count.ensures.distinct c.len.ensures.unique c.following.invariant
    (subst (λ n. c.args.limit < n) c.len-in-following.ensures.len c.if-len-limit.true)

pub returns-clause-count : goal.returns-clause-count
returns-clause-count c = follow-end c.args.store.now (listed c.args.store.now c.args.left.now c.args.right.now)
    c.following.found.keys c.following.place _ c.len-count.ensures.distinct c.len.ensures.unique c.following.invariant
    (omega (arith, c.len.ensures.len, c.following-test.false)) c.len-2.ensures.len
