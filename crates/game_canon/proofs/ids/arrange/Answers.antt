use Rattle.std.proofs.Common.{◌≡◌, ◌≤◌, sym, ◌∙◌, ap, rules, nat_eq, arith, subst}
use Rattle.std.specs.List.{dedup, sum_by}
use Rattle.std.proofs.lemmas.List.Kept.{Contains-dedup_nat, Contains-from_dedup}
use Rattle.std.proofs.lemmas.List.Sorted.{Contains-permutation, IsPermutation-sym, sum_by-IsPermutation}
use Rattle.std.proofs.lemmas.Map.Keys.{IsStrictlyIncreasing-dedup}
use Rattle.smallvec.proofs.SmallVecLemmas.{items-with_items}
use Rattle.game_store.specs.Meaning.{IsAscending}
use Rattle.game_canon.proofs.IdLaws.{from-words, sum-dedup, in_order-same}
use Rattle.game_canon.proofs.ids.arrange.Goals as goal

pub returns-then-ascends : goal.returns-then-ascends
returns-then-ascends c = in_order-same c.args.ids.now.items (subst IsAscending c.deref.ensures (c.ascends.ensures c.if-ascends.true))

pub returns : goal.returns
returns c =
    let is : c.dedup.new.self.items ≡ dedup nat_eq c.sort_unstable.new.self = c.dedup.ensures.items ∙ ap (dedup nat_eq) (items-with_items c.args.ids.now c.sort_unstable.new.self (search rules)) in
    let moved = c.sort_unstable.ensures.permutation in
    let copied : c.deref_mut.result.now ≡ c.args.ids.now.items = c.deref_mut.ensures.value in
    from-words c.args.ids.now.items c.dedup.new.self.items
    (rw is (IsStrictlyIncreasing-dedup _ c.sort_unstable.ensures.sorted))
    (λ x h. rw is (Contains-dedup_nat _ x (Contains-permutation _ _ x moved (rw copied h))))
    (λ x h. rw copied at (Contains-permutation _ _ x (IsPermutation-sym _ _ moved) (Contains-from_dedup _ _ x (rw is at h))))
    (λ f. subst (λ v. sum_by f v ≤ sum_by f c.args.ids.now.items) (sym is) (omega (arith, sum-dedup f c.sort_unstable.new.self, sum_by-IsPermutation f _ _ moved, ap (sum_by f) copied)))
