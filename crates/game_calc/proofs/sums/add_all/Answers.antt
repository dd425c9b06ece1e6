use Rattle.std.proofs.Common.{ℕ, ◌<◌, ◌≡◌, length, get_or, ap₂, subst}
use Rattle.std.proofs.lemmas.Result.{err_from_is_err_and}
use Rattle.short_games.specs.Tree.{Tree, tree_at}
use Rattle.short_games.specs.Sum.{◌+ᵍ◌}
use Rattle.game_canon.proofs.ChangedIdLaws.{passed-on, extends-on}
use Rattle.game_calc.specs.inner.Steps.{IsPairRefusal}
use Rattle.game_calc.specs.inner.Table.{noted}
use Rattle.game_calc.proofs.TableSteps.{rows-inner, rows-step}
use Rattle.game_calc.proofs.sums.add_all.Goals as goal

pub add_row-requires-clause-inner : goal.add_row-requires-clause-inner
add_row-requires-clause-inner c = rows-inner c.args.store.now c.adding.store c.args.parts_limit (noted c.adding.sums) c.args.first.now c.args.second.now c.adding.place-index c.adding.invariant.table c.requires.first c.adding-test.true c.len-count.ensures.distinct

pub adding-preserved : goal.adding-preserved
adding-preserved c = record {
  comparisons = c.in_ok-latest.ensures.comparisons;
  small = c.in_ok-latest.ensures.latest;
  table = rows-step c.args.store.now c.adding.store c.args.parts_limit (noted c.adding.sums) c.args.first.now c.args.second.now c.adding.place-index c.adding.invariant.table c.requires.first c.adding-test.true
      c.add_row.new.store (noted c.add_row.new.sums) c.add_row.ensures.kept c.in_ok-latest.ensures.right c.in_ok-latest.ensures.grows c.in_ok-latest.ensures.known;
}

pub returns-in_err-latest-clause-refusal : goal.returns-in_err-latest-clause-refusal
returns-in_err-latest-clause-refusal c =
    let Ts = c.args.store.now in
    let kept = c.adding.invariant.table.kept in
    let n = c.adding.place-index in
    let r = c.in_err-latest.ensures.refusal in
    let same : tree_at c.adding.store (get_or c.args.first.now n 0) +ᵍ tree_at c.adding.store (get_or c.args.second.now r.0 0) ≡ tree_at Ts (get_or c.args.first.now n 0) +ᵍ tree_at Ts (get_or c.args.second.now r.0 0) =
    ap₂ ◌+ᵍ◌ (kept.same (get_or c.args.first.now n 0) (c.requires.first.ids n c.adding-test.true)) (kept.same (get_or c.args.second.now r.0 0) (c.requires.second.ids r.0 r.1)) in
    passed-on c.from_residual.result _ (λ error. (i j : ℕ) × (i < length c.args.first.now) × (j < length c.args.second.now) × IsPairRefusal (tree_at Ts (get_or c.args.first.now i 0) +ᵍ tree_at Ts (get_or c.args.second.now j 0)) c.args.parts_limit error)
    (err_from_is_err_and c.from_residual.result c.from_residual.ensures.1)
    (n, r.0, c.adding-test.true, r.1, subst (λ (t : Tree). IsPairRefusal t c.args.parts_limit c.in_err-latest.field-0.0) same r.2)

pub returns-clause-kept : goal.returns-clause-kept
returns-clause-kept c = c.adding.invariant.table.kept

pub returns-clause-comparisons : goal.returns-clause-comparisons
returns-clause-comparisons c = c.adding.invariant.comparisons

pub returns-in_err-latest-clause-kept : goal.returns-in_err-latest-clause-kept
returns-in_err-latest-clause-kept c = extends-on _ _ _ c.adding.invariant.table.kept c.add_row.ensures.kept

pub returns-clause-right : goal.returns-clause-right
returns-clause-right c = c.adding.invariant.table.right
