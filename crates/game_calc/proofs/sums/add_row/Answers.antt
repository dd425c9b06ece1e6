use Rattle.std.proofs.Common.{ℕ, ◌<◌, length, get_or}
use Rattle.std.proofs.lemmas.Result.{err_from_is_err_and}
use Rattle.short_games.specs.Sum.{◌+ᵍ◌}
use Rattle.short_games.specs.Tree.{tree_at}
use Rattle.game_canon.proofs.ChangedIdLaws.{passed-on, extends-on}
use Rattle.game_calc.specs.inner.Steps.{IsPairRefusal}
use Rattle.game_calc.specs.inner.Table.{noted}
use Rattle.game_calc.proofs.ReturnSteps.{small-kept}
use Rattle.game_calc.proofs.TableSteps.{row-first, row-second, row-step}
use Rattle.game_calc.proofs.sums.add_row.Goals as goal

pub pair_sum-requires-clause-first : goal.pair_sum-requires-clause-first
pair_sum-requires-clause-first c = row-first c.args.store.now c.adding.store c.args.parts_limit c.args.a (noted c.args.sums.now) (noted c.adding.sums) c.args.places.now c.adding.place-index c.adding.invariant.table c.requires.a c.adding-test.true c.requires.inner

pub pair_sum-requires-clause-second : goal.pair_sum-requires-clause-second
pair_sum-requires-clause-second c = row-second c.args.store.now c.adding.store c.args.parts_limit c.args.a (noted c.args.sums.now) (noted c.adding.sums) c.args.places.now c.adding.place-index c.adding.invariant.table c.requires.a c.adding-test.true c.len-count.ensures.distinct c.requires.places

pub returns-in_err-note_sum-clause-refusal : goal.returns-in_err-note_sum-clause-refusal
returns-in_err-note_sum-clause-refusal c =
    passed-on c.from_residual-in_err-note_sum.result _ (λ error. (j : ℕ) × (j < length c.args.places.now) × IsPairRefusal (tree_at c.args.store.now c.args.a +ᵍ tree_at c.args.store.now (get_or c.args.places.now j 0)) c.args.parts_limit error)
    (err_from_is_err_and c.from_residual-in_err-note_sum.result c.from_residual-in_err-note_sum.ensures.1) (c.adding.place-index, c.adding-test.true, tt)

pub adding-preserved : goal.adding-preserved
adding-preserved c = record {
  comparisons = c.pair_sum.ensures.comparisons;
  small = c.later-latest.ensures c.pair_sum.new.store c.args.parts_limit (small-kept c.adding.store c.pair_sum.new.store c.args.parts_limit c.adding.latest c.pair_sum.ensures.kept c.adding.invariant.small) (c.in_ok-sum.ensures.value.0, c.in_ok-sum.ensures.parts);
  table = row-step c.args.store.now c.adding.store c.args.parts_limit c.args.a (noted c.args.sums.now) (noted c.adding.sums) c.args.places.now c.adding.place-index c.adding.invariant.table c.requires.a c.adding-test.true
      c.pair_sum.new.store (noted c.note_sum.new.sums) c.in_ok-sum.sum (c.requires.places.ids c.adding.place-index c.adding-test.true) c.pair_sum.ensures.kept c.in_ok-sum.ensures.value c.in_ok-sum.ensures.parts c.in_ok-note_sum.ensures;
}

pub returns-clause-kept : goal.returns-clause-kept
returns-clause-kept c = c.adding.invariant.table.kept

pub returns-clause-right : goal.returns-clause-right
returns-clause-right c = c.adding.invariant.table.right

pub returns-clause-grows : goal.returns-clause-grows
returns-clause-grows c = c.adding.invariant.table.grows

pub returns-clause-comparisons : goal.returns-clause-comparisons
returns-clause-comparisons c = c.adding.invariant.comparisons

pub returns-clause-latest : goal.returns-clause-latest
returns-clause-latest c = c.adding.invariant.small

pub returns-in_err-sum-clause-kept : goal.returns-in_err-sum-clause-kept
returns-in_err-sum-clause-kept c = extends-on _ _ _ c.adding.invariant.table.kept c.pair_sum.ensures.kept

pub returns-in_err-note_sum-clause-kept : goal.returns-in_err-note_sum-clause-kept
returns-in_err-note_sum-clause-kept c = extends-on _ _ _ c.adding.invariant.table.kept c.pair_sum.ensures.kept
