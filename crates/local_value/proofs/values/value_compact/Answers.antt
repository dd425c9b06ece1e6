use Rattle.std.proofs.Common.{arith}
use Rattle.std.proofs.lemmas.Result.{err_from_is_err_and}
use Rattle.go_grid.specs.Region.{Region}
use Rattle.game_canon.proofs.ChangedIdLaws.{passed-on}
use Rattle.local_value.specs.Refusals.{IsValueRefusal}
use Rattle.local_trees.specs.GraphPlaces.{IsGraphOf}
use Rattle.local_value.proofs.values.value_compact.Goals as goal

pub value_places-valued-requires-clause-places : goal.value_places-valued-requires-clause-places
value_places-valued-requires-clause-places c = omega (arith, c.in_ok-ids.ids.ok, c.in_ok-ids.ensures.len, c.len.ensures)

pub value_places-valued-requires-clause-memo : goal.value_places-valued-requires-clause-memo
value_places-valued-requires-clause-memo c = c.new-memo.ensures c.args.store.now c.args.parts_limit

pub returns-in_err-valued-clause-refusal : goal.returns-in_err-valued-clause-refusal
returns-in_err-valued-clause-refusal c = passed-on c.from_residual-in_err-valued.result _ (λ e. (r : Region) → IsGraphOf r c.args.graph.now → IsValueRefusal r c.args.graph.now c.args.parts_limit e)
    (err_from_is_err_and c.from_residual-in_err-valued.result c.from_residual-in_err-valued.ensures.1) c.in_err-valued.ensures.refusal

pub returns-in_err-valued-clause-kept : goal.returns-in_err-valued-clause-kept
returns-in_err-valued-clause-kept c = c.value_places-valued.ensures.kept

pub returns-clause-values : goal.returns-clause-values
returns-clause-values c = rw (c.from.ensures, c.in_ok-long.ensures, c.deref.ensures.value) c.in_ok-valued.ensures.values

pub returns-clause-sizes : goal.returns-clause-sizes
returns-clause-sizes c = rw (c.from.ensures, c.in_ok-long.ensures, c.deref.ensures.value) c.in_ok-valued.ensures.sizes

pub returns-clause-parts : goal.returns-clause-parts
returns-clause-parts c = rw (c.from.ensures, c.in_ok-long.ensures, c.deref.ensures.value) c.in_ok-valued.ensures.parts

pub returns-clause-bounds : goal.returns-clause-bounds
returns-clause-bounds c = rw (c.from.ensures, c.in_ok-long.ensures, c.deref.ensures.value) c.in_ok-valued.ensures.bounds

pub returns-clause-kept : goal.returns-clause-kept
returns-clause-kept c = c.value_places-valued.ensures.kept

pub returns-in_err-long-clause-kept : goal.returns-in_err-long-clause-kept
returns-in_err-long-clause-kept c = c.value_places-valued.ensures.kept
