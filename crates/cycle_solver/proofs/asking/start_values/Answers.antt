use Rattle.std.proofs.Common.{◌≡◌, ap, arith, length, subst, sym}
use Rattle.std.proofs.lemmas.Result.{IfOk-from_err}
use Rattle.cycle_solver.specs.Held.{AreSummed, enough}
use Rattle.cycle_solver.proofs.TurnLaws.{refilled}
use Rattle.cycle_solver.proofs.asking.start_values.Goals as goal

pub returns-in_err-ids : goal.returns-in_err-ids
returns-in_err-ids c =
    IfOk-from_err c.from_residual.result (λ ids. AreSummed c.args.games.now c.args.places.now c.args.player enough ids.items) c.from_residual.ensures.0

pub fill-requires-clause-many : goal.fill-requires-clause-many
fill-requires-clause-many c =
    omega (arith, ap length c.deref_mut.ensures.value, (c.in_ok-ids.ensures {u = tt}).len, c.len.ensures, c.in_ok-ids.ids.ok)

pub fill-requires-clause-places : goal.fill-requires-clause-places
fill-requires-clause-places c = c.requires.places

pub returns : goal.returns
returns c =
    let long : length c.fill.new.sum ≡ length c.in_ok-ids.ids.items =
    omega (arith, c.fill.ensures.many, (c.in_ok-ids.ensures {u = tt}).len, c.len.ensures, c.in_ok-ids.ids.ok) in
    subst (AreSummed c.args.games.now c.args.places.now c.args.player enough) (sym (refilled c.deref_mut.ensures.value c.deref_mut.ensures.len long)) c.fill.ensures
