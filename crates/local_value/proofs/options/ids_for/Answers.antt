use Rattle.std.proofs.Common.{sym, ap, ◌∙◌}
use Rattle.local_value.proofs.OptionNumberLemmas.{more_some, more_none}
use Rattle.local_value.proofs.options.ids_for.Goals as goal
use Rattle.local_value.proofs.options.ids_for.Goals.{in-Some+in_ok-push-in-Some, in-None}

pub loop-option-preserved : goal.loop-option-preserved
loop-option-preserved c =
    let k = c.loop-option.option-index in
    elim c.match-id_for.branch [
      | in-Some+in_ok-push-in-Some w ↦ ap (λ v. v.items) w.ids-is ∙ more_some c.args.player c.args.options.now c.loop-option.ids.items w.push.new.self.items k w.in-Some.id
          c.loop-option-test.true c.loop-option.invariant (sym c.id_for.ensures ∙ w.in-Some.is) w.in_ok-push-in-Some.ensures.items
      | in-None w ↦ ap (λ v. v.items) w.ids-is ∙ more_none c.args.player c.args.options.now c.loop-option.ids.items k
          c.loop-option-test.true c.loop-option.invariant (sym c.id_for.ensures ∙ w.in-None.is)
    ]
