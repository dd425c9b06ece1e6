use Rattle.std.proofs.Common.{subst}
use Rattle.short_games.specs.Tree.{tree_at}
use Rattle.game_calc.specs.inner.Returns.{IsSmall}
use Rattle.game_calc.proofs.ReturnSteps.{few-follower}
use Rattle.game_calc.proofs.returns.returned.Goals as goal

pub returns-then-is_form_of : goal.returns-then-is_form_of
returns-then-is_form_of c =
    let Ts = c.args.store.now in
    let id = c.candidate-id.result in
    let same = c.is_form_of.ensures c.if-is_form_of.true in (
      (c.candidate-id.ensures.held, record { canonical = c.len-count.ensures.canonical id c.candidate-id.ensures.held; under = same.0; over = same.1 }),
      λ limit small. few-follower (tree_at Ts c.in_ok-latest.latest) (tree_at Ts id) limit c.candidate-id.ensures.follower (subst (IsSmall Ts limit) c.in_ok-latest.was small).1,
    )
