use Rattle.std.proofs.Common.{◌<◌, ◌+◌, arith, refl, sym, subst}
use Rattle.std.proofs.lemmas.Bool.{false≢true}
use Rattle.game_canon.specs.inner.Games.{trees}
use Rattle.game_canon.specs.inner.Comparisons.{counter, IsCountered}
use Rattle.game_canon.proofs.ComparisonLaws.{counter-below, none-counters, one-counters, for-all-lists}
use Rattle.game_canon.proofs.at_most.go_on.Goals as goal

pub returns-in-None : goal.returns-in-None
returns-in-None c =
    let p = c.left_options-left.ensures in
    let q = c.right_options-right.ensures in (
      for-all-lists c.args.games.now.store.now c.args.games.now.unstored c.args.question.game c.args.question.other c.left_options-left.result.now c.right_options-right.result.now p.0 q.0 c.counters.place c.requires.games.distinct c.requires.open.first_id c.requires.open.second_id p.1 q.1 c.counters.invariant,
      c.in-None.ensures.none,
      subst (λ r. r.0 + r.1 < c.args.question.game + c.args.question.other) (sym c.counter_at-game.ensures)
          (counter-below (trees c.args.games.now) c.args.question.game c.args.question.other c.left_options-left.result.now c.right_options-right.result.now p.0 q.0 p.1 q.1 c.requires.open.first_id c.requires.open.second_id c.counters.place c.counters-test.true).2,
    )

pub returns-in-Some-true : goal.returns-in-Some-true
returns-in-Some-true c =
    let p = c.left_options-left.ensures in
    let q = c.right_options-right.ensures in
    let counters : IsCountered (trees c.args.games.now) (counter c.args.question.game c.args.question.other c.left_options-left.result.now c.right_options-right.result.now c.counters.place)
    = subst (IsCountered (trees c.args.games.now)) c.counter_at-game.ensures (c.in-Some-true.ensures.some.0 c.in-Some-true.field-0-test) in (
      λ e. absurd (false≢true e),
      λ y. absurd (one-counters (trees c.args.games.now) c.args.question.game c.args.question.other c.left_options-left.result.now c.right_options-right.result.now p.0 q.0 p.1 q.1 c.counters.place c.counters-test.true counters y),
    )

pub returns : goal.returns
returns c =
    let p = c.left_options-left.ensures in
    let q = c.right_options-right.ensures in (
      λ _. none-counters (trees c.args.games.now) c.args.question.game c.args.question.other c.left_options-left.result.now c.right_options-right.result.now p.0 q.0 p.1 q.1 (λ j l. c.counters.invariant j (omega (arith, l, c.counters-test.false)) l),
      λ _. refl,
    )
