use Rattle.std.proofs.Common.{◌≤◌, ◌^◌, ◌-ℤ◌, refl, set, subst, sym, unsigned_abs}
use Rattle.short_games.specs.Sum.{total}
use Rattle.game_store.specs.Meaning.{pick}
use Rattle.endgame_solver.specs.SumGame.{balance}
use Rattle.endgame_solver.specs.Thresholds.{IsLeastWin}
use Rattle.endgame_solver.proofs.MarginLaws.{halves_back}
use Rattle.cycle_solver.specs.inner.Asked.{AreAnswers}
use Rattle.cycle_solver.proofs.AskedLaws.{answer_serves, answers_more}
use Rattle.cycle_solver.proofs.asked.asked_margin.Goals as goal

pub returns-in-Some-clause-margin : goal.returns-in-Some-clause-margin
returns-in-Some-clause-margin c =
    let right = subst (AreAnswers c.args.store.now c.args.sum.now c.args.first) (sym c.deref.ensures.value) c.requires.right in
    let (least, small) = answer_serves c.requires.place right refl (c.in-Some.ensures {u = tt}) in
    subst (λ n. IsLeastWin c.args.first (total (pick c.args.store.now (set c.args.sum.now c.args.place c.args.after))) (balance c.args.purses -ℤ n))
    (halves_back c.in-Some.margin small) least

pub returns-in-Some-clause-small : goal.returns-in-Some-clause-small
returns-in-Some-clause-small c =
    let right = subst (AreAnswers c.args.store.now c.args.sum.now c.args.first) (sym c.deref.ensures.value) c.requires.right in
    let (least, small) = answer_serves c.requires.place right refl (c.in-Some.ensures {u = tt}) in
    subst (λ n. unsigned_abs n ≤ 2 ^ 46) (halves_back c.in-Some.margin small) small

pub returns-clause-right : goal.returns-clause-right
returns-clause-right c =
    let found = c.changed_margin-margin.ensures in
    let back = halves_back c.changed_margin-margin.result found.small in
    answers_more c.requires.place c.requires.right refl
    (subst (λ n. IsLeastWin c.args.first (total (pick c.args.store.now (set c.args.sum.now c.args.place c.args.after))) (balance c.args.purses -ℤ n)) back found.margin)
    (subst (λ n. unsigned_abs n ≤ 2 ^ 46) back found.small) c.keep.ensures
