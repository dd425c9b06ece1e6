use Rattle.std.proofs.Common.{◌≤◌, ◌^◌, arith, refl, set, subst, sym, unsigned_abs}
use Rattle.short_games.specs.Sum.{total}
use Rattle.game_store.specs.Meaning.{pick}
use Rattle.endgame_solver.specs.Thresholds.{IsLeastWin}
use Rattle.endgame_solver.specs.inner.Asked.{AreAnswers}
use Rattle.endgame_solver.proofs.AskedLaws.{answer_serves, answers_more}
use Rattle.endgame_solver.proofs.MarginLaws.{halves_back}
use Rattle.endgame_solver.proofs.asked.least_after.Goals as goal

pub returns-in-Some-clause-least : goal.returns-in-Some-clause-least
returns-in-Some-clause-least c =
    let right = subst (AreAnswers c.args.store.now c.args.sum.now c.args.first) (sym c.deref.ensures.value) c.requires.right in
    let (least, small) = answer_serves c.requires.place right refl (c.in-Some.ensures {u = tt}) in
    subst (IsLeastWin c.args.first (total (pick c.args.store.now (set c.args.sum.now c.args.place c.args.after))))
    (halves_back c.in-Some.least (omega (arith, small))) least

pub returns-in-Some-clause-small : goal.returns-in-Some-clause-small
returns-in-Some-clause-small c =
    let right = subst (AreAnswers c.args.store.now c.args.sum.now c.args.first) (sym c.deref.ensures.value) c.requires.right in
    let (least, small) = answer_serves c.requires.place right refl (c.in-Some.ensures {u = tt}) in
    subst (λ n. unsigned_abs n ≤ 2 ^ 45) (halves_back c.in-Some.least (omega (arith, small))) small

pub returns-clause-right : goal.returns-clause-right
returns-clause-right c =
    let found = c.changed_least-least.ensures in
    let back = halves_back c.changed_least-least.result (omega (arith, found.small)) in
    answers_more c.requires.place c.requires.right refl
    (subst (IsLeastWin c.args.first (total (pick c.args.store.now (set c.args.sum.now c.args.place c.args.after)))) back found.least)
    (subst (λ n. unsigned_abs n ≤ 2 ^ 45) back found.small) c.keep.ensures
