use Rattle.std.proofs.Common.{◌∙◌, ◌-ℤ◌, ap, arith, subst, sym}
use Rattle.short_games.specs.Sum.{total}
use Rattle.game_store.specs.Meaning.{pick}
use Rattle.endgame_solver.specs.SumGame.{balance}
use Rattle.endgame_solver.specs.Thresholds.{IsLeastWin}
use Rattle.endgame_solver.proofs.MarginLaws.{halves_back, taken_least}
use Rattle.endgame_solver.proofs.thresholds.margin_of.Goals as goal

pub returns-clause-margin : goal.returns-clause-margin
returns-clause-margin c =
    let G = total (pick c.args.store.now c.args.sum.now) in
    let b = balance c.args.purses in
    let n = c.margin_from.result in
    let least = c.least_win.result in
    let left = c.margin_from.ensures.margin ∙ ap (λ z. b -ℤ z) (sym (halves_back least (omega (arith, c.least_win.ensures.small)))) in
    subst (λ n. IsLeastWin c.args.first G (b -ℤ n)) (halves_back n c.margin_from.ensures.small)
    (subst (IsLeastWin c.args.first G) (taken_least b least n left) c.least_win.ensures.least)
