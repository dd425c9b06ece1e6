use Rattle.std.proofs.Common.{◌↔◌, IsTrue, pos, refl, subst, sym}
use Rattle.short_games.specs.Sum.{total}
use Rattle.game_store.specs.Meaning.{pick}
use Rattle.go_grid.specs.Board.{other}
use Rattle.endgame_solver.specs.SumGame.{balance}
use Rattle.endgame_solver.proofs.MarginLaws.{halves_back}
use Rattle.cycle_solver.specs.Thresholds.{IsGoodFor}
use Rattle.cycle_solver.proofs.AskedLaws.{won_by_margin}
use Rattle.cycle_solver.proofs.ChangeLaws.{won_after}
use Rattle.cycle_solver.proofs.asked.wins_behind.Goals as goal

pub returns-in-Some-clause-wins : goal.returns-in-Some-clause-wins
returns-in-Some-clause-wins c =
    let x = c.args.change in
    let present = c.args.present.now in
    let d = c.args.player in
    let n = c.in-Some.margin in
    let won = c.in-Some.ensures {u = tt} in
    let by = won_by_margin d (other present.whole.now.side) (total (pick present.store.now won.ids)) (balance x.purses) n won.least in
    let good = subst (λ z. IsTrue c.is_margin_good.result ↔ IsGoodFor d z (pos 0)) (sym (halves_back n won.small)) c.is_margin_good.ensures in
    won_after present x c.requires.change d won.ids won.summed refl (λ h. by.0 (good.0 h), λ w. good.1 (by.1 w))
