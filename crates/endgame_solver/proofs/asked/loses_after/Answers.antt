use Rattle.std.proofs.Common.{◌↔◌, ◌≤ℤ◌, IsTrue, arith, refl, set, subst, sym}
use Rattle.short_games.specs.Number.{num}
use Rattle.short_games.specs.Sum.{◌+ᵍ◌, total}
use Rattle.game_store.specs.Meaning.{pick}
use Rattle.game_players.specs.Players.{LosesGame}
use Rattle.endgame_solver.specs.SumGame.{balance}
use Rattle.endgame_solver.proofs.HeldLaws.{small_balance}
use Rattle.endgame_solver.proofs.AskedLaws.{answer_serves}
use Rattle.endgame_solver.proofs.MarginLaws.{beside_units, games_bounded, halves_back, units_back}
use Rattle.endgame_solver.proofs.asked.loses_after.Goals as goal

pub loses_with-requires-clause-bounds : goal.loses_with-requires-clause-bounds
loses_with-requires-clause-bounds c = games_bounded c.args.store.now (set c.args.sum.now c.args.place c.args.after) (balance c.args.purses)
    c.balance_of.result c.requires.games (small_balance c.args.purses c.requires.purses) c.balance_of.ensures

pub returns-clause-answer : goal.returns-clause-answer
returns-clause-answer c =
    let G = total (pick c.args.store.now (set c.args.sum.now c.args.place c.args.after)) in
    subst (λ t. IsTrue c.loses_with.result ↔ LosesGame c.args.first t) (beside_units G (balance c.args.purses) c.balance_of.result c.balance_of.ensures)
    c.loses_with.ensures.answer

pub returns-in-Some-clause-answer : goal.returns-in-Some-clause-answer
returns-in-Some-clause-answer c =
    let G = total (pick c.args.store.now (set c.args.sum.now c.args.place c.args.after)) in
    let b = balance c.args.purses in
    let (least, small) = answer_serves c.requires.place c.requires.right refl (c.in-Some.ensures {u = tt}) in
    let number = halves_back c.in-Some.least (omega (arith, small)) in
    let worth = units_back c.balance_halves.ensures.halves (omega (arith, small_balance c.args.purses c.requires.purses)) in
    let reached : IsTrue c.is_reached.result ↔ (c.in-Some.least ≤ℤ b) =
    subst (λ T. T) (λ i. IsTrue c.is_reached.result ↔ (sym number i ≤ℤ sym worth i)) c.is_reached.ensures in
    c.loses_where.ensures (G +ᵍ num 1 b) (λ h. (least b).1 (reached.0 h), λ w. reached.1 ((least b).0 w))
